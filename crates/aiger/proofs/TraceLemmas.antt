-- There is exactly one trace from initial bits under input frames.
use Rattle.std.proofs.Common.{◌≡◌, ℕ, zero, suc, ◌+◌, ◌*◌, ◌/◌, ◌<◌, ◌≤◌, Bool, false, ◌&&◌, List, [], ◌∷◌, map, length, All, if◌then◌else◌, ◌==◌, refl, ap, sym, ◌∙◌, subst, arith, ⊎_elim, take}
use Rattle.std.proofs.lemmas.Bool.Decides.{nat_tests}
use Rattle.std.proofs.lemmas.Bool.{cases_lt}
use Rattle.std.proofs.lemmas.List.{length-map}
use Rattle.std.proofs.lemmas.List.Elements.{All-head, All-tail, All-nil, All-cons}
use Rattle.aiger.specs.declared.circuit.Gate.{Gate}
use Rattle.aiger.specs.declared.circuit.Latch.{Latch}
use Rattle.base.specs.Literal.{Valuation, literal_value}
use Rattle.aiger.specs.Net.{variables, SatisfiesFrom, AreOrderedFrom, bits_from}
use Rattle.aiger.specs.Circuit.{Circuit, IsCircuit, net}
use Rattle.aiger.specs.Trace.{IsCircuitFrame, IsCircuitTrace, next_latch_bits, SameCircuitFrame, SameCircuitTrace}
use Rattle.aiger.proofs.NetLemmas.{length-bits_from}

-- a valuation with another bit at one variable
abbrev put : Valuation → ℕ → Bool → Valuation
put v k b = λ j. if j == k then b else v j

put-same : (v : Valuation) (k : ℕ) (b : Bool) → put v k b k ≡ b
put-same v k b = grind (arith, nat_tests)

put-below : (v : Valuation) (k : ℕ) (b : Bool) (j : ℕ) → j < k → put v k b j ≡ v j
put-below v k b j h = grind (arith, nat_tests)

-- two valuations agree on each variable from 1 to below a bound
abbrev pub AgreeBelow : ℕ → Valuation → Valuation → Type 0
AgreeBelow bound v w = (k : ℕ) → 1 ≤ k → k < bound → v k ≡ w k

-- so they agree on each literal below twice the bound
pub literal_value-agree : (bound : ℕ) (v w : Valuation) (l : ℕ) → AgreeBelow bound v w → l < 2 * bound → literal_value v l ≡ literal_value w l
literal_value-agree bound v w zero a h = refl
literal_value-agree bound v w (suc zero) a h = refl
literal_value-agree bound v w (suc (suc l)) a h =
    let e : v (suc (suc l) / 2) ≡ w (suc (suc l) / 2) = a (suc (suc l) / 2) (omega arith) (omega arith) in
    grind (arith, nat_tests)

-- and have the same bits there
pub bits_from-agree : (first count : ℕ) (v w : Valuation) → ((k : ℕ) → first ≤ k → k < first + count → v k ≡ w k) → bits_from first count v ≡ bits_from first count w
bits_from-agree first zero v w a = refl
bits_from-agree first (suc count) v w a =
    let h : v first ≡ w first = a first (omega arith) (omega arith) in
    let t : bits_from (suc first) count v ≡ bits_from (suc first) count w = bits_from-agree (suc first) count v w (λ k low high. a k (omega arith) (omega arith)) in
    cc

-- the same bits are the same variables
agree_from_bits : (first count : ℕ) (v w : Valuation) → bits_from first count v ≡ bits_from first count w → (k : ℕ) → first ≤ k → k < first + count → v k ≡ w k
agree_from_bits first zero v w e k low high = absurd (omega arith)
agree_from_bits first (suc count) v w e k low high =
    let h : v first ≡ w first = cc in
    let t : bits_from (suc first) count v ≡ bits_from (suc first) count w = cc in
    ⊎_elim (λ (l : k < suc first). let f : k ≡ first = omega arith in rw f h)
    (λ (l : suc first ≤ k). agree_from_bits (suc first) count v w t k l (omega arith))
    (cases_lt k (suc first))

-- the valuation with bits put from a first variable on
put_bits : ℕ → List Bool → Valuation → Valuation
put_bits first [] v = v
put_bits first (b ∷ bs) v = put_bits (suc first) bs (put v first b)

put_bits-below : (first : ℕ) (bits : List Bool) (v : Valuation) (k : ℕ) → k < first → put_bits first bits v k ≡ v k
unfolding put_bits
put_bits-below first [] v k h = refl
put_bits-below first (b ∷ bs) v k h =
    put_bits-below (suc first) bs (put v first b) k (omega arith) ∙ put-below v first b k h

-- which then has these bits
bits_from-put_bits : (first : ℕ) (bits : List Bool) (v : Valuation) → bits_from first (length bits) (put_bits first bits v) ≡ bits
unfolding put_bits
bits_from-put_bits first [] v = refl
bits_from-put_bits first (b ∷ bs) v =
    let h : put_bits (suc first) bs (put v first b) first ≡ b = put_bits-below (suc first) bs (put v first b) first (omega arith) ∙ put-same v first b in
    let t : bits_from (suc first) (length bs) (put_bits (suc first) bs (put v first b)) ≡ bs = bits_from-put_bits (suc first) bs (put v first b) in
    cc

-- the bits of a gate's operands, both true
abbrev gate_bit : Gate → Valuation → Bool
gate_bit g v = literal_value v g.rhs0 && literal_value v g.rhs1

-- the valuation with each gate's variable put, one gate after the other
put_gates : ℕ → List Gate → Valuation → Valuation
put_gates first [] v = v
put_gates first (g ∷ gs) v = put_gates (suc first) gs (put v first (gate_bit g v))

put_gates-below : (first : ℕ) (gs : List Gate) (v : Valuation) (k : ℕ) → k < first → put_gates first gs v k ≡ v k
unfolding put_gates
put_gates-below first [] v k h = refl
put_gates-below first (g ∷ gs) v k h =
    put_gates-below (suc first) gs (put v first (gate_bit g v)) k (omega arith) ∙ put-below v first (gate_bit g v) k h

-- it satisfies the gates, where they are in order
SatisfiesFrom-put_gates : (first : ℕ) (gs : List Gate) (v : Valuation) → AreOrderedFrom first gs → SatisfiesFrom first gs (put_gates first gs v)
unfolding put_gates
SatisfiesFrom-put_gates first [] v o = tt
SatisfiesFrom-put_gates first (g ∷ gs) v o =
    let w : Valuation = put_gates (suc first) gs (put v first (gate_bit g v)) in
    let agree : AgreeBelow first w v = λ k low high. put_gates-below first (g ∷ gs) v k high in
    let a : literal_value w g.rhs0 ≡ literal_value v g.rhs0 = literal_value-agree first w v g.rhs0 agree o.0 in
    let b : literal_value w g.rhs1 ≡ literal_value v g.rhs1 = literal_value-agree first w v g.rhs1 agree (omega (arith, o.0, o.1)) in
    let h : w first ≡ gate_bit g v = put_gates-below (suc first) gs (put v first (gate_bit g v)) first (omega arith) ∙ put-same v first (gate_bit g v) in
    (h ∙ cc, SatisfiesFrom-put_gates (suc first) gs (put v first (gate_bit g v)) o.2)

-- the valuation of a frame
frame_of : Circuit → List Bool → List Bool → Valuation
frame_of c state input =
    put_gates (suc (c.inputs + length c.latches)) c.gates (put_bits (suc c.inputs) state (put_bits 1 input (λ k. false)))

IsFrame-frame_of : (c : Circuit) (state input : List Bool) → IsCircuit c → length state ≡ length c.latches → length input ≡ c.inputs → IsCircuitFrame c state input (frame_of c state input)
unfolding frame_of
IsFrame-frame_of c state input valid s i =
    let inner : Valuation = put_bits 1 input (λ k. false) in
    let base : Valuation = put_bits (suc c.inputs) state inner in
    let first : ℕ = suc (c.inputs + length c.latches) in
    let v : Valuation = put_gates first c.gates base in
    let e : bits_from 1 c.inputs v ≡ bits_from 1 c.inputs inner = bits_from-agree 1 c.inputs v inner (λ k low high. put_gates-below first c.gates base k (omega arith) ∙ put_bits-below (suc c.inputs) state inner k (omega arith)) in
    let f : bits_from (suc c.inputs) (length c.latches) v ≡ bits_from (suc c.inputs) (length c.latches) base = bits_from-agree (suc c.inputs) (length c.latches) v base (λ k low high. put_gates-below first c.gates base k (omega arith)) in
    record {
      gates = SatisfiesFrom-put_gates first c.gates base valid.ordered;
      inputs = e ∙ (ap (λ n. bits_from 1 n inner) (sym i) ∙ bits_from-put_bits 1 input (λ k. false));
      latches = f ∙ (ap (λ n. bits_from (suc c.inputs) n base) (sym s) ∙ bits_from-put_bits (suc c.inputs) state inner);
    }

-- there is a trace
pub trace_exists : (c : Circuit) (state : List Bool) (inputs : List (List Bool)) → IsCircuit c → length state ≡ length c.latches → All (λ input. length input ≡ c.inputs) inputs → (vs : List Valuation) × IsCircuitTrace c state inputs vs
trace_exists c state [] valid s is = ([], tt)
trace_exists c state (input ∷ inputs) valid s is =
    let v : Valuation = frame_of c state input in
    let frame : IsCircuitFrame c state input v = IsFrame-frame_of c state input valid s (All-head (λ (x : List Bool). length x ≡ c.inputs) input inputs is) in
    let n : length (next_latch_bits c v) ≡ length c.latches = length-map c.latches (λ (latch : Latch). literal_value v latch.next) in
    let rest = trace_exists c (next_latch_bits c v) inputs valid n (All-tail (λ (x : List Bool). length x ≡ c.inputs) input inputs is) in
    (v ∷ rest.0, (frame, rest.1))

-- valuations that agree below the gates agree on the gates too
agree_more : (first : ℕ) (gs : List Gate) (v w : Valuation) → 1 ≤ first → AreOrderedFrom first gs → SatisfiesFrom first gs v → SatisfiesFrom first gs w → AgreeBelow first v w → AgreeBelow (first + length gs) v w
agree_more first [] v w one o s t a = λ k low high. a k low (omega arith)
agree_more first (g ∷ gs) v w one o s t a =
    let l : literal_value v g.rhs0 ≡ literal_value w g.rhs0 = literal_value-agree first v w g.rhs0 a o.0 in
    let r : literal_value v g.rhs1 ≡ literal_value w g.rhs1 = literal_value-agree first v w g.rhs1 a (omega (arith, o.0, o.1)) in
    let h : v first ≡ w first = cc (s.0, t.0, l, r) in
    let here : AgreeBelow (suc first) v w = λ k low high. ⊎_elim (λ (x : k < first). a k low x) (λ (x : first ≤ k). let f : k ≡ first = omega arith in rw f h) (cases_lt k first) in
    let all : AgreeBelow (suc first + length gs) v w = agree_more (suc first) gs v w (omega arith) o.2 s.1 t.1 here in
    λ k low high. all k low (omega arith)

-- two frames from the same bits are the same
pub SameFrame-from_bits : (c : Circuit) (state input : List Bool) (v w : Valuation) → IsCircuit c → IsCircuitFrame c state input v → IsCircuitFrame c state input w → SameCircuitFrame c v w
SameFrame-from_bits c state input v w valid p q =
    let first : ℕ = suc (c.inputs + length c.latches) in
    let i : bits_from 1 c.inputs v ≡ bits_from 1 c.inputs w = p.inputs ∙ sym q.inputs in
    let l : bits_from (suc c.inputs) (length c.latches) v ≡ bits_from (suc c.inputs) (length c.latches) w = p.latches ∙ sym q.latches in
    let base : AgreeBelow first v w = λ k low high. ⊎_elim (λ (x : k < suc c.inputs). agree_from_bits 1 c.inputs v w i k low (omega arith)) (λ (x : suc c.inputs ≤ k). agree_from_bits (suc c.inputs) (length c.latches) v w l k x (omega arith)) (cases_lt k (suc c.inputs)) in
    let all : AgreeBelow (first + length c.gates) v w = agree_more first c.gates v w (omega arith) valid.ordered p.gates q.gates base in
    λ k low high. all k low (omega arith)

-- defined literals say the same in them
next_bits-agree : (bound : ℕ) (latches : List Latch) (v w : Valuation) → AgreeBelow bound v w → All (λ l. l.next < 2 * bound) latches → map (λ latch. literal_value v latch.next) latches ≡ map (λ latch. literal_value w latch.next) latches
next_bits-agree bound [] v w a d = refl
next_bits-agree bound (l ∷ ls) v w a d =
    let h : literal_value v l.next ≡ literal_value w l.next = literal_value-agree bound v w l.next a (All-head (λ (x : Latch). x.next < 2 * bound) l ls d) in
    let t : map (λ (latch : Latch). literal_value v latch.next) ls ≡ map (λ (latch : Latch). literal_value w latch.next) ls = next_bits-agree bound ls v w a (All-tail (λ (x : Latch). x.next < 2 * bound) l ls d) in
    cc

-- so they leave the same state
pub next_state-agree : (c : Circuit) (v w : Valuation) → IsCircuit c → SameCircuitFrame c v w → next_latch_bits c v ≡ next_latch_bits c w
next_state-agree c v w valid same =
    let bound : ℕ = suc (variables (net c)) in
    next_bits-agree bound c.latches v w (λ k low high. same k low (omega arith)) (λ k d h. omega (arith, valid.defined.nexts k d h))

-- and two traces are the same
pub trace_unique : (c : Circuit) (state : List Bool) (inputs : List (List Bool)) (vs ws : List Valuation) → IsCircuit c → IsCircuitTrace c state inputs vs → IsCircuitTrace c state inputs ws → SameCircuitTrace c vs ws
trace_unique c state [] [] [] valid s t = tt
trace_unique c state [] [] (w ∷ ws) valid s t = absurd t
trace_unique c state [] (v ∷ vs) ws valid s t = absurd s
trace_unique c state (input ∷ inputs) [] ws valid s t = absurd s
trace_unique c state (input ∷ inputs) (v ∷ vs) [] valid s t = absurd t
trace_unique c state (input ∷ inputs) (v ∷ vs) (w ∷ ws) valid s t =
    let same : SameCircuitFrame c v w = SameFrame-from_bits c state input v w valid s.0 t.0 in
    let e : next_latch_bits c v ≡ next_latch_bits c w = next_state-agree c v w valid same in
    let rest : IsCircuitTrace c (next_latch_bits c v) inputs ws = subst (λ (st : List Bool). IsCircuitTrace c st inputs ws) (sym e) t.1 in
    (same, trace_unique c (next_latch_bits c v) inputs vs ws valid s.1 rest)

-- ---- how long traces are

-- a trace has as many frames as there are input frames
pub trace_length : (c : Circuit) (state : List Bool) (inputs : List (List Bool)) (vs : List Valuation) → IsCircuitTrace c state inputs vs → length vs ≡ length inputs
trace_length c state [] [] t = refl
trace_length c state [] (v ∷ vs) t = absurd t
trace_length c state (input ∷ inputs) [] t = absurd t
trace_length c state (input ∷ inputs) (v ∷ vs) t = ap suc (trace_length c (next_latch_bits c v) inputs vs t.1)

-- each of which has a bit for each input
pub trace_inputs : (c : Circuit) (state : List Bool) (inputs : List (List Bool)) (vs : List Valuation) → IsCircuitTrace c state inputs vs → All (λ input. length input ≡ c.inputs) inputs
trace_inputs c state [] vs t = All-nil (λ input. length input ≡ c.inputs)
trace_inputs c state (input ∷ inputs) [] t = absurd t
trace_inputs c state (input ∷ inputs) (v ∷ vs) t =
    All-cons (λ input. length input ≡ c.inputs) input inputs (ap length (sym t.0.inputs) ∙ length-bits_from 1 c.inputs v) (trace_inputs c (next_latch_bits c v) inputs vs t.1)

-- and of so many of the first
pub trace_taken : (c : Circuit) (state : List Bool) (inputs : List (List Bool)) (vs : List Valuation) (n : ℕ) → IsCircuitTrace c state inputs vs → IsCircuitTrace c state (take n inputs) (take n vs)
trace_taken c state [] [] zero t = tt
trace_taken c state [] [] (suc n) t = tt
trace_taken c state [] (v ∷ vs) n t = absurd t
trace_taken c state (input ∷ inputs) [] n t = absurd t
trace_taken c state (input ∷ inputs) (v ∷ vs) zero t = tt
trace_taken c state (input ∷ inputs) (v ∷ vs) (suc n) t = (t.0, trace_taken c (next_latch_bits c v) inputs vs n t.1)
