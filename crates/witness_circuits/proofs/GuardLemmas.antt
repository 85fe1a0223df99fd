-- Where a witness circuit guards a bad property, it does not rise in any trace: beside each frame stands one of the witness circuit.
use Rattle.std.proofs.Common.{◌≡◌, ℕ, suc, Bool, true, false, List, [], ◌∷◌, length, map, replicate, All, Option, Some, None, ◌&&◌, ◌||◌, refl, sym, ap, ap₂, subst, ◌∙◌}
use Rattle.std.specs.List.{list_all}
use Rattle.std.proofs.Math.Bool.{and-false}
use Rattle.std.proofs.lemmas.Bool.{true≢false}
use Rattle.std.proofs.lemmas.List.{length-map, length-replicate}
use Rattle.std.proofs.lemmas.List.Folds.{list_all-map}
use Rattle.std.proofs.lemmas.List.Elements.{All-nil, All-cons}
use Rattle.aiger.specs.declared.circuit.Latch.{Latch}
use Rattle.base.specs.Literal.{Valuation, literal_value}
use Rattle.aiger.specs.Circuit.{Circuit}
use Rattle.aiger.specs.Trace.{IsCircuitFrame, IsCircuitTrace, next_latch_bits, AreInitial}
use Rattle.base.specs.Shown.{rises_within}
use Rattle.aiger.specs.Reachability.{circuit_shows, CanRiseInCircuit}
use Rattle.witness_circuits.proofs.StartLemmas.{first, first_agrees}
use Rattle.witness_circuits.specs.Mapping.{Mapping}
use Rattle.witness_circuits.specs.Certificate.{MeetsConstraints, bad_rises, constraints_hold}
use Rattle.witness_circuits.specs.Guards.{ClaimHolds, Guards, IsBeside, beside}

-- ---- there is one beside each valuation

length-beside : (v : Valuation) (ms : List (Option ℕ)) (bs : List Bool) → length bs ≡ length ms → length (beside v ms bs) ≡ length ms
length-beside v [] bs e = refl
length-beside v (m ∷ ms) [] e = absurd (cc)
length-beside v (None ∷ ms) (b ∷ bs) e = let rest : length bs ≡ length ms = cc in ap suc (length-beside v ms bs rest)
length-beside v (Some l ∷ ms) (b ∷ bs) e = let rest : length bs ≡ length ms = cc in ap suc (length-beside v ms bs rest)

-- there is a trace of a circuit
abbrev pub Exists : Circuit → Type 0
Exists c = (state : List Bool) (inputs : List (List Bool)) → length state ≡ length c.latches → All (λ input. length input ≡ c.inputs) inputs → (vs : List Valuation) × IsCircuitTrace c state inputs vs

-- what stands beside a valuation of the circuit, and holds
record Entered (w : Circuit) (m : Mapping) (v : Valuation) : Type 0 where
  valuation : Valuation
  own : List Bool
  stands : IsBeside w m v own valuation
  holds : ClaimHolds w valuation

stands_beside : (c : Circuit) (k : ℕ) (w : Circuit) (m : Mapping) → Guards c k w m → Exists w → (v : Valuation) (own : List Bool) → length own ≡ length w.latches → (x : Valuation) × IsBeside w m v own x
stands_beside c k w m g exists v own e = by there.0 there.1
  where
    given : List Bool
    given = replicate w.inputs false

    state : List Bool
    state = beside v m.latches own

    input : List Bool
    input = beside v m.inputs given

    there : (vs : List Valuation) × IsCircuitTrace w state (input ∷ []) vs
    there =
        exists state (input ∷ [])
        (length-beside v m.latches own (e ∙ sym g.mapping.latches) ∙ g.mapping.latches)
        (All-cons (λ (i : List Bool). length i ≡ w.inputs) input [] (length-beside v m.inputs given (length-replicate w.inputs false ∙ sym g.mapping.inputs) ∙ g.mapping.inputs) (All-nil (λ (i : List Bool). length i ≡ w.inputs)))

    by : (vs : List Valuation) → IsCircuitTrace w state (input ∷ []) vs → (x : Valuation) × IsBeside w m v own x
    by [] t = absurd t
    by (x ∷ xs) t = (x, record { given = given; frame = t.0 })

-- ---- along a trace

-- beside each frame from a state in which the constraints hold, something stands and holds
abbrev Enters : Circuit → Circuit → Mapping → List Bool → Type 0
Enters c w m state = (input : List Bool) (v : Valuation) → IsCircuitFrame c state input v → constraints_hold c v ≡ true → Entered w m v

next_enters : (c : Circuit) (k : ℕ) (w : Circuit) (m : Mapping) → Guards c k w m → Exists w → (v : Valuation) → MeetsConstraints c v → Entered w m v → Enters c w m (next_latch_bits c v)
next_enters c k w m g exists v met here input next frame e =
    let own : List Bool = next_latch_bits w here.valuation in
    let there = stands_beside c k w m g exists next own (length-map w.latches (λ (latch : Latch). literal_value here.valuation latch.next)) in
    record {
      valuation = there.0;
      own = own;
      stands = there.1;
      holds = g.goes_on v next here.valuation there.0 here.own met (record { gates = frame.gates; constraints = e }) frame.latches here.stands here.holds there.1;
    }

-- one frame of it
shown_step : (c : Circuit) (k : ℕ) (v : Valuation) (rest : Bool) → (constraints_hold c v ≡ true → (bad_rises c k v ≡ false) × (rest ≡ false))
    → (list_all (λ holds. holds) (map (literal_value v) c.constraints) && (bad_rises c k v || rest)) ≡ false
shown_step c k v rest h = by (constraints_hold c v) refl
  where
    shown : Bool
    shown = list_all (λ holds. holds) (map (literal_value v) c.constraints)

    same : shown ≡ constraints_hold c v
    same = list_all-map (λ holds. holds) (literal_value v) c.constraints

    by : (b : Bool) → constraints_hold c v ≡ b → (shown && (bad_rises c k v || rest)) ≡ false
    by false e = ap (λ (b : Bool). b && (bad_rises c k v || rest)) (same ∙ e)
    by true e = let both = h e in ap₂ (λ (x y : Bool). shown && (x || y)) both.0 both.1 ∙ and-false shown

follow : (c : Circuit) (k : ℕ) (w : Circuit) (m : Mapping) → Guards c k w m → Exists w → (state : List Bool) (inputs : List (List Bool)) (vs : List Valuation)
    → IsCircuitTrace c state inputs vs → Enters c w m state → rises_within k (map (circuit_shows c) vs) ≡ false
follow c k w m g exists state [] [] t enters = refl
follow c k w m g exists state [] (v ∷ vs) t enters = absurd t
follow c k w m g exists state (input ∷ inputs) [] t enters = absurd t
follow c k w m g exists state (input ∷ inputs) (v ∷ vs) t enters =
    shown_step c k v (rises_within k (map (circuit_shows c) vs)) (λ (e : constraints_hold c v ≡ true).
    let met : MeetsConstraints c v = record { gates = t.0.gates; constraints = e } in
    let here = enters input v t.0 e in
    (g.excludes v here.valuation here.own met here.stands here.holds, follow c k w m g exists (next_latch_bits c v) inputs vs t.1 (next_enters c k w m g exists v met here)))

-- ---- the start

abbrev firsts : List Latch → List Bool
firsts ls = map (λ latch. first latch.reset) ls

firsts_initial : (ls : List Latch) → AreInitial ls (firsts ls)
firsts_initial [] = tt
firsts_initial (l ∷ ls) = (first_agrees l.reset, firsts_initial ls)

length-firsts : (ls : List Latch) → length (firsts ls) ≡ length ls
length-firsts ls = length-map ls (λ (latch : Latch). first latch.reset)

first_enters : (c : Circuit) (k : ℕ) (w : Circuit) (m : Mapping) → Guards c k w m → Exists w → (state : List Bool) → AreInitial c.latches state → Enters c w m state
first_enters c k w m g exists state initial input v frame e =
    let own : List Bool = firsts w.latches in
    let there = stands_beside c k w m g exists v own (length-firsts w.latches) in
    record {
      valuation = there.0;
      own = own;
      stands = there.1;
      holds =
          g.begins v there.0 own (record { gates = frame.gates; constraints = e })
          (subst (λ (s : List Bool). AreInitial c.latches s) (sym frame.latches) initial)
          (firsts_initial w.latches) there.1;
    }

pub never_rises : (c : Circuit) (k : ℕ) (w : Circuit) (m : Mapping) → Guards c k w m → Exists w → CanRiseInCircuit c k → ⊥
never_rises c k w m g exists rise =
    true≢false (sym rise.rises ∙ follow c k w m g exists rise.state rise.inputs rise.frames rise.trace (first_enters c k w m g exists rise.state rise.initial))
