-- The traces of a file and of its circuit.
use Rattle.std.proofs.Common.{◌≡◌, ℕ, suc, ◌+◌, ◌-◌, ◌<◌, ◌≤◌, Bool, true, false, ◌&&◌, ◌||◌, List, [], ◌∷◌, ◌++◌, map, length, All, nat_eq, nat_lt, slice_index_or, refl, ap, sym, ◌∙◌, subst, arith, if◌then◌else◌, length-append, append_assoc, append-nil}
use Rattle.std.proofs.lemmas.Bool.Decides.{nat_tests}
use Rattle.std.proofs.lemmas.List.{length-map}
use Rattle.std.proofs.lemmas.List.Elements.{All-head, All-tail, All-weaker, All-from_get_or}
use Rattle.std.specs.List.{list_any, position_or_len, count_by}
use Rattle.aiger.specs.declared.circuit.Gate.{Gate}
use Rattle.aiger.specs.declared.circuit.Latch.{Latch}
use Rattle.aigerlists.specs.declared.loose.GateLine.{GateLine}
use Rattle.aigerlists.specs.declared.loose.LatchLine.{LatchLine}
use Rattle.base.specs.Literal.{Valuation, variable, literal_value}
use Rattle.aiger.specs.Net.{SatisfiesFrom, bits_from, variables, IsDefined}
use Rattle.aiger.specs.Circuit.{Circuit, IsCircuit, net}
use Rattle.aiger.specs.Trace.{IsCircuitFrame, IsCircuitTrace, next_latch_bits, SameCircuitFrame, SameCircuitTrace}
use Rattle.aigerlists.specs.Loose.{Loose, IsLoose, latch_of, latch_variable, gate_variable}
use Rattle.aigerlists.specs.LooseTrace.{HoldsOf, IsLooseFrame, IsLooseTrace, loose_next_state, ShowsSameAsFile, AllShowSame}
use Rattle.aigerlists.specs.Renumbering.{gate_line, gate_name, variables_numbered, has_number, AreInTurn, IsOrder, IsRenumbered, new_literal, new_gate, ordered_gate, renumbered}
use Rattle.aiger.proofs.TraceLemmas.{trace_exists, trace_unique, literal_value-agree, next_state-agree}
use Rattle.aigerlists.proofs.LooseLemmas.{count_join}
use Rattle.aigerlists.proofs.NumberingLemmas.{new_latch}
use Rattle.aigerlists.proofs.RenumberingLemmas.{placed, rename, value_renamed, unname, value_unnamed, bits_of_middle, at_middle}
use Rattle.aigerlists.proofs.OrderLemmas.{numbered-append, has_number-append, ready_parts, number_from_known, count_some, AreGates, AreGates-push, fresh, false_unless}
use Rattle.aigerlists.proofs.KnownLemmas.{All-unmap, IsKnown, AllKnown, all_known}

-- a gate says the same with its operands in order
ordered_value : (w : Valuation) (a b : ℕ) → (literal_value w (ordered_gate a b).rhs0 && literal_value w (ordered_gate a b).rhs1) ≡ (literal_value w a && literal_value w b)
ordered_value w a b = by (nat_lt a b) refl
  where
    swap : (x y : Bool) → (x && y) ≡ (y && x)
    swap true true = refl
    swap true false = refl
    swap false true = refl
    swap false false = refl

    by : (t : Bool) → nat_lt a b ≡ t → (literal_value w (ordered_gate a b).rhs0 && literal_value w (ordered_gate a b).rhs1) ≡ (literal_value w a && literal_value w b)
    by true e = ap (λ (t : Bool). let g : Gate = if t then record { rhs0 = b; rhs1 = a } else record { rhs0 = a; rhs1 = b } in literal_value w g.rhs0 && literal_value w g.rhs1) e ∙ swap (literal_value w b) (literal_value w a)
    by false e = ap (λ (t : Bool). let g : Gate = if t then record { rhs0 = b; rhs1 = a } else record { rhs0 = a; rhs1 = b } in literal_value w g.rhs0 && literal_value w g.rhs1) e

-- one gate more has one number more
length_with_gate : (l : Loose) (done : List ℕ) (j : ℕ) → length (variables_numbered l (done ++ j ∷ [])) ≡ suc (length (variables_numbered l done))
length_with_gate l done j = ap length (numbered-append l done (j ∷ [])) ∙ omega (arith, length-append (variables_numbered l done) (gate_name l j ∷ []))

-- where the file's gates hold, the circuit's are satisfied
satisfies : (l : Loose) (done js order : List ℕ) (v : Valuation) → All (HoldsOf v) l.gates → AreInTurn l done js → order ≡ done ++ js → SatisfiesFrom (suc (length (variables_numbered l done))) (map (λ j. new_gate (variables_numbered l order) (gate_line l j)) js) (rename (variables_numbered l order) v)
satisfies l done [] order v holds turn e = tt
satisfies l done (j ∷ js) order v holds turn e =
    let names : List ℕ = variables_numbered l order in
    let w : Valuation = rename names v in
    let r = ready_parts l done j turn.0.ready in
    let split : names ≡ variables_numbered l done ++ gate_name l j ∷ map (gate_name l) js = ap (variables_numbered l) e ∙ numbered-append l done (j ∷ js) in
    let z : suc (length (variables_numbered l done)) - 1 ≡ length (variables_numbered l done) = omega arith in
    let name : slice_index_or names (length (variables_numbered l done)) 0 ≡ gate_name l j = ap (λ (ns : List ℕ). slice_index_or ns (length (variables_numbered l done)) 0) split ∙ at_middle (variables_numbered l done) (map (gate_name l) js) (gate_name l j) in
    let here : w (suc (length (variables_numbered l done))) ≡ v (gate_name l j) = ap (λ (k : ℕ). v (slice_index_or names k 0)) z ∙ ap v name in
    let line : GateLine = gate_line l j in
    let hold : v (gate_name l j) ≡ (literal_value v line.rhs0 && literal_value v line.rhs1) = holds j (record { lhs = 0; rhs0 = 0; rhs1 = 0 }) r.0 in
    let known : (lit : ℕ) → has_number (variables_numbered l done) lit ≡ true → has_number names lit ≡ true = λ lit t. subst (λ (ns : List ℕ). has_number ns lit ≡ true) (sym split) (has_number-append (variables_numbered l done) (gate_name l j ∷ map (gate_name l) js) lit t) in
    let p : literal_value w (new_literal names line.rhs0) ≡ literal_value v line.rhs0 = value_renamed names v line.rhs0 (known line.rhs0 r.2) in
    let q : literal_value w (new_literal names line.rhs1) ≡ literal_value v line.rhs1 = value_renamed names v line.rhs1 (known line.rhs1 r.3) in
    let o = ordered_value w (new_literal names line.rhs0) (new_literal names line.rhs1) in
    let gate : w (suc (length (variables_numbered l done))) ≡ (literal_value w (new_gate names line).rhs0 && literal_value w (new_gate names line).rhs1) = here ∙ (hold ∙ (ap (λ (x : Bool). x && literal_value v line.rhs1) (sym p) ∙ (ap (λ (x : Bool). literal_value w (new_literal names line.rhs0) && x) (sym q) ∙ sym o))) in
    let rest = satisfies l (done ++ j ∷ []) js order v holds turn.1 (e ∙ sym (append_assoc done (j ∷ []) js)) in
    (gate, subst (λ (n : ℕ). SatisfiesFrom (suc n) (map (λ (k : ℕ). new_gate names (gate_line l k)) js) w) (length_with_gate l done j) rest)

-- what elements become twice
map_twice : {X Y Z : Type 0} (g : Y → Z) (f : X → Y) (xs : List X) → map g (map f xs) ≡ map (λ x. g (f x)) xs
map_twice g f [] = refl
map_twice {X} {Y} {Z} g f (x ∷ xs) = ap (λ (ys : List Z). g (f x) ∷ ys) (map_twice g f xs)

-- the inputs and latches alone have the first numbers
length_of_leaves : (l : Loose) → length (variables_numbered l []) ≡ length l.inputs + length l.latches
length_of_leaves l = ap length (append-nil (map variable l.inputs ++ map latch_variable l.latches)) ∙ omega (arith, length-append (map variable l.inputs) (map latch_variable l.latches), length-map l.inputs variable, length-map l.latches latch_variable)

-- a frame of the file is one of the circuit
IsFrame-renamed : (l : Loose) (order : List ℕ) (state input : List Bool) (v : Valuation) → AreInTurn l [] order → IsLooseFrame l state input v → IsCircuitFrame (renumbered l order) state input (rename (variables_numbered l order) v)
IsFrame-renamed l order state input v turn frame =
    let a : List ℕ = map variable l.inputs in
    let b : List ℕ = map latch_variable l.latches in
    let g : List ℕ = map (gate_name l) order in
    let c : Circuit = renumbered l order in
    let w : Valuation = rename (variables_numbered l order) v in
    let k : length c.latches ≡ length l.latches = length-map l.latches (λ (line : LatchLine). record { next = new_literal (variables_numbered l order) line.next; reset = line.reset }) in
    let gates = satisfies l [] order order v frame.gates turn refl in
    let i = bits_of_middle [] a (b ++ g) v in
    let j = bits_of_middle a b g v in
    record {
      gates = subst (λ (n : ℕ). SatisfiesFrom (suc n) c.gates w) (length_of_leaves l ∙ ap (λ (n : ℕ). length l.inputs + n) (sym k)) gates;
      inputs = subst (λ (n : ℕ). bits_from 1 n w ≡ input) (length-map l.inputs variable) (subst (λ (ns : List ℕ). bits_from 1 (length a) (rename ns v) ≡ input) (sym (append_assoc a b g)) (i ∙ (map_twice v variable l.inputs ∙ frame.inputs)));
      latches = subst (λ (n : ℕ). bits_from (suc (length l.inputs)) n w ≡ state) (length-map l.latches latch_variable ∙ sym k) (subst (λ (n : ℕ). bits_from (suc n) (length b) w ≡ state) (length-map l.inputs variable) (j ∙ (map_twice v latch_variable l.latches ∙ frame.latches)));
    }

-- the latches take the same bits
nexts_renamed : (names : List ℕ) (v : Valuation) (lines : List LatchLine) → All (λ line. has_number names line.next ≡ true) lines
    → map (λ (latch : Latch). literal_value (rename names v) latch.next) (map (new_latch names) lines) ≡ map (λ (line : LatchLine). literal_value v line.next) lines
nexts_renamed names v [] known = refl
nexts_renamed names v (x ∷ xs) known =
    let P : LatchLine → Type 0 = λ line. has_number names line.next ≡ true in
    let h : literal_value (rename names v) (new_literal names x.next) ≡ literal_value v x.next = value_renamed names v x.next (All-head P x xs known) in
    let t = nexts_renamed names v xs (All-tail P x xs known) in
    cc

-- each next literal has a number
nexts_numbered : (l : Loose) (order : List ℕ) → ((j : ℕ) → j < length l.gates → list_any (nat_eq j) order ≡ true) → AllKnown l → All (λ line. has_number (variables_numbered l order) line.next ≡ true) l.latches
nexts_numbered l order all known =
    All-weaker (λ (line : LatchLine). IsKnown l line.next) (λ (line : LatchLine). has_number (variables_numbered l order) line.next ≡ true) (λ line t. number_from_known l order line.next all t) l.latches (All-unmap (λ (x : Latch). IsKnown l x.next) latch_of l.latches known.sections.nexts)

-- a trace of the file is one of the circuit
IsTrace-renamed : (l : Loose) (order : List ℕ) (state : List Bool) (inputs : List (List Bool)) (vs : List Valuation) → IsOrder l order → AllKnown l → IsLooseTrace l state inputs vs → IsCircuitTrace (renumbered l order) state inputs (map (rename (variables_numbered l order)) vs)
IsTrace-renamed l order state [] [] turn known t = tt
IsTrace-renamed l order state [] (v ∷ vs) turn known t = absurd t
IsTrace-renamed l order state (input ∷ inputs) [] turn known t = absurd t
IsTrace-renamed l order state (input ∷ inputs) (v ∷ vs) turn known t =
    let e : next_latch_bits (renumbered l order) (rename (variables_numbered l order) v) ≡ loose_next_state l v = nexts_renamed (variables_numbered l order) v l.latches (nexts_numbered l order turn.all known) in
    let rest = IsTrace-renamed l order (loose_next_state l v) inputs vs turn known t.1 in
    (IsFrame-renamed l order state input v turn.in_turn t.0, subst (λ (st : List Bool). IsCircuitTrace (renumbered l order) st inputs (map (rename (variables_numbered l order)) vs)) (sym e) rest)

-- a list of literals shows the same in frames that agree
literals_same : (c : Circuit) (names : List ℕ) (v w : Valuation) (lits : List ℕ) → SameCircuitFrame c (rename names v) w → All (λ lit. has_number names lit ≡ true) lits → All (IsDefined (net c)) (map (new_literal names) lits) → map (literal_value v) lits ≡ map (literal_value w) (map (new_literal names) lits)
literals_same c names v w [] same known defined = refl
literals_same c names v w (x ∷ xs) same known defined =
    let P : ℕ → Type 0 = λ lit. has_number names lit ≡ true in
    let bound : ℕ = suc (variables (net c)) in
    let d : IsDefined (net c) (new_literal names x) = All-head (IsDefined (net c)) (new_literal names x) (map (new_literal names) xs) defined in
    let a : literal_value (rename names v) (new_literal names x) ≡ literal_value w (new_literal names x) = literal_value-agree bound (rename names v) w (new_literal names x) (λ k low high. same k low (omega arith)) (omega arith) in
    let h : literal_value (rename names v) (new_literal names x) ≡ literal_value v x = value_renamed names v x (All-head P x xs known) in
    let t = literals_same c names v w xs same (All-tail P x xs known) (All-tail (IsDefined (net c)) (new_literal names x) (map (new_literal names) xs) defined) in
    cc

-- so does each section
section_same : (l : Loose) (order : List ℕ) (v w : Valuation) (lits : List ℕ) → IsOrder l order → SameCircuitFrame (renumbered l order) (rename (variables_numbered l order) v) w → All (IsKnown l) lits → All (IsDefined (net (renumbered l order))) (map (new_literal (variables_numbered l order)) lits) → map (literal_value v) lits ≡ map (literal_value w) (map (new_literal (variables_numbered l order)) lits)
section_same l order v w lits turn same known defined =
    literals_same (renumbered l order) (variables_numbered l order) v w lits same (All-weaker (IsKnown l) (λ lit. has_number (variables_numbered l order) lit ≡ true) (λ lit t. number_from_known l order lit turn.all t) lits known) defined

-- the traces of a file and of its circuit show the same
all_show_same : (l : Loose) (order : List ℕ) (state : List Bool) (inputs : List (List Bool)) (vs ws : List Valuation) → IsOrder l order → AllKnown l → IsCircuit (renumbered l order) → IsLooseTrace l state inputs vs → IsCircuitTrace (renumbered l order) state inputs ws → SameCircuitTrace (renumbered l order) (map (rename (variables_numbered l order)) vs) ws
    → AllShowSame l (renumbered l order) vs ws
all_show_same l order state [] [] [] turn known valid t u same = tt
all_show_same l order state [] [] (w ∷ ws) turn known valid t u same = absurd u
all_show_same l order state [] (v ∷ vs) ws turn known valid t u same = absurd t
all_show_same l order state (input ∷ inputs) [] ws turn known valid t u same = absurd t
all_show_same l order state (input ∷ inputs) (v ∷ vs) [] turn known valid t u same = absurd u
all_show_same l order state (input ∷ inputs) (v ∷ vs) (w ∷ ws) turn known valid t u same =
    let c : Circuit = renumbered l order in
    let names : List ℕ = variables_numbered l order in
    let shows : ShowsSameAsFile l c v w =
    record {
      latches = t.0.latches ∙ sym u.0.latches;
      outputs = section_same l order v w l.outputs turn same.0 known.sections.outputs valid.defined.outputs;
      bads = section_same l order v w l.bads turn same.0 known.sections.bads valid.defined.bads;
      constraints = section_same l order v w l.constraints turn same.0 known.sections.constraints valid.defined.constraints;
    } in
    let e : next_latch_bits c (rename names v) ≡ loose_next_state l v = nexts_renamed names v l.latches (nexts_numbered l order turn.all known) in
    let f : next_latch_bits c (rename names v) ≡ next_latch_bits c w = next_state-agree c (rename names v) w valid same.0 in
    let rest : IsCircuitTrace c (loose_next_state l v) inputs ws = subst (λ (st : List Bool). IsCircuitTrace c st inputs ws) (sym f ∙ e) u.1 in
    (shows, all_show_same l order (loose_next_state l v) inputs vs ws turn known valid t.1 rest same.1)

-- from the same inputs and first bits, a file and its circuit show the same
pub shows_same : (l : Loose) (c : Circuit) (state : List Bool) (inputs : List (List Bool)) (vs ws : List Valuation) → IsRenumbered l c → IsCircuit c → IsLooseTrace l state inputs vs → IsCircuitTrace c state inputs ws → AllShowSame l c vs ws
shows_same l c state inputs vs ws is valid t u =
    let d : Circuit = renumbered l is.order in
    let good : IsCircuit d = subst IsCircuit is.circuit valid in
    let known : AllKnown l = all_known l is.known in
    let trace : IsCircuitTrace d state inputs ws = subst (λ (x : Circuit). IsCircuitTrace x state inputs ws) is.circuit u in
    let mine = IsTrace-renamed l is.order state inputs vs is.is_order known t in
    let same = trace_unique d state inputs (map (rename (variables_numbered l is.order)) vs) ws good mine trace in
    subst (λ (x : Circuit). AllShowSame l x vs ws) (sym is.circuit) (all_show_same l is.order state inputs vs ws is.is_order known good t trace same)

-- where the circuit's gates are satisfied, each gate of an order holds
holds_back : (l : Loose) (done js order : List ℕ) (w : Valuation) → IsLoose l → AreGates l done → AreInTurn l done js → order ≡ done ++ js → SatisfiesFrom (suc (length (variables_numbered l done))) (map (λ j. new_gate (variables_numbered l order) (gate_line l j)) js) w
    → (j : ℕ) → list_any (nat_eq j) js ≡ true → HoldsOf (unname (variables_numbered l order) w) (gate_line l j)
holds_back l done [] order w valid within turn e s j t = absurd (cc)
holds_back l done (k ∷ js) order w valid within turn e s j t =
    by (nat_eq j k) refl (λ r. holds_back l (done ++ k ∷ []) js order w valid (AreGates-push l done k within ((ready_parts l done k turn.0.ready).0)) turn.1 (e ∙ sym (append_assoc done (k ∷ []) js)) (subst (λ (n : ℕ). SatisfiesFrom (suc n) (map (λ (i : ℕ). new_gate (variables_numbered l order) (gate_line l i)) js) w) (sym (length_with_gate l done k)) s.1) j r)
  where
    by : (b : Bool) → nat_eq j k ≡ b → (list_any (nat_eq j) js ≡ true → HoldsOf (unname (variables_numbered l order) w) (gate_line l j)) → HoldsOf (unname (variables_numbered l order) w) (gate_line l j)
    by true f rest =
        let names : List ℕ = variables_numbered l order in
        let same : j ≡ k = grind (arith, nat_tests) in
        let line : GateLine = gate_line l k in
        let split : names ≡ variables_numbered l done ++ gate_name l k ∷ map (gate_name l) js = ap (variables_numbered l) e ∙ numbered-append l done (k ∷ js) in
        let place : position_or_len (nat_eq (gate_name l k)) names ≡ length (variables_numbered l done) = ap (position_or_len (nat_eq (gate_name l k))) split ∙ placed (gate_name l k) (variables_numbered l done) (map (gate_name l) js) (fresh l done k valid within turn.0.ready) in
        let here : unname names w (gate_name l k) ≡ w (suc (length (variables_numbered l done))) = ap (λ (n : ℕ). w (suc n)) place in
        let p : literal_value w (new_literal names line.rhs0) ≡ literal_value (unname names w) line.rhs0 = value_unnamed names w line.rhs0 in
        let q : literal_value w (new_literal names line.rhs1) ≡ literal_value (unname names w) line.rhs1 = value_unnamed names w line.rhs1 in
        let o = ordered_value w (new_literal names line.rhs0) (new_literal names line.rhs1) in
        let h : HoldsOf (unname names w) line = here ∙ (s.0 ∙ (o ∙ (ap (λ (x : Bool). x && literal_value w (new_literal names line.rhs1)) p ∙ ap (λ (x : Bool). literal_value (unname names w) line.rhs0 && x) q))) in
        subst (λ (i : ℕ). HoldsOf (unname names w) (gate_line l i)) (sym same) h
    by false f rest = rest (sym (ap (λ (x : Bool). x || list_any (nat_eq j) js) f) ∙ t)

-- numbers each of which stands in no earlier place
AreNew : List ℕ → List ℕ → Type 0
AreNew pre [] = Unit {0}
AreNew pre (x ∷ xs) = (list_any (nat_eq x) pre ≡ false) × AreNew (pre ++ x ∷ []) xs

-- no earlier place where no number stands twice
new_from_once : (pre xs post : List ℕ) → ((v : ℕ) → count_by (nat_eq v) (pre ++ xs ++ post) ≤ 1) → AreNew pre xs
unfolding AreNew
new_from_once pre [] post once = tt
new_from_once pre (x ∷ xs) post once =
    let joined = count_join (nat_eq x) pre (x ∷ xs) post in
    let here : nat_eq x x ≡ true = grind (arith, nat_tests) in
    let two : 1 ≤ count_by (nat_eq x) (x ∷ xs) = count_some x (x ∷ xs) (ap (λ (b : Bool). b || list_any (nat_eq x) xs) here) in
    let new : list_any (nat_eq x) pre ≡ false = false_unless (list_any (nat_eq x) pre) (λ u. omega (arith, once x, joined, two, count_some x pre u)) in
    let m : (pre ++ x ∷ []) ++ xs ++ post ≡ pre ++ (x ∷ xs) ++ post = ap (λ (ns : List ℕ). ns ++ post) (append_assoc pre (x ∷ []) xs) in
    (new, new_from_once (pre ++ x ∷ []) xs post (subst (λ (ns : List ℕ). (v : ℕ) → count_by (nat_eq v) ns ≤ 1) (sym m) once))

-- the bits of variables in the middle, by their names
bits_back : (pre xs post : List ℕ) (w : Valuation) → AreNew pre xs → map (unname (pre ++ xs ++ post) w) xs ≡ bits_from (suc (length pre)) (length xs) w
unfolding AreNew
bits_back pre [] post w new = refl
bits_back pre (x ∷ xs) post w new =
    let place : position_or_len (nat_eq x) (pre ++ (x ∷ xs) ++ post) ≡ length pre = ap (position_or_len (nat_eq x)) (append_assoc pre (x ∷ xs) post) ∙ placed x pre (xs ++ post) new.0 in
    let h : unname (pre ++ (x ∷ xs) ++ post) w x ≡ w (suc (length pre)) = ap (λ (n : ℕ). w (suc n)) place in
    let n : length (pre ++ x ∷ []) ≡ suc (length pre) = omega (arith, length-append pre (x ∷ [])) in
    let m : (pre ++ x ∷ []) ++ xs ++ post ≡ pre ++ (x ∷ xs) ++ post = ap (λ (ns : List ℕ). ns ++ post) (append_assoc pre (x ∷ []) xs) in
    let r = bits_back (pre ++ x ∷ []) xs post w new.1 in
    let t : map (unname (pre ++ (x ∷ xs) ++ post) w) xs ≡ bits_from (suc (suc (length pre))) (length xs) w =
    subst (λ (k : ℕ). map (unname (pre ++ (x ∷ xs) ++ post) w) xs ≡ bits_from (suc k) (length xs) w) n (subst (λ (ns : List ℕ). map (unname ns w) xs ≡ bits_from (suc (length (pre ++ x ∷ []))) (length xs) w) m r) in
    cc

-- a frame of the circuit is one of the file
IsLooseFrame-unnamed : (l : Loose) (order : List ℕ) (state input : List Bool) (w : Valuation) → IsLoose l → IsOrder l order → IsCircuitFrame (renumbered l order) state input w → IsLooseFrame l state input (unname (variables_numbered l order) w)
IsLooseFrame-unnamed l order state input w valid turn frame =
    let a : List ℕ = map variable l.inputs in
    let b : List ℕ = map latch_variable l.latches in
    let g : List ℕ = map (gate_name l) order in
    let d : List ℕ = map gate_variable l.gates in
    let c : Circuit = renumbered l order in
    let v : Valuation = unname (variables_numbered l order) w in
    let k : length c.latches ≡ length l.latches = length-map l.latches (new_latch (variables_numbered l order)) in
    let first : suc (length l.inputs + length c.latches) ≡ suc (length (variables_numbered l [])) = ap (λ (n : ℕ). suc (length l.inputs + n)) k ∙ ap suc (sym (length_of_leaves l)) in
    let sat = subst (λ (n : ℕ). SatisfiesFrom n c.gates w) first frame.gates in
    let new_inputs : AreNew [] a = new_from_once [] a (b ++ d) (subst (λ (ns : List ℕ). (v : ℕ) → count_by (nat_eq v) ns ≤ 1) (append_assoc a b d) valid.definitions.once) in
    let new_latches : AreNew a b = new_from_once a b d valid.definitions.once in
    let i : map v a ≡ bits_from 1 (length a) w = subst (λ (ns : List ℕ). map (unname ns w) a ≡ bits_from 1 (length a) w) (sym (append_assoc a b g)) (bits_back [] a (b ++ g) w new_inputs) in
    let j : map v b ≡ bits_from (suc (length a)) (length b) w = bits_back a b g w new_latches in
    record {
      gates = All-from_get_or (HoldsOf v) l.gates (record { lhs = 0; rhs0 = 0; rhs1 = 0 }) (λ n h. holds_back l [] order order w valid (λ x u. absurd (cc)) turn.in_turn refl sat n (turn.all n h));
      inputs = sym (map_twice v variable l.inputs) ∙ (i ∙ (ap (λ (n : ℕ). bits_from 1 n w) (length-map l.inputs variable) ∙ frame.inputs));
      latches = sym (map_twice v latch_variable l.latches) ∙ (j ∙ (ap (λ (n : ℕ). bits_from (suc n) (length b) w) (length-map l.inputs variable) ∙ (ap (λ (n : ℕ). bits_from (suc (length l.inputs)) n w) (length-map l.latches latch_variable ∙ sym k) ∙ frame.latches)));
    }

nexts_unnamed : (names : List ℕ) (w : Valuation) (lines : List LatchLine) → map (λ (line : LatchLine). literal_value (unname names w) line.next) lines ≡ map (λ (latch : Latch). literal_value w latch.next) (map (new_latch names) lines)
nexts_unnamed names w [] = refl
nexts_unnamed names w (x ∷ xs) =
    let h : literal_value w (new_literal names x.next) ≡ literal_value (unname names w) x.next = value_unnamed names w x.next in
    let t = nexts_unnamed names w xs in
    cc

IsLooseTrace-unnamed : (l : Loose) (order : List ℕ) (state : List Bool) (inputs : List (List Bool)) (ws : List Valuation) → IsLoose l → IsOrder l order → IsCircuitTrace (renumbered l order) state inputs ws → IsLooseTrace l state inputs (map (unname (variables_numbered l order)) ws)
IsLooseTrace-unnamed l order state [] [] valid turn t = tt
IsLooseTrace-unnamed l order state [] (w ∷ ws) valid turn t = absurd t
IsLooseTrace-unnamed l order state (input ∷ inputs) [] valid turn t = absurd t
IsLooseTrace-unnamed l order state (input ∷ inputs) (w ∷ ws) valid turn t =
    let e : loose_next_state l (unname (variables_numbered l order) w) ≡ next_latch_bits (renumbered l order) w = nexts_unnamed (variables_numbered l order) w l.latches in
    let rest = IsLooseTrace-unnamed l order (next_latch_bits (renumbered l order) w) inputs ws valid turn t.1 in
    (IsLooseFrame-unnamed l order state input w valid turn t.0, subst (λ (st : List Bool). IsLooseTrace l st inputs (map (unname (variables_numbered l order)) ws)) (sym e) rest)

-- a numbered file has a trace
pub loose_trace_exists : (l : Loose) (c : Circuit) (state : List Bool) (inputs : List (List Bool)) → IsLoose l → IsRenumbered l c → IsCircuit c → length state ≡ length l.latches → All (λ input. length input ≡ length l.inputs) inputs → (vs : List Valuation) × IsLooseTrace l state inputs vs
loose_trace_exists l c state inputs valid is circuit s i =
    let d : Circuit = renumbered l is.order in
    let good : IsCircuit d = subst IsCircuit is.circuit circuit in
    let k : length d.latches ≡ length l.latches = length-map l.latches (new_latch (variables_numbered l is.order)) in
    let t = trace_exists d state inputs good (s ∙ sym k) i in
    (map (unname (variables_numbered l is.order)) t.0, IsLooseTrace-unnamed l is.order state inputs t.0 valid is.is_order t.1)

-- latches begin alike
pub same_resets : (l : Loose) (c : Circuit) → IsRenumbered l c → map (λ latch. latch.reset) c.latches ≡ map (λ line. line.reset) l.latches
same_resets l c is = ap (λ (d : Circuit). map (λ (latch : Latch). latch.reset) d.latches) is.circuit ∙ map_twice (λ (latch : Latch). latch.reset) (new_latch (variables_numbered l is.order)) l.latches
