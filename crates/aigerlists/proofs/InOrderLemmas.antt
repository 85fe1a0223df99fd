-- Files whose gates stand behind their operands: the gates are ready as they stand.
use Rattle.std.proofs.Common.{◌≡◌, ℕ, zero, suc, ◌+◌, ◌<◌, ◌≤◌, true, false, List, [], ◌∷◌, ◌++◌, map, length, nat_eq, nat_lt, Option, Some, inr, refl, ap, sym, ◌∙◌, subst, arith}
use Rattle.std.proofs.lemmas.Bool.Decides.{nat_tests}
use Rattle.std.proofs.lemmas.List.FromFn.{length-range_with_len}
use Rattle.std.proofs.lemmas.List.Folds.{list_any-append}
use Rattle.std.specs.List.{list_any, range_with_len}
use Rattle.aiger.specs.declared.circuit.Gate.{Gate}
use Rattle.aiger.specs.Circuit.{Circuit, IsCircuit}
use Rattle.base.specs.Literal.{variable}
use Rattle.aigerlists.specs.Loose.{Loose, IsLoose, latch_variable, gate_variable, defined_variables}
use Rattle.aigerlists.specs.Numbering.{WaitForEarlier, slot_of}
use Rattle.aigerlists.specs.Readiness.{IsFirst}
use Rattle.aigerlists.specs.Renumbering.{gate_line, gate_name, variables_numbered, has_number, is_ready, AreInTurn, IsOrder, IsNumberingBy, IsNumberingOf, new_gate, renumbered, circuit_by}
use Rattle.aigerlists.proofs.KnownLemmas.{AllKnown}
use Rattle.aigerlists.proofs.NumberingLemmas.{IsSlotOf, IsCircuit-renumbered}
use Rattle.aigerlists.proofs.OrderLemmas.{any_map, has_number-append, numbered-append}
use Rattle.aigerlists.proofs.PlacesLemmas.{leaf_count, slot_known}
use Rattle.aigerlists.proofs.RangeLemmas.{within_range, outside_range, range_joined, map_at_places}

-- the positions of all gates
abbrev pub as_they_stand : Loose → List ℕ
as_they_stand l = range_with_len 0 (length l.gates)

-- a literal that waits for no gate but earlier ones has a number when these have theirs
number_by_slot : (l : Loose) (k lit slot : ℕ) → IsSlotOf l lit slot → slot ≤ k → has_number (variables_numbered l (range_with_len 0 k)) lit ≡ true
number_by_slot l k lit zero is h =
    subst (λ (ns : List ℕ). has_number ns lit ≡ true) (sym (numbered-append l [] (range_with_len 0 k))) (has_number-append (variables_numbered l []) (map (gate_name l) (range_with_len 0 k)) lit (is.leaf refl))
number_by_slot l k lit (suc g) is h =
    let name = (is.gate g refl).1 in
    let there : list_any (nat_eq (gate_name l g)) (map (gate_name l) (range_with_len 0 k)) ≡ true = any_map (gate_name l) g (range_with_len 0 k) (within_range g 0 k (omega arith) (omega (arith, h))) in
    let joined = list_any-append (nat_eq (gate_name l g)) (map variable l.inputs ++ map latch_variable l.latches) (map (gate_name l) (range_with_len 0 k)) in
    let any : list_any (nat_eq (gate_name l g)) (variables_numbered l (range_with_len 0 k)) ≡ true = grind (arith, nat_tests, there, joined) in
    let here : list_any (nat_eq (variable lit)) (variables_numbered l (range_with_len 0 k)) ≡ true = subst (λ (v : ℕ). list_any (nat_eq v) (variables_numbered l (range_with_len 0 k)) ≡ true) (sym name) any in
    grind (arith, nat_tests, here)

module _ (l : Loose) (known : AllKnown l) (wait : WaitForEarlier (defined_variables l) (leaf_count l) l.gates) where
  -- a gate is ready when its turn comes, and none before it is
  first_in_turn : (k : ℕ) → k < length l.gates → IsFirst (is_ready l) (range_with_len 0 k) k
  first_in_turn k low =
      let done : List ℕ = range_with_len 0 k in
      let operands = known.operands k (record { lhs = 0; rhs0 = 0; rhs1 = 0 }) low in
      let w = wait k low in
      let a : nat_lt k (length l.gates) ≡ true = grind (arith, nat_tests) in
      let b : list_any (nat_eq k) done ≡ false = outside_range k 0 k (inr (omega arith)) in
      let c = number_by_slot l k (gate_line l k).rhs0 (slot_of (defined_variables l) (leaf_count l) (gate_line l k).rhs0) (slot_known l (gate_line l k).rhs0 operands.0).0 w.0 in
      let d = number_by_slot l k (gate_line l k).rhs1 (slot_of (defined_variables l) (leaf_count l) (gate_line l k).rhs1) (slot_known l (gate_line l k).rhs1 operands.1).0 w.1 in
      record {
        ready = rw (a, b, c, d) refl;
        first = λ i h. done_is_not_ready done i (within_range i 0 k (omega arith) (omega (arith, h)));
      }
    where
      done_is_not_ready : (done : List ℕ) (i : ℕ) → list_any (nat_eq i) done ≡ true → is_ready l done i ≡ false
      done_is_not_ready done i t = grind (arith, nat_tests, t)

  in_turn_from : (k n : ℕ) → k + n ≡ length l.gates → AreInTurn l (range_with_len 0 k) (range_with_len k n)
  in_turn_from k zero e = tt
  in_turn_from k (suc n) e =
      let z : 0 + k ≡ k = omega arith in
      let more : range_with_len 0 (k + 1) ≡ range_with_len 0 k ++ k ∷ [] = sym (range_joined 0 k 1) ∙ ap (λ (i : ℕ). range_with_len 0 k ++ i ∷ []) z in
      (first_in_turn k (omega arith), subst (λ (done : List ℕ). AreInTurn l done (range_with_len (k + 1) n)) more (in_turn_from (k + 1) n (omega arith)))

  pub is_order : IsOrder l (as_they_stand l)
  is_order = record {
    in_turn = in_turn_from 0 (length l.gates) (omega arith);
    all = λ j low. within_range j 0 (length l.gates) (omega arith) (omega arith);
  }

  -- and the circuit is one
  pub is_circuit : IsLoose l → IsCircuit (renumbered l (as_they_stand l))
  is_circuit valid = IsCircuit-renumbered l (as_they_stand l) valid known is_order (omega (arith, length-range_with_len 0 (length l.gates)))

-- the variables with numbers are then those that are defined
pub numbered_as_they_stand : (l : Loose) → variables_numbered l (as_they_stand l) ≡ defined_variables l
numbered_as_they_stand l =
    ap (λ (xs : List ℕ). map variable l.inputs ++ map latch_variable l.latches ++ xs)
    (map_at_places gate_variable (record { lhs = 0; rhs0 = 0; rhs1 = 0 }) l.gates (gate_line l) 0 (λ i low. ap (gate_line l) (zero_more i)))
  where
    zero_more : (i : ℕ) → 0 + i ≡ i
    zero_more i = omega arith

-- the circuit by the places of variables, with the gates as they stand
pub by_places : (l : Loose) (places : List ℕ) (gates : List Gate) → places ≡ defined_variables l → gates ≡ map (new_gate places) l.gates → circuit_by l places gates ≡ renumbered l (as_they_stand l)
by_places l places gates e f =
    let names : places ≡ variables_numbered l (as_they_stand l) = e ∙ sym (numbered_as_they_stand l) in
    let at : map (λ j. new_gate places (gate_line l j)) (as_they_stand l) ≡ map (new_gate places) l.gates = map_at_places (new_gate places) (record { lhs = 0; rhs0 = 0; rhs1 = 0 }) l.gates (gate_line l) 0 (λ i low. ap (gate_line l) (zero_more i)) in
    ap (circuit_by l places) (f ∙ sym at) ∙ ap (λ (ns : List ℕ). circuit_by l ns (map (λ j. new_gate ns (gate_line l j)) (as_they_stand l))) names
  where
    zero_more : (i : ℕ) → 0 + i ≡ i
    zero_more i = omega arith

-- the circuit by numbers, with the gates in an order
pub by_order : (l : Loose) (order names : List ℕ) (gates : List Gate) → names ≡ variables_numbered l order → gates ≡ map (λ j. new_gate names (gate_line l j)) order → circuit_by l names gates ≡ renumbered l order
by_order l order names gates e f =
    ap (circuit_by l names) f ∙ ap (λ (ns : List ℕ). circuit_by l ns (map (λ j. new_gate ns (gate_line l j)) order)) e

-- a numbering by the numbers that a circuit has
pub by_numbering : (l : Loose) (c : Circuit) (names : List ℕ) (numbering : Option (List ℕ)) → IsNumberingOf l c (Some names) → IsNumberingBy names numbering → IsNumberingOf l c numbering
by_numbering l c names numbering of by = record { order = of.order; is_order = of.is_order; circuit = of.circuit; numbers = subst (λ (ns : List ℕ). IsNumberingBy ns numbering) of.numbers by }
