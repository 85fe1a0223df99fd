-- Orders: none is longer than the file has gates, there is one that cannot go on, and without cycles it is complete.
use Rattle.std.proofs.Common.{◌≡◌, ℕ, zero, suc, ◌+◌, ◌<◌, ◌≤◌, Bool, true, false, not, ◌&&◌, nat_lt, List, [], ◌∷◌, ◌++◌, length, ◌⊎◌, inl, inr, None, nat_eq, sym, ◌∙◌, subst, refl, arith, length-append, ⊎_elim}
use Rattle.std.proofs.lemmas.Bool.Decides.{nat_tests}
use Rattle.std.proofs.lemmas.Bool.{cases_order, and_parts, ltb-true}
use Rattle.std.specs.List.{list_any}
use Rattle.aiger.specs.Circuit.{Circuit, IsCircuit}
use Rattle.aigerlists.specs.Loose.{Loose, IsLoose}
use Rattle.aigerlists.specs.Renumbering.{first_undefined, is_ready, AreInTurn, IsOrder, IsRenumbered, LeadsToCycle, IsFirstCyclic, renumbered}
use Rattle.aigerlists.proofs.OrderLemmas.{ready_parts, false_unless}
use Rattle.aigerlists.proofs.ReadinessLemmas.{AreFirst-push, few_first}
use Rattle.aigerlists.proofs.KnownLemmas.{all_known}
use Rattle.aigerlists.proofs.NumberingLemmas.{leads_to_cycle, first_cyclic, IsCircuit-renumbered}

-- gates in turn are no more than there are
pub few_in_order : (l : Loose) (order : List ℕ) → AreInTurn l [] order → length order ≤ length l.gates
few_in_order l order turn =
    few_first (is_ready l) (length l.gates) (λ done j t. let r = ready_parts l done j t in (r.0, r.1)) order turn

-- what a file is as numbered is a circuit
pub is_circuit : (l : Loose) (c : Circuit) → IsLoose l → IsRenumbered l c → IsCircuit c
is_circuit l c valid is =
    subst IsCircuit (sym is.circuit) (IsCircuit-renumbered l is.order valid (all_known l is.known) is.is_order (few_in_order l is.order is.is_order.in_turn))

-- the least number below a bound that passes, or none does
least_below : (p : ℕ → Bool) (n : ℕ) → ((j : ℕ) × ((p j ≡ true) × ((i : ℕ) → i < j → p i ≡ false))) ⊎ ((i : ℕ) → i < n → p i ≡ false)
least_below p zero = inr (λ i h. absurd (omega arith))
least_below p (suc n) =
    ⊎_elim (λ f. inl f) (λ none. by none (p n) refl) (least_below p n)
  where
    by : ((i : ℕ) → i < n → p i ≡ false) → (b : Bool) → p n ≡ b → ((j : ℕ) × ((p j ≡ true) × ((i : ℕ) → i < j → p i ≡ false))) ⊎ ((i : ℕ) → i < suc n → p i ≡ false)
    by none true e = inl (n, (e, none))
    by none false e = inr (λ i h. ⊎_elim (λ (s : i ≡ n). subst (λ (k : ℕ). p k ≡ false) (sym s) e) (λ (o : (i < n) ⊎ (n < i)). ⊎_elim (λ (low : i < n). none i low) (λ (high : n < i). absurd (omega arith)) o) (cases_order i n))

-- gates in turn that cannot go on
abbrev Ends : Loose → Type 0
Ends l = (order : List ℕ) × (AreInTurn l [] order × ((j : ℕ) → is_ready l order j ≡ false))

-- where none of the file's gates is ready, no number is
none_at_all : (l : Loose) (order : List ℕ) → ((i : ℕ) → i < length l.gates → is_ready l order i ≡ false) → (j : ℕ) → is_ready l order j ≡ false
none_at_all l order none j =
    false_unless (is_ready l order j) (λ t. let z : true ≡ false = sym t ∙ none j (ready_parts l order j t).0 in cc)

-- gates in turn go on until none is ready
goes_on : (l : Loose) (fuel : ℕ) (order : List ℕ) → AreInTurn l [] order → length l.gates ≤ fuel + length order → Ends l
goes_on l zero order turn enough =
    ⊎_elim
    (λ (f : (j : ℕ) × ((is_ready l order j ≡ true) × ((i : ℕ) → i < j → is_ready l order i ≡ false))).
    let more : AreInTurn l [] (order ++ f.0 ∷ []) = AreFirst-push (is_ready l) [] order f.0 turn (record { ready = f.1.0; first = f.1.1 }) in
    absurd (omega (arith, few_in_order l (order ++ f.0 ∷ []) more, length-append order (f.0 ∷ []), enough)))
    (λ (none : (i : ℕ) → i < length l.gates → is_ready l order i ≡ false). (order, (turn, none_at_all l order none)))
    (least_below (is_ready l order) (length l.gates))
goes_on l (suc fuel) order turn enough =
    ⊎_elim
    (λ (f : (j : ℕ) × ((is_ready l order j ≡ true) × ((i : ℕ) → i < j → is_ready l order i ≡ false))).
    let more : AreInTurn l [] (order ++ f.0 ∷ []) = AreFirst-push (is_ready l) [] order f.0 turn (record { ready = f.1.0; first = f.1.1 }) in
    goes_on l fuel (order ++ f.0 ∷ []) more (omega (arith, length-append order (f.0 ∷ []), enough)))
    (λ (none : (i : ℕ) → i < length l.gates → is_ready l order i ≡ false). (order, (turn, none_at_all l order none)))
    (least_below (is_ready l order) (length l.gates))

-- lists without undefined variables and without cycles are a circuit as numbered
pub has_renumbering : (l : Loose) → first_undefined l ≡ None → ((j : ℕ) → j < length l.gates → ¬ LeadsToCycle l j) → (c : Circuit) × IsRenumbered l c
has_renumbering l known free =
    let ends : Ends l = goes_on l (length l.gates) [] tt (omega arith) in
    let whole : IsOrder l ends.0 = record {
      in_turn = ends.1.0;
      all = λ j low. by (list_any (nat_eq j) ends.0) (λ new. free j low (leads_to_cycle l ends.0 j (all_known l known) ends.1.1 low new));
    } in
    (renumbered l ends.0, record { known = known; order = ends.0; is_order = whole; circuit = refl })
  where
    by : (b : Bool) → (b ≡ false → ⊥) → b ≡ true
    by true h = refl
    by false h = absurd (h refl)

-- a gate that has no number in an order
abbrev is_left : Loose → List ℕ → ℕ → Bool
is_left l order j = nat_lt j (length l.gates) && not (list_any (nat_eq j) order)

-- lists without undefined variables are a circuit as numbered, or a gate is the first that leads to a cycle
pub numbered_or_cyclic : (l : Loose) → IsLoose l → first_undefined l ≡ None → ((c : Circuit) × IsRenumbered l c) ⊎ ((j : ℕ) × IsFirstCyclic l j)
numbered_or_cyclic l valid known =
    let ends : Ends l = goes_on l (length l.gates) [] tt (omega arith) in
    ⊎_elim
    (λ (f : (j : ℕ) × ((is_left l ends.0 j ≡ true) × ((i : ℕ) → i < j → is_left l ends.0 i ≡ false))).
    let left = and_parts (nat_lt f.0 (length l.gates)) (not (list_any (nat_eq f.0) ends.0)) f.1.0 in
    let low : f.0 < length l.gates = ltb-true f.0 (length l.gates) left.0 in
    let new : list_any (nat_eq f.0) ends.0 ≡ false = grind (arith, nat_tests, left.1) in
    inr (f.0, first_cyclic l ends.0 f.0 valid (all_known l known) ends.1.0 ends.1.1 low new (λ i h. in_order l ends.0 i (omega (arith, h, low)) (f.1.1 i h))))
    (λ (none : (i : ℕ) → i < length l.gates → is_left l ends.0 i ≡ false).
    inl (renumbered l ends.0, record { known = known; order = ends.0; is_order = record { in_turn = ends.1.0; all = λ j low. in_order l ends.0 j low (none j low) }; circuit = refl }))
    (least_below (is_left l ends.0) (length l.gates))
  where
    in_order : (l : Loose) (order : List ℕ) (i : ℕ) → i < length l.gates → is_left l order i ≡ false → list_any (nat_eq i) order ≡ true
    in_order l order i low e = grind (arith, nat_tests, e)
