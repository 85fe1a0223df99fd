-- Adding to a circuit what another one has.
use Rattle.std.proofs.Common.{◌≡◌, ℕ, suc, ◌+◌, ◌*◌, ◌<◌, ◌≤◌, true, false, List, [], ◌∷◌, ◌++◌, length, map, take, drop, get_or, All, Some, None, nat_le, nat_lt, refl, sym, ap, ap₂, subst, ◌∙◌, length-append, append-nil, arith}
use Rattle.std.specs.Prelude.{slice_get}
use Rattle.std.specs.List.{sum_by}
use Rattle.std.proofs.lemmas.Bool.Decides.{nat_tests}
use Rattle.std.proofs.lemmas.List.{length-take-le, map-id, take_all, take_more}
use Rattle.std.proofs.Math.ListN.{drop_of_length-le}
use Rattle.std.proofs.lemmas.List.Sums.{sum_by_more_le}
use Rattle.std.proofs.lemmas.List.Elements.{All-get_or, All-head, All-tail}
use Rattle.std.proofs.lemmas.Option.{slice_get_within, get_or_from_slice_get}
use Rattle.aiger.specs.declared.circuit.Latch.{Latch}
use Rattle.aiger.specs.declared.circuit.Gate.{Gate}
use Rattle.aiger.specs.Limits.{greatest_count}
use Rattle.base.specs.Literal.{variable}
use Rattle.aiger.specs.Net.{Net, variables, IsDefined, AreOrderedFrom}
use Rattle.aiger.specs.Circuit.{Circuit, IsCircuit, net, are_defined, justice_refusal, with_justice}
use Rattle.engine_form.proofs.LatchLemmas.{set-length}
use Rattle.gates.proofs.TableLemmas.{ordered-at}

-- the next gate is one that the circuit takes
pub gate_fits : (c d : Circuit) (gs : List Gate) (i : ℕ) (g : Gate) → d ≡ record c { gates = c.gates ++ take i gs } → AreOrderedFrom (suc (variables (net c))) gs → variables (net c) + length gs ≤ greatest_count
    → i < length gs → g ≡ get_or gs i g → (g.rhs1 ≤ g.rhs0) × IsDefined (net d) g.rhs0 × (variables (net d) < greatest_count)
gate_fits c d gs i g is ordered few inside at =
    let so_far : length (take i gs) ≡ i = length-take-le i gs (omega arith) in
    let size : variables (net d) ≡ variables (net c) + i = ap (λ (x : Circuit). variables (net x)) is ∙ (let e = length-append c.gates (take i gs) in omega arith) in
    let above = ordered-at (suc (variables (net c))) i gs g inside ordered in
    let above0 : g.rhs0 < 2 * (suc (variables (net c)) + i) = subst (λ (x : Gate). x.rhs0 < 2 * (suc (variables (net c)) + i)) (sym at) above.0 in
    let above1 : g.rhs1 ≤ g.rhs0 = subst (λ (x : Gate). x.rhs1 ≤ x.rhs0) (sym at) above.1 in
    (above1, omega arith, omega arith)

-- the next latch is there, and its next literal is defined
pub latch_fits : (c d : Circuit) (ls : List Latch) (k : ℕ) (l : Latch) → d ≡ record c { latches = map (λ latch. latch) (take k ls) ++ drop k c.latches } → length ls ≡ length c.latches
    → All (λ latch. IsDefined (net c) latch.next) ls → k < length ls → l ≡ get_or ls k l → (k < length d.latches) × IsDefined (net d) l.next
latch_fits c d ls k l is many defined inside at =
    let size : length d.latches ≡ length c.latches = ap (λ (x : Circuit). length x.latches) is ∙ set-length (λ latch. latch) ls c.latches k (omega arith) (omega arith) in
    let same : variables (net d) ≡ variables (net c) = ap (λ (x : Circuit). x.inputs + length x.latches + length x.gates) is ∙ ap (λ (n : ℕ). c.inputs + n + length c.gates) (set-length (λ latch. latch) ls c.latches k (omega arith) (omega arith)) in
    let own : IsDefined (net c) l.next = subst (λ (x : Latch). IsDefined (net c) x.next) (sym at) (All-get_or (λ (latch : Latch). IsDefined (net c) latch.next) ls k l inside defined) in
    (omega arith, omega arith)

-- all latches are set
pub latches_done : (c d : Circuit) (ls : List Latch) (k : ℕ) → d ≡ record c { latches = map (λ latch. latch) (take k ls) ++ drop k c.latches } → length ls ≡ length c.latches → length ls ≤ k
    → d ≡ record c { latches = ls }
latches_done c d ls k is many all =
    is ∙ ap (λ (x : List Latch). record c { latches = x }) (ap₂ ◌++◌ (map-id (take k ls) ∙ take_all k ls all) (drop_of_length-le c.latches (omega arith)) ∙ append-nil ls)

-- literals that are defined pass the test
pub defined_test : (n : Net) (ls : List ℕ) → All (IsDefined n) ls → are_defined n ls ≡ true
defined_test n [] all = refl
defined_test n (l ∷ ls) all =
    let head : IsDefined n l = All-head (IsDefined n) l ls all in
    let rest : are_defined n ls ≡ true = defined_test n ls (All-tail (IsDefined n) l ls all) in
    let t : nat_le (variable l) (variables n) ≡ true = grind (arith, nat_tests) in
    rw t rest

-- a justice property that a circuit takes
pub justice_fits : (c : Circuit) (ls : List ℕ) → All (IsDefined (net c)) ls → length c.justice + 1 ≤ greatest_count → sum_by length c.justice + length ls ≤ greatest_count → justice_refusal c ls ≡ None
justice_fits c ls defined few small =
    let a : nat_le greatest_count (length c.justice) ≡ false = grind (arith, nat_tests) in
    let b : nat_lt greatest_count (sum_by length c.justice + length ls) ≡ false = grind (arith, nat_tests) in
    rw (defined_test (net c) ls defined, a, b) refl

-- and the next one of a circuit is such a one
pub next_justice : (c d e : Circuit) (i : ℕ) (ls : List ℕ) → IsCircuit c → net e ≡ net c → d ≡ record e { justice = take i c.justice } → slice_get c.justice i ≡ Some ls
    → All (IsDefined (net d)) ls × (length d.justice + 1 ≤ greatest_count) × (sum_by length d.justice + length ls ≤ greatest_count)
next_justice c d e i ls valid same is at =
    let inside : i < length c.justice = slice_get_within c.justice i ls at in
    let found : get_or c.justice i ls ≡ ls = get_or_from_slice_get c.justice i ls ls at in
    let of : net d ≡ net c = ap net is ∙ same in
    let so_far : length (take i c.justice) ≡ i = length-take-le i c.justice (omega arith) in
    let list : d.justice ≡ take i c.justice = ap (λ (x : Circuit). x.justice) is in
    let sum = sum_by_more_le length c.justice i ls inside in
    let few = valid.few.justice in
    let small = valid.few.justice_literals in (
      subst (λ (n : Net). All (IsDefined n) ls) (sym of) (subst (All (IsDefined (net c))) found (All-get_or (All (IsDefined (net c))) c.justice i ls inside valid.defined.justice)),
      (let l = ap length list in omega arith),
      (let s = ap (sum_by length) list in let l = ap length found in omega arith),
    )

pub more_justice : (d e f : Circuit) (js : List (List ℕ)) (i : ℕ) (ls : List ℕ) → d ≡ record e { justice = take i js } → slice_get js i ≡ Some ls → f ≡ with_justice d ls
    → f ≡ record e { justice = take (i + 1) js }
more_justice d e f js i ls is at pushed =
    let inside : i < length js = slice_get_within js i ls at in
    let found : get_or js i ls ≡ ls = get_or_from_slice_get js i ls ls at in
    pushed ∙ ap (λ (x : Circuit). with_justice x ls) is
    ∙ ap (λ (x : List (List ℕ)). record e { justice = x }) (ap (λ (x : List ℕ). take i js ++ x ∷ []) (sym found) ∙ sym (take_more js i ls inside))

-- what is defined over the same net
pub all_defined : (n m : Net) (xs ys : List ℕ) → n ≡ m → ys ≡ xs → All (IsDefined m) xs → All (IsDefined n) ys
all_defined n m xs ys same is all = subst (λ (x : Net). All (IsDefined x) ys) (sym same) (subst (All (IsDefined m)) (sym is) all)
