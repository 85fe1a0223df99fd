use Rattle.std.proofs.Common.{◌≡◌, ℕ, Option, ◌+◌, ◌<◌, ◌≤◌, nat_eq, ap, arith, ⊎_elim}
use Rattle.std.proofs.lemmas.Bool.{cases_lt}
use Rattle.std.specs.BinaryHeap.{heap_items}
use Rattle.std.specs.declared.cmp.Reverse.{Reverse}
use Rattle.aigerlists.specs.Readiness.{one_if, times_ready}
use Rattle.aigerlists.proofs.ReadinessLemmas.{times_pushed}
use Rattle.aigerlists.proofs.readiness.ReadyGates.put.Goals as goal

-- the one of two that comes first, and the other one
both : (a b least most i : ℕ) → (a < b → (least ≡ a) × (most ≡ b)) → (b ≤ a → (least ≡ b) × (most ≡ a)) → one_if (nat_eq least i) + one_if (nat_eq most i) ≡ one_if (nat_eq b i) + one_if (nat_eq a i)
both a b least most i lower upper =
    let once : ℕ → ℕ = λ k. one_if (nat_eq k i) in
    ⊎_elim (λ (low : a < b). omega (arith, ap once (lower low).0, ap once (lower low).1)) (λ (low : b ≤ a). omega (arith, ap once (upper low).0, ap once (upper low).1)) (cases_lt a b)

pub returns : goal.returns
returns c i =
    let x : Reverse ℕ = record { 0 = c.max.result } in
    let two = both c.args.gate c.in-Some.first c.min.result c.max.result i (λ low. (omega (arith, c.min.ensures, low), omega (arith, c.max.ensures, low))) (λ low. (omega (arith, c.min.ensures, low), omega (arith, c.max.ensures, low))) in
    omega (arith, two, times_pushed i x (heap_items c.args.self.now.others) (heap_items c.push.new.self) c.in_ok-push.ensures.permutation, ap (λ (first : Option ℕ). times_ready first (heap_items c.args.self.now.others) i) c.in-Some.is)
