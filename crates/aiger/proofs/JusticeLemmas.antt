-- One justice property more is refused exactly where there are too many, or too many literals with it.
use Rattle.std.proofs.Common.{◌≡◌, ℕ, ◌+◌, ◌-◌, ◌<◌, ◌≤◌, List, length, Some, None, nat_le, nat_lt, if◌then◌else◌, true, false, Bool, refl, arith}
use Rattle.std.specs.List.{sum_by}
use Rattle.std.proofs.lemmas.Bool.Decides.{nat_tests}
use Rattle.aiger.specs.Circuit.{size_refusal}
use Rattle.aiger.specs.Limits.{greatest_count}
use Rattle.aiger.specs.declared.fault.CircuitFault.TheVariants.{TooBig}

pub size_refusal-none : (lists : List (List ℕ)) (size : ℕ) → length lists < greatest_count → sum_by length lists + size ≤ greatest_count → size_refusal lists size ≡ None
size_refusal-none lists size few small =
    let a : nat_le greatest_count (length lists) ≡ false = grind (arith, nat_tests) in
    let b : nat_lt greatest_count (sum_by length lists + size) ≡ false = grind (arith, nat_tests) in
    rw (a, b) refl

pub size_refusal-large : (lists : List (List ℕ)) (size : ℕ) → greatest_count < sum_by length lists + size → size_refusal lists size ≡ Some TooBig
size_refusal-large lists size large = by (nat_le greatest_count (length lists))
  where
    by : (b : Bool) → (if b then Some TooBig else (if nat_lt greatest_count (sum_by length lists + size) then Some TooBig else None)) ≡ Some TooBig
    by true = refl
    by false = let t : nat_lt greatest_count (sum_by length lists + size) ≡ true = grind (arith, nat_tests) in rw t refl

le_from_test : (a b : ℕ) → nat_le a b ≡ true → a ≤ b
le_from_test a b e = grind (arith, nat_tests)

above_from_test : (a b : ℕ) → nat_le a b ≡ false → b < a
above_from_test a b e = grind (arith, nat_tests)

pub size_refusal_by : (lists : List (List ℕ)) (size total : ℕ) → length lists < greatest_count → sum_by length lists ≡ total → size ≤ greatest_count
    → size_refusal lists size ≡ (if nat_le total (greatest_count - size) then None else Some TooBig)
size_refusal_by lists size total few sum small = by (nat_le total (greatest_count - size)) refl
  where
    by : (b : Bool) → nat_le total (greatest_count - size) ≡ b → size_refusal lists size ≡ (if b then None else Some TooBig)
    by true e = size_refusal-none lists size few (omega (arith, le_from_test total (greatest_count - size) e))
    by false e = size_refusal-large lists size (omega (arith, above_from_test total (greatest_count - size) e))
