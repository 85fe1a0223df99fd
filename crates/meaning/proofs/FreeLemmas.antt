-- A variable that is not defined yet.
use Rattle.std.proofs.Common.{◌≡◌, ℕ, zero, suc, ◌<◌, ◌≤◌, ◌||◌, nat_eq, true, false, List, [], ◌∷◌, ◌++◌, length, length-append, map, if◌then◌else◌, refl, sym, ap, ◌∙◌, inl, inr, arith}
use Rattle.std.specs.List.{list_any}
use Rattle.std.proofs.lemmas.Bool.{cases_Bool, or_from, or_parts}
use Rattle.std.proofs.lemmas.Bool.Decides.{nat_tests}
use Rattle.std.proofs.lemmas.List.{length-map}
use Rattle.base.specs.Literal.{variable}
use Rattle.aigerlists.specs.Loose.{Loose, latch_variable, gate_variable, defined_variables, defined_count}

-- a list without the first of a number
abbrev without : ℕ → List ℕ → List ℕ
without v [] = []
without v (x ∷ xs) = if nat_eq v x then xs else x ∷ without v xs

shorter : (v : ℕ) (xs : List ℕ) → list_any (nat_eq v) xs ≡ true → suc (length (without v xs)) ≡ length xs
shorter v [] has = absurd cc
shorter v (x ∷ xs) has =
    elim (cases_Bool (nat_eq v x)) [
      | inl same ↦ rw same refl
      | inr other ↦
          let rest : list_any (nat_eq v) xs ≡ true = rw other at has in
          rw other (ap suc (shorter v xs rest))
    ]

-- another number that is not left is not there
still_none : (v w : ℕ) (xs : List ℕ) → nat_eq w v ≡ false → list_any (nat_eq w) (without v xs) ≡ false → list_any (nat_eq w) xs ≡ false
still_none v w [] apart none = refl
still_none v w (x ∷ xs) apart none =
    elim (cases_Bool (nat_eq v x)) [
      | inl same ↦
          let is : v ≡ x = grind (arith, nat_tests) in
          let rest : list_any (nat_eq w) xs ≡ false = rw same at none in
          let first : nat_eq w x ≡ false = ap (nat_eq w) (sym is) ∙ apart in
          or_from (nat_eq w x) (list_any (nat_eq w) xs) first rest
      | inr other ↦
          let both : (nat_eq w x || list_any (nat_eq w) (without v xs)) ≡ false = rw other at none in
          let parts = or_parts (nat_eq w x) (list_any (nat_eq w) (without v xs)) both in
          or_from (nat_eq w x) (list_any (nat_eq w) xs) parts.0 (still_none v w xs apart parts.1)
    ]

-- of so many numbers from 1 on a shorter list has not all
pub record IsFree (greatest : ℕ) (xs : List ℕ) : Type 0 where
  pub variable : ℕ
  pub least : 1 ≤ variable
  pub most : variable ≤ greatest
  pub free : list_any (nat_eq variable) xs ≡ false

pub free_number : (greatest : ℕ) (xs : List ℕ) → length xs < greatest → IsFree greatest xs
free_number zero xs fewer = absurd (omega (arith, fewer))
free_number (suc n) xs fewer =
    elim (cases_Bool (list_any (nat_eq (suc n)) xs)) [
      | inr none ↦ record { variable = suc n; least = omega arith; most = omega arith; free = none }
      | inl has ↦
          let left = shorter (suc n) xs has in
          let f = free_number n (without (suc n) xs) (omega (arith, left, fewer)) in
          let most = f.most in
          let apart : nat_eq f.variable (suc n) ≡ false = by f.variable most in
          record { variable = f.variable; least = f.least; most = omega (arith, most); free = still_none (suc n) f.variable xs apart f.free }
    ]
  where
    by : (v : ℕ) → v ≤ n → nat_eq v (suc n) ≡ false
    by v low = grind (arith, nat_tests)

pub length-defined : (l : Loose) → length (defined_variables l) ≡ defined_count l
length-defined l =
    omega (
      arith,
      length-append (map variable l.inputs ++ map latch_variable l.latches) (map gate_variable l.gates),
      length-append (map variable l.inputs) (map latch_variable l.latches),
      length-map l.inputs variable,
      length-map l.latches latch_variable,
      length-map l.gates gate_variable,
    )

pub free_variable : (greatest : ℕ) (l : Loose) → defined_count l < greatest → IsFree greatest (defined_variables l)
free_variable greatest l fewer = free_number greatest (defined_variables l) (omega (arith, length-defined l, fewer))
