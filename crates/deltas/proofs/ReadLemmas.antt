-- A delta is read again.
use Rattle.std.proofs.Common.{◌≡◌, ◌≢◌, ℕ, zero, suc, ◌+◌, ◌-◌, ◌*◌, ◌/◌, ◌%◌, ◌^◌, ◌<◌, ◌≤◌, true, false, nat_lt, List, ◌∷◌, ◌++◌, Ok, refl, ap, ◌∙◌, inl, inr, arith}
use Rattle.std.proofs.lemmas.Bool.{cases_lt, ne_eqb}
use Rattle.std.proofs.lemmas.Bool.Decides.{nat_tests}
use Rattle.deltas.specs.Deltas.{digits_128, delta, more_digits, number_at}
use Rattle.deltas.proofs.DigitLemmas.{digits-more, digits-one}

-- a byte below 128, and one that is not
is_last : (n : ℕ) → n < 128 → nat_lt n 128 ≡ true
is_last n h = grind (arith, nat_tests)

is_not_last : (n : ℕ) → 128 ≤ n → nat_lt n 128 ≡ false
is_not_last n h = grind (arith, nat_tests)

-- the value of the lowest digit and of the others
value_of_digits : (n : ℕ) → (n % 128 + 128 - 128) + 128 * (n / 128) ≡ n
value_of_digits n = omega arith

last_digit : (more n : ℕ) (rest : List ℕ) → n < 128 → 0 < n → more_digits more (n ∷ rest) ≡ Ok (n, rest)
last_digit zero n rest small some =
    let other : n ≢ 0 = omega arith in
    rw (is_last n small, ne_eqb n 0 other) refl
last_digit (suc more) n rest small some =
    let other : n ≢ 0 = omega arith in
    rw (is_last n small, ne_eqb n 0 other) refl

-- the digits behind the first one
more_digits-read : (more n : ℕ) (rest : List ℕ) → n < 128 * 128 ^ more → 0 < n → more_digits more (digits_128 more n ++ rest) ≡ Ok (n, rest)
more_digits-read zero n rest h some = last_digit zero n rest (omega (arith, h)) some
more_digits-read (suc more) n rest h some =
    elim (cases_lt n 128) [
      | inl small ↦ ap (λ (l : List ℕ). more_digits (suc more) (l ++ rest)) (digits-one (suc more) n small) ∙ last_digit (suc more) n rest small some
      | inr large ↦
          let others : more_digits more (digits_128 more (n / 128) ++ rest) ≡ Ok (n / 128, rest) = more_digits-read more (n / 128) rest (omega (arith, h)) (omega arith) in
          let first : nat_lt (n % 128 + 128) 128 ≡ false = is_not_last (n % 128 + 128) (omega arith) in
          ap (λ (l : List ℕ). more_digits (suc more) (l ++ rest)) (digits-more more n large)
          ∙ (rw (first, others) (ap (λ (m : ℕ). Ok (m, rest)) (value_of_digits n)))
    ]

-- a delta
pub number-read : (n : ℕ) (rest : List ℕ) → n < 2 ^ 35 → number_at (delta n ++ rest) ≡ Ok (n, rest)
unfolding number_at
number-read n rest h =
    elim (cases_lt n 128) [
      | inl small ↦ ap (λ (l : List ℕ). number_at (l ++ rest)) (digits-one 4 n small) ∙ (rw (is_last n small) refl)
      | inr large ↦
          let others : more_digits 3 (digits_128 3 (n / 128) ++ rest) ≡ Ok (n / 128, rest) = more_digits-read 3 (n / 128) rest (omega arith) (omega arith) in
          let first : nat_lt (n % 128 + 128) 128 ≡ false = is_not_last (n % 128 + 128) (omega arith) in
          ap (λ (l : List ℕ). number_at (l ++ rest)) (digits-more 3 n large)
          ∙ (rw (first, others) (ap (λ (m : ℕ). Ok (m, rest)) (value_of_digits n)))
    ]
