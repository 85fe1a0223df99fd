-- Numbers that digits of a radix write, read from the left.
use Rattle.std.proofs.Common.{◌≡◌, ℕ, ◌+◌, ◌*◌, ◌^◌, ◌<◌, ◌≤◌, min, true, false, List, [], ◌∷◌, length, get_or, take, Some, None, inl, inr, refl, ap, ◌∙◌, arith}
use Rattle.std.specs.Char.{is_digit, digit_value}
use Rattle.std.specs.Str.Parse.{AllDigits, digits_value}
use Rattle.std.proofs.Math.Nat.{le-mul_of_pos_right, pow-le-pow_right}
use Rattle.std.proofs.lemmas.Bool.{cases_lt, and_parts, and_from, ltb-true, lt-ltb, false_from_ne_true}
use Rattle.std.proofs.lemmas.List.Folds.{list_all_at, list_all_more}
use Rattle.std.proofs.lemmas.Int.Digits.{digits_value_more, digits_value-lt}
use Rattle.base.proofs.DecimalLemmas.{chosen}
use Rattle.btor2text.proofs.PlaceLemmas.{some_is}
use Rattle.btor2text.specs.Digits.{are_digits_of, number_in}

-- one more digit of a number that is told up to 2 ^ 64
capped_more : (v n radix d : ℕ) → 1 ≤ radix → min v (2 ^ 64) ≡ n → min (v * radix + d) (2 ^ 64) ≡ min (n * radix + d) (2 ^ 64)
capped_more v n radix d least is =
    elim (cases_lt v (2 ^ 64)) [
      | inl lt ↦ let same : v ≡ n = omega (arith, is) in rw same refl
      | inr le ↦
          let whole : v ≤ v * radix = le-mul_of_pos_right v least in
          let capped : n ≤ n * radix = le-mul_of_pos_right n least in
          omega (arith, is, whole, capped)
    ]

-- what a number that was read says
pub number_parts : (radix : ℕ) (bytes : List ℕ) (n : ℕ) → number_in radix bytes ≡ Some n → (are_digits_of radix bytes ≡ true) × (min (digits_value radix bytes) (2 ^ 64) ≡ n)
unfolding number_in
number_parts radix bytes n e =
    elim (chosen (are_digits_of radix bytes) (Some (min (digits_value radix bytes) (2 ^ 64))) None (Some n) e) [
      | inl h ↦ (h.0, some_is _ _ h.1)
      | inr h ↦ absurd cc
    ]

pub number_from : (radix : ℕ) (bytes : List ℕ) → are_digits_of radix bytes ≡ true → number_in radix bytes ≡ Some (min (digits_value radix bytes) (2 ^ 64))
unfolding number_in
number_from radix bytes h = rw h refl

pub number_small : (radix : ℕ) (bytes : List ℕ) (n : ℕ) → number_in radix bytes ≡ Some n → n ≤ 2 ^ 64
number_small radix bytes n e = omega (arith, (number_parts radix bytes n e).1)

-- no digit writes 0
pub number_none : (radix : ℕ) → number_in radix [] ≡ Some 0
unfolding number_in
number_none radix = refl

pub number_more : (radix : ℕ) (bytes : List ℕ) (i n : ℕ) → 1 ≤ radix → i < length bytes → number_in radix (take i bytes) ≡ Some n → is_digit (get_or bytes i 0) radix ≡ true
    → number_in radix (take (i + 1) bytes) ≡ Some (min (n * radix + digit_value (get_or bytes i 0)) (2 ^ 64))
number_more radix bytes i n least lt e digit =
    let before = number_parts radix (take i bytes) n e in
    let all : are_digits_of radix (take (i + 1) bytes) ≡ true = list_all_more (λ b. is_digit b radix) bytes i 0 lt ∙ and_from _ _ before.0 digit in
    let value = ap (λ (v : ℕ). min v (2 ^ 64)) (digits_value_more radix bytes i lt) in
    number_from radix (take (i + 1) bytes) all ∙ ap (λ (v : ℕ). Some v) (value ∙ capped_more (digits_value radix (take i bytes)) n radix (digit_value (get_or bytes i 0)) least before.1)

-- a byte that is no digit
pub number_stops : (radix : ℕ) (bytes : List ℕ) (i : ℕ) → i < length bytes → is_digit (get_or bytes i 0) radix ≡ false → number_in radix bytes ≡ None
unfolding number_in
number_stops radix bytes i lt not = rw (list_all_at (λ b. is_digit b radix) bytes i 0 lt not) refl

-- a byte is a digit where its value is below the radix
pub digit_is : (b radix : ℕ) → digit_value b < radix → is_digit b radix ≡ true
digit_is b radix lt = lt-ltb (digit_value b) radix lt

pub not_digit : (b radix : ℕ) → (digit_value b < radix → ⊥) → is_digit b radix ≡ false
not_digit b radix h = false_from_ne_true _ (λ e. h (ltb-true (digit_value b) radix e))

-- digits that are no more than a word takes write a word
pub all_digits : (radix : ℕ) (bytes : List ℕ) → are_digits_of radix bytes ≡ true → AllDigits radix bytes
all_digits radix [] h = tt
all_digits radix (b ∷ bs) h = let parts = and_parts (is_digit b radix) (are_digits_of radix bs) h in (ltb-true (digit_value b) radix parts.0, all_digits radix bs parts.1)

pub word_of_digits : (radix most : ℕ) (bytes : List ℕ) → 1 ≤ radix → radix ^ most ≡ 2 ^ 64 → length bytes ≤ most → are_digits_of radix bytes ≡ true → digits_value radix bytes < 2 ^ 64
word_of_digits radix most bytes least word le h =
    let below = digits_value-lt radix bytes (all_digits radix bytes h) in
    let more : radix ^ length bytes ≤ radix ^ most = pow-le-pow_right least le in
    omega (arith, below, more, word)
