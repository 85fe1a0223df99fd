-- Decimals: what a token that is read as a number is, and that the decimal of a number is read as it.
use Rattle.std.proofs.Common.{nat_le, ◌==◌, ◌⊎◌, ◌≡◌, ℕ, ◌+◌, ◌-◌, ◌*◌, ◌^◌, ◌<◌, ◌≤◌, min, Bool, true, false, cond, ◌&&◌, ◌||◌, not, List, [], ◌∷◌, Some, None, length, get_or, take, inl, inr, refl, sym, subst, ◌∙◌, arith, decimal}
use Rattle.std.specs.List.{list_any, list_all}
use Rattle.std.specs.Str.Parse.{digits_value}
use Rattle.std.proofs.lemmas.Bool.{cases_Bool, both_ways, leb-true, and_parts, eqb-true, eqb-false, ne_eqb, cases_lt, cases_eq, eq-eqb, le-leb, and_from, or_from}
use Rattle.std.proofs.Math.Bool.{and-false}
use Rattle.std.proofs.lemmas.Str.{digit_value_digit}
use Rattle.std.proofs.lemmas.Int.Digits.{digits_value_more}
use Rattle.std.proofs.lemmas.List.{nil_from_length}
use Rattle.std.proofs.lemmas.List.Folds.{list_all_at, list_all_more}
use Rattle.std.proofs.lemmas.Str.Parse.{IsNumeralModel, IsDigitsTest, numerals_by_value}
use Rattle.std.proofs.lemmas.Fmt.{decimal-digits_value, digits_decimal, digits_value-decimal, decimal_nonempty, first_decimal, decimal_digit}
use Rattle.base.specs.Decimals.{is_digit, are_digits, is_nothing, is_decimal, begins_decimal, capped_value, digits_number, number_of}

-- a digit's test tells its range
pub digit_range : (b : ℕ) → is_digit b ≡ true → (48 ≤ b) × (b ≤ 57)
digit_range b h = let parts = and_parts _ _ h in (leb-true _ _ parts.0, leb-true _ _ parts.1)

-- no digits write 0
pub capped_value-nil : 0 ≡ capped_value []
unfolding capped_value
capped_value-nil = refl

-- one more digit
pub capped_value_more : (digits : List ℕ) (i : ℕ) → i < length digits → (48 ≤ get_or digits i 0) × (get_or digits i 0 ≤ 57)
    → capped_value (take (i + 1) digits) ≡ min (min (capped_value (take i digits) * 10) (2 ^ 64 - 1) + (get_or digits i 0 - 48)) (2 ^ 64 - 1)
unfolding capped_value
capped_value_more digits i lt range =
    let more = digits_value_more 10 digits i lt in
    let value = digit_value_digit (get_or digits i 0) range in
    rw more (omega arith)

-- the digits before a byte that is one, and it
pub digits_more : (digits : List ℕ) (i : ℕ) → i < length digits → (48 ≤ get_or digits i 0) × (get_or digits i 0 ≤ 57)
    → are_digits (take i digits) ≡ true → are_digits (take (i + 1) digits) ≡ true
digits_more digits i lt range h =
    list_all_more is_digit digits i 0 lt
    ∙ and_from _ _ h (and_from _ _ (le-leb _ _ range.0) (le-leb _ _ range.1))

-- a byte that is no digit
pub digits_not : (digits : List ℕ) (i : ℕ) → i < length digits → (get_or digits i 0 < 48) ⊎ (57 < get_or digits i 0) → digits_number digits ≡ None
unfolding digits_number
digits_not digits i lt outside =
    elim (cases_Bool (is_digit (get_or digits i 0))) [
      | inl e ↦ absurd (omega (arith, digit_range (get_or digits i 0) e, outside))
      | inr e ↦ rw (list_all_at is_digit digits i 0 lt e) refl
    ]

-- each byte is a digit
pub digits_all : (digits : List ℕ) → are_digits digits ≡ true → digits_number digits ≡ Some (capped_value digits)
unfolding digits_number
digits_all digits h = rw h refl

-- the test for digits is one of std's
digits_test : IsDigitsTest (λ ds. are_digits ds ≡ true)
digits_test = record {
  empty = refl;
  parts = λ b bs h. let p = and_parts _ _ h in (digit_range b p.0, p.1);
  more = λ b bs range h. and_from _ _ (and_from _ _ (le-leb _ _ range.0) (le-leb _ _ range.1)) h;
}

own : IsNumeralModel (λ ds. are_digits ds ≡ true) (digits_value 10)
own = numerals_by_value (λ ds. are_digits ds ≡ true) digits_test

-- a decimal's bytes are digits, at least one, and `0` begins none but itself
record IsPlain (token : List ℕ) : Type 0 where
  digits : are_digits token ≡ true
  some : 0 < length token
  zero : get_or token 0 0 ≡ 48 → length token ≡ 1

-- bytes that are none are the empty list
pub nothing : (bytes : List ℕ) → is_nothing bytes ≡ true → bytes ≡ []
nothing [] h = refl
nothing (b ∷ bs) h = absurd cc

one_zero : (b : ℕ) (bs : List ℕ) → b ≡ 48 → bs ≡ [] → IsPlain (b ∷ bs)
one_zero b bs is none = rw (is, none) (record { digits = refl; some = omega arith; zero = λ _. refl })

-- which branch gave the value, and that its test says so
pub chosen : {A : Type 0} (b : Bool) (x y z : A) → cond b x y ≡ z → ((b ≡ true) × (x ≡ z)) ⊎ ((b ≡ false) × (y ≡ z))
chosen true x y z e = inl (refl, e)
chosen false x y z e = inr (refl, e)

decimal_is_plain : (token : List ℕ) → is_decimal token ≡ true → IsPlain token
unfolding is_decimal
decimal_is_plain [] h = absurd cc
decimal_is_plain (b ∷ bs) h =
    elim (chosen (b == 48) (is_nothing bs) (nat_le 49 b && nat_le b 57 && are_digits (b ∷ bs)) true h) [
      | inl e ↦ one_zero b bs (eqb-true b 48 e.0) (nothing bs e.1)
      | inr e ↦
          let p = and_parts (nat_le 49 b && nat_le b 57) (are_digits (b ∷ bs)) e.1 in
          record { digits = p.1; some = omega arith; zero = λ is. absurd (eqb-false b 48 e.0 is) }
    ]

pub decimal_are_digits : (token : List ℕ) → is_decimal token ≡ true → are_digits token ≡ true
decimal_are_digits token h = (decimal_is_plain token h).digits

-- a token that is read as a number below 2 ^ 64 - 1 is the decimal of that number
pub number_is_decimal : (token : List ℕ) (n : ℕ) → number_of token ≡ Some n → n < 2 ^ 64 - 1 → token ≡ decimal n
unfolding number_of capped_value
number_is_decimal token n h lt =
    elim (chosen (is_decimal token) (Some (min (digits_value 10 token) (2 ^ 64 - 1))) None (Some n) h) [
      | inl e ↦
          let plain = decimal_is_plain token e.0 in
          let is : min (digits_value 10 token) (2 ^ 64 - 1) ≡ n = cc (e.1) in
          let value : digits_value 10 token ≡ n = omega arith in
          rw (← value) (sym (decimal-digits_value own token plain.digits plain.some plain.zero (omega arith)))
      | inr e ↦ absurd cc
    ]

-- a token that begins as a decimal is one where its bytes are digits
pub begun : (token : List ℕ) → begins_decimal token ≡ true → digits_number token ≡ number_of token
unfolding begins_decimal digits_number number_of is_decimal
begun [] h = absurd cc
begun (b ∷ bs) h =
    elim (cases_eq b 48) [
      | inl is ↦
          let none : is_nothing bs ≡ true = subst (λ t. (not t || is_nothing bs) ≡ true) (eq-eqb b 48 is) h in
          rw (is, nothing bs none) refl
      | inr other ↦
          rw (ne_eqb b 48 other) (
          elim (cases_Bool (are_digits (b ∷ bs))) [
            | inl e ↦
                let range = digit_range b (and_parts _ _ e).0 in
                let above : 49 ≤ b = omega (arith, other) in
                rw (e, le-leb 49 b above, le-leb b 57 range.1) refl
            | inr e ↦ rw (e, and-false (nat_le 49 b && nat_le b 57)) refl
          ]
          )
    ]

-- one that does not is none
pub not_begun : (token : List ℕ) → begins_decimal token ≡ false → None ≡ number_of token
unfolding begins_decimal number_of is_decimal
not_begun [] h = refl
not_begun (b ∷ bs) h =
    elim (cases_eq b 48) [
      | inl is ↦
          let some : is_nothing bs ≡ false = subst (λ t. (not t || is_nothing bs) ≡ false) (eq-eqb b 48 is) h in
          rw (eq-eqb b 48 is, some) refl
      | inr other ↦ absurd (both_ways true (subst (λ t. (not t || is_nothing bs) ≡ false) (ne_eqb b 48 other) h) refl)
    ]

-- what is no plain text of digits
plain_is_decimal : (token : List ℕ) → IsPlain token → is_decimal token ≡ true
unfolding is_decimal
plain_is_decimal [] h = absurd (omega (arith, h.some))
plain_is_decimal (b ∷ bs) h =
    elim (cases_eq b 48) [
      | inl is ↦
          let none : bs ≡ [] = nil_from_length bs (omega (arith, h.zero is)) in
          rw (eq-eqb b 48 is, none) refl
      | inr other ↦
          let range = digit_range b (and_parts _ _ h.digits).0 in
          let above : 49 ≤ b = omega (arith, other) in
          rw (ne_eqb b 48 other) (and_from _ _ (and_from _ _ (le-leb 49 b above) (le-leb b 57 range.1)) h.digits)
    ]

zero_is_one_digit : (n : ℕ) → n < 2 ^ 64 → get_or (decimal n) 0 0 ≡ 48 → length (decimal n) ≡ 1
zero_is_one_digit n lt first =
    elim (cases_lt 0 n) [
      | inl above ↦ absurd (omega (arith, first_decimal n above lt))
      | inr none ↦
          let is : n ≡ 0 = omega arith in
          rw (is, decimal_digit 0 (omega arith)) refl
    ]

-- the decimal of a number below 2 ^ 64 is read as it
pub number_of-decimal : (n : ℕ) → n < 2 ^ 64 → number_of (decimal n) ≡ Some n
unfolding number_of capped_value
number_of-decimal n lt =
    let yes : is_decimal (decimal n) ≡ true = plain_is_decimal (decimal n) (record { digits = digits_decimal own n lt; some = decimal_nonempty n lt; zero = zero_is_one_digit n lt }) in
    let value = digits_value-decimal own n lt in
    let small : min (digits_value 10 (decimal n)) (2 ^ 64 - 1) ≡ n = omega arith in
    rw (yes, small) refl

-- bytes of a kind that x is not of
pub none_of : (p : ℕ → Bool) (x : ℕ) (bytes : List ℕ) → ((b : ℕ) → p b ≡ true → (b == x) ≡ false) → list_all p bytes ≡ true → list_any (λ b. b == x) bytes ≡ false
none_of p x [] apart all = refl
none_of p x (b ∷ bs) apart all =
    let parts = and_parts (p b) (list_all p bs) all in
    or_from (b == x) (list_any (λ c. c == x) bs) (apart b parts.0) (none_of p x bs apart parts.1)

-- a byte below the digits is none of some digits
pub digits_without : (x : ℕ) (bytes : List ℕ) → x < 48 → are_digits bytes ≡ true → list_any (λ b. b == x) bytes ≡ false
digits_without x bytes small all =
    none_of is_digit x bytes (λ b is. ne_eqb b x (λ e. let range = digit_range b is in omega arith)) all

-- a decimal's bytes are digits
pub decimal_digits : (n : ℕ) → n < 2 ^ 64 → are_digits (decimal n) ≡ true
unfolding number_of
decimal_digits n lt =
    elim (chosen (is_decimal (decimal n)) (Some (capped_value (decimal n))) None (Some n) (number_of-decimal n lt)) [
      | inl e ↦ decimal_are_digits (decimal n) e.0
      | inr e ↦ absurd (cc (e.1))
    ]

pub decimal_without : (x n : ℕ) → x < 48 → n < 2 ^ 64 → list_any (λ b. b == x) (decimal n) ≡ false
decimal_without x n small lt = digits_without x (decimal n) small (decimal_digits n lt)
