-- What is kept of a decimal byte by byte is what its bytes say.
use Rattle.std.proofs.Common.{◌≡◌, ℕ, ◌+◌, ◌-◌, ◌*◌, ◌≤◌, ◌^◌, ◌==◌, min, nat_lt, nat_le, Bool, true, false, not, ◌&&◌, ◌||◌, List, [], ◌∷◌, ◌++◌, Some, None, length, take, get_or, codes, length-append, refl, sym, ap, ap₂, ◌∙◌, arith, inl, inr}
use Rattle.std.specs.Str.{bytes_eq}
use Rattle.std.proofs.lemmas.Bool.{cases_Bool, and_parts, eqb-true, eqb-false, ne_eqb, le-leb, lt-ltb}
use Rattle.std.proofs.lemmas.List.Folds.{list_all-append}
use Rattle.std.proofs.Math.Seq.{take-append_seam, take-length}
use Rattle.base.specs.Decimals.{is_digit, are_digits, is_decimal, capped_value, number_of, number_more}
use Rattle.base.proofs.DecimalLemmas.{digit_range, capped_value-nil, capped_value_more}
use Rattle.base.specs.declared.numeral.Numeral.{Numeral}
use Rattle.base.specs.Numerals.{CountsDigits, numeral_more, is_numeral}

-- a number with a digit more
value_more : (digits : List ℕ) (b n : ℕ) → are_digits (digits ++ b ∷ []) ≡ true → n ≡ capped_value digits → number_more n b ≡ capped_value (digits ++ b ∷ [])
value_more digits b n all is =
    let whole : List ℕ = digits ++ b ∷ [] in
    let long : length whole ≡ length digits + 1 = length-append digits (b ∷ []) in
    let front : take (length digits) whole ≡ digits = take-append_seam digits (b ∷ []) in
    let full : take (length digits + 1) whole ≡ whole = ap (λ (n : ℕ). take n whole) (sym long) ∙ take-length whole in
    let last : get_or whole (length digits) 0 ≡ b = at_end digits b in
    let digit : is_digit b ≡ true = last_digit digits b all in
    let range : (48 ≤ get_or whole (length digits) 0) × (get_or whole (length digits) 0 ≤ 57) = rw last (digit_range b digit) in
    let more = capped_value_more whole (length digits) (omega (arith, long)) range in
    let one : min (min (capped_value digits * 10) (2 ^ 64 - 1) + (b - 48)) (2 ^ 64 - 1) ≡ capped_value whole =
    sym (sym (ap capped_value full) ∙ more ∙ ap₂ (λ (front : List ℕ) (last : ℕ). min (min (capped_value front * 10) (2 ^ 64 - 1) + (last - 48)) (2 ^ 64 - 1)) front last) in
    rw (digit, is) one
  where
    at_end : (digits : List ℕ) (b : ℕ) → get_or (digits ++ b ∷ []) (length digits) 0 ≡ b
    at_end [] b = refl
    at_end (d ∷ digits) b = at_end digits b

    last_digit : (digits : List ℕ) (b : ℕ) → are_digits (digits ++ b ∷ []) ≡ true → is_digit b ≡ true
    last_digit [] b all = (and_parts (is_digit b) true all).0
    last_digit (d ∷ digits) b all = last_digit digits b (and_parts (is_digit d) (are_digits (digits ++ b ∷ [])) all).1

and-true : (b : Bool) → (b && true) ≡ b
and-true true = refl
and-true false = refl

and-false : (b : Bool) → (b && false) ≡ false
and-false true = refl
and-false false = refl

digits-more : (digits : List ℕ) (b : ℕ) → are_digits (digits ++ b ∷ []) ≡ (are_digits digits && is_digit b)
digits-more digits b = list_all-append is_digit digits (b ∷ []) ∙ ap (λ (d : Bool). are_digits digits && d) (and-true (is_digit b))

digits_kept : (n : Numeral) (bytes : List ℕ) (b : ℕ) → CountsDigits n bytes → (n.digits && is_digit b) ≡ are_digits (bytes ++ b ∷ [])
digits_kept n bytes b h = ap (λ (d : Bool). d && is_digit b) h.digits ∙ sym (digits-more bytes b)

number_kept : (n : Numeral) (bytes : List ℕ) (b : ℕ) → CountsDigits n bytes → (n.digits && is_digit b) ≡ true → number_more n.number b ≡ capped_value (bytes ++ b ∷ [])
number_kept n bytes b h all = value_more bytes b n.number (sym (digits_kept n bytes b h) ∙ all) (h.number (and_parts n.digits (is_digit b) all).0)

-- a byte more
pub counts_more : (n : Numeral) (bytes : List ℕ) (b : ℕ) → CountsDigits n bytes → CountsDigits (numeral_more n b) (bytes ++ b ∷ [])
counts_more n [] b h =
    let none : n.count ≡ 0 = h.count in
    record { count = omega (arith, none); zero = rw none refl; digits = digits_kept n [] b h; number = number_kept n [] b h }
counts_more n (x ∷ xs) b h =
    let many : n.count ≡ min (length (x ∷ xs)) (2 ^ 64 - 1) = h.count in
    let not_none : (n.count == 0) ≡ false = ne_eqb n.count 0 (λ e. omega (arith, many, e)) in
    record {
      count = omega (arith, many, length-append (x ∷ xs) (b ∷ []));
      zero = rw not_none h.zero;
      digits = digits_kept n (x ∷ xs) b h;
      number = number_kept n (x ∷ xs) b h;
    }

-- no byte
pub counts_nothing : CountsDigits (record { count = 0; zero = false; digits = true; number = 0 }) []
counts_nothing = record { count = refl; zero = refl; digits = refl; number = λ all. capped_value-nil }

pub zero_kept : (n : Numeral) (bytes : List ℕ) → CountsDigits n bytes → ((n.count == 1) && n.zero) ≡ bytes_eq bytes (codes "0")
zero_kept n [] h = let none : n.count ≡ 0 = h.count in rw none refl
zero_kept n (x ∷ []) h = let one : n.count ≡ 1 = h.count in rw (one, h.zero) (sym (and-true (x == 48)))
zero_kept n (x ∷ y ∷ ys) h =
    let many : n.count ≡ min (length (x ∷ y ∷ ys)) (2 ^ 64 - 1) = h.count in
    rw (ne_eqb n.count 1 (λ e. omega (arith, many, e))) (sym (and-false (x == 48)))

-- ---- decimals

-- digits of which the first is not `0`
digits_not_zero : (d : ℕ) (ds : List ℕ) → (d == 48) ≡ false → (nat_le 49 d && nat_le d 57 && are_digits (d ∷ ds)) ≡ are_digits (d ∷ ds)
digits_not_zero d ds not =
    elim (cases_Bool (are_digits (d ∷ ds))) [
      | inl all ↦
          let range = digit_range d (and_parts (is_digit d) (are_digits ds) all).0 in
          let above : 49 ≤ d = omega (arith, range, eqb-false d 48 not) in
          rw (all, le-leb 49 d above, le-leb d 57 range.1) refl
      | inr none ↦ rw none (and-false (nat_le 49 d && nat_le d 57))
    ]

-- they are a decimal, by what is kept
decimal_test : (n : Numeral) (bytes : List ℕ) → CountsDigits n bytes → is_decimal bytes ≡ is_numeral n
unfolding is_decimal
decimal_test n [] h = let none : n.count ≡ 0 = h.count in rw none refl
decimal_test n (d ∷ []) h =
    let one : n.count ≡ 1 = h.count in
    elim (cases_Bool (d == 48)) [
      | inl zero ↦ let is : d ≡ 48 = eqb-true d 48 zero in rw (one, h.digits, h.zero, is) refl
      | inr not ↦ rw (one, h.digits, h.zero, not) (digits_not_zero d [] not ∙ sym (and-true (are_digits (d ∷ []))))
    ]
decimal_test n (d ∷ e ∷ ds) h =
    let many : n.count ≡ min (length (d ∷ e ∷ ds)) (2 ^ 64 - 1) = h.count in
    let above : nat_lt 0 n.count ≡ true = lt-ltb 0 n.count (omega (arith, many)) in
    let not_one : (n.count == 1) ≡ false = ne_eqb n.count 1 (λ e. omega (arith, many, e)) in
    elim (cases_Bool (d == 48)) [
      | inl zero ↦ rw (above, not_one, h.digits, h.zero, zero) (sym (and-false (are_digits (d ∷ e ∷ ds))))
      | inr not ↦ rw (above, not_one, h.digits, h.zero, not) (digits_not_zero d (e ∷ ds) not ∙ sym (and-true (are_digits (d ∷ e ∷ ds))))
    ]

pub number_there : (n : Numeral) (bytes : List ℕ) → CountsDigits n bytes → is_numeral n ≡ true → Some n.number ≡ number_of bytes
unfolding number_of
number_there n bytes h holds =
    let test : is_decimal bytes ≡ true = decimal_test n bytes h ∙ holds in
    let digits : n.digits ≡ true = (and_parts n.digits (not n.zero || (n.count == 1)) (and_parts (nat_lt 0 n.count) (n.digits && (not n.zero || (n.count == 1))) holds).1).0 in
    rw (test, h.number digits) refl

pub no_number : (n : Numeral) (bytes : List ℕ) → CountsDigits n bytes → is_numeral n ≡ false → None ≡ number_of bytes
unfolding number_of
no_number n bytes h fails = let test : is_decimal bytes ≡ false = decimal_test n bytes h ∙ fails in rw test refl
