-- Constants that are read are what the digits spell, and what they spell is read.
use Rattle.std.proofs.Common.{◌≡◌, ℕ, zero, suc, ◌^◌, ◌<◌, ◌≤◌, min, nat_le, true, false, ◌==◌, ◌&&◌, List, [], ◌∷◌, length, get_or, ℤ, pos, negsuc, Option, Some, None, Ok, decimal, refl, sym, ap, subst, ◌∙◌, inl, inr, arith}
use Rattle.std.specs.Fmt.{signed_decimal}
use Rattle.std.specs.Char.{digit_value}
use Rattle.std.specs.Str.Parse.{AllDigits, digits_value}
use Rattle.std.proofs.lemmas.Bool.{cases_lt, and_from, le-leb, lt-ltb, eqb-true, eqb-false, ne_eqb, false_from_ne_true, leb-true}
use Rattle.std.proofs.lemmas.Fmt.{decimal_is_IsNumeral, decimal-digits_value}
use Rattle.std.proofs.lemmas.Str.Parse.{numerals_by_value, tells_digits}
use Rattle.base.specs.Decimals.{is_nothing, are_digits, is_decimal, number_of, capped_value}
use Rattle.base.proofs.DecimalLemmas.{chosen, nothing, number_of-decimal}
use Rattle.btor2text.specs.Digits.{are_digits_of, IsNumber, number_in, decimal_number, negated, unsigned, signed_number, kept_count, kept_value}
use Rattle.btor2text.specs.Reading.{Tokens, some_of, digits_at, signed_at}
use Rattle.btor2text.proofs.BoundLemmas.{SignedFits}
use Rattle.btor2text.proofs.DigitLemmas.{number_parts, number_from, all_digits, word_of_digits}
use Rattle.btor2text.proofs.PlaceLemmas.{bind_ok, ok_is, some_is, some_read}

-- ---- digits of a radix

-- digits whose count is kept write the number that is kept
digits_kept : (radix most v : ℕ) (token : List ℕ) → 1 ≤ radix → radix ^ most ≡ 2 ^ 64 → number_in radix token ≡ Some v → kept_count most (length token) ≤ most
    → IsNumber radix (kept_count most (length token)) (kept_value most (length token) v) token
digits_kept radix most v token least word e le =
    elim (cases_lt most (length token)) [
      | inl lt ↦
          let many : nat_le (length token) most ≡ false = false_from_ne_true _ (λ h. omega (arith, leb-true (length token) most h, lt)) in
          absurd (omega (arith, rw many at le))
      | inr few ↦
          let parts = number_parts radix token v e in
          let small = word_of_digits radix most token least word few parts.0 in
          rw (le-leb (length token) most few) (record { each = parts.0; many = refl; says = omega (arith, parts.1, small) })
    ]

pub digits_at_takes : (radix most : ℕ) (tokens : Tokens) (x : ℕ × ℕ × Tokens) → 1 ≤ radix → radix ^ most ≡ 2 ^ 64 → digits_at radix most tokens ≡ Ok x → x.0 ≤ most
    → (digits : List ℕ) × (tokens ≡ digits ∷ x.2) × IsNumber radix x.0 x.1 digits
unfolding digits_at
digits_at_takes radix most [] x least word e = absurd cc
digits_at_takes radix most (token ∷ rest) x least word e =
    let b = bind_ok (some_of (number_in radix token)) (λ v. Ok (kept_count most (length token), kept_value most (length token) v, rest)) x e in
    subst (λ (p : ℕ × ℕ × Tokens). p.0 ≤ most → (digits : List ℕ) × (token ∷ rest ≡ digits ∷ p.2) × IsNumber radix p.0 p.1 digits)
    {x = (kept_count most (length token), kept_value most (length token) b.0, rest)}
    (ok_is (kept_count most (length token), kept_value most (length token) b.0, rest) x b.2)
    (λ le. (token, refl, digits_kept radix most b.0 token least word (some_read (number_in radix token) b.0 b.1) le))

pub digits_at-again : (radix most d v : ℕ) (digits : List ℕ) (rest : Tokens) → 1 ≤ radix → radix ^ most ≡ 2 ^ 64 → d ≤ most → IsNumber radix d v digits → digits_at radix most (digits ∷ rest) ≡ Ok (d, v, rest)
unfolding digits_at
digits_at-again radix most d v digits rest least word le n =
    let small = word_of_digits radix most digits least word (omega (arith, n.many, le)) n.each in
    let value : min (digits_value radix digits) (2 ^ 64) ≡ v = omega (arith, small, n.says) in
    let number : number_in radix digits ≡ Some v = number_from radix digits n.each ∙ ap (λ (m : ℕ). Some m) value in
    rw (number, n.many, le-leb d most le) refl

-- ---- decimals

decimal_shape : (bytes : List ℕ) → is_decimal bytes ≡ true → (0 < length bytes) × (get_or bytes 0 0 ≡ 48 → length bytes ≡ 1)
unfolding is_decimal
decimal_shape [] h = absurd cc
decimal_shape (b ∷ bs) h =
    elim (chosen (b == 48) (is_nothing bs) (nat_le 49 b && nat_le b 57 && are_digits (b ∷ bs)) true h) [
      | inl e ↦ (omega arith, λ _. omega (arith, ap length (nothing bs e.1)))
      | inr e ↦ (omega arith, λ is. absurd (eqb-false b 48 e.0 is))
    ]

decimal_parts : (bytes : List ℕ) (n : ℕ) → decimal_number bytes ≡ Some n → (is_decimal bytes ≡ true) × (number_in 10 bytes ≡ Some n)
unfolding decimal_number
decimal_parts bytes n e =
    elim (chosen (is_decimal bytes) (number_in 10 bytes) None (Some n) e) [
      | inl h ↦ h
      | inr h ↦ absurd cc
    ]

below_all : (bytes : List ℕ) → AllDigits 10 bytes → are_digits_of 10 bytes ≡ true
below_all [] h = refl
below_all (b ∷ bs) h = and_from _ _ (lt-ltb (digit_value b) 10 h.0) (below_all bs h.1)

decimal_takes : (bytes : List ℕ) (n : ℕ) → decimal_number bytes ≡ Some n → n < 2 ^ 64 → bytes ≡ decimal n
decimal_takes bytes n e lt =
    let parts = decimal_parts bytes n e in
    let number = number_parts 10 bytes n parts.1 in
    let shape = decimal_shape bytes parts.0 in
    let value : digits_value 10 bytes ≡ n = omega (arith, number.1, lt) in
    rw (← value) (sym (decimal-digits_value (numerals_by_value (AllDigits 10) tells_digits) bytes (all_digits 10 bytes number.0) shape.0 shape.1 (omega (arith, value, lt))))

is_decimal-decimal : (n : ℕ) → n < 2 ^ 64 → is_decimal (decimal n) ≡ true
unfolding number_of
is_decimal-decimal n lt =
    elim (chosen (is_decimal (decimal n)) (Some (capped_value (decimal n))) None (Some n) (number_of-decimal n lt)) [
      | inl h ↦ h.0
      | inr h ↦ absurd cc
    ]

decimal-again : (n : ℕ) → n < 2 ^ 64 → decimal_number (decimal n) ≡ Some n
unfolding decimal_number
decimal-again n lt =
    let numeral = decimal_is_IsNumeral n lt in
    let value : min (digits_value 10 (decimal n)) (2 ^ 64) ≡ n = omega (arith, numeral.1, lt) in
    rw (is_decimal-decimal n lt) (number_from 10 (decimal n) (below_all (decimal n) numeral.0.1) ∙ ap (λ (m : ℕ). Some m) value)

-- ---- with a sign

negated_parts : (o : Option ℕ) (v : ℤ) → negated o ≡ Some v → (n : ℕ) × (o ≡ Some (suc n)) × (negsuc n ≡ v)
negated_parts None v e = absurd cc
negated_parts (Some zero) v e = absurd cc
negated_parts (Some (suc n)) v e =
    let other : (suc n == 0) ≡ false = ne_eqb (suc n) 0 (λ h. omega (arith, h)) in
    (n, refl, some_is (negsuc n) v (rw other at e))

unsigned_parts : (o : Option ℕ) (v : ℤ) → unsigned o ≡ Some v → (n : ℕ) × (o ≡ Some n) × (pos n ≡ v)
unsigned_parts None v e = absurd cc
unsigned_parts (Some n) v e = (n, refl, some_is (pos n) v e)

signed_takes : (token : List ℕ) (v : ℤ) → signed_number token ≡ Some v → SignedFits v → token ≡ signed_decimal v
unfolding signed_number
signed_takes [] v e = absurd cc
signed_takes (b ∷ bs) v e =
    elim (chosen (b == 45) (negated (decimal_number bs)) (unsigned (decimal_number (b ∷ bs))) (Some v) e) [
      | inl h ↦
          let n = negated_parts (decimal_number bs) v h.1 in
          subst (λ (z : ℤ). SignedFits z → b ∷ bs ≡ signed_decimal z) {x = negsuc n.0} n.2 (λ lt. rw (eqb-true b 45 h.0) (ap (λ (l : List ℕ). 45 ∷ l) (decimal_takes bs (suc n.0) n.1 lt)))
      | inr h ↦
          let n = unsigned_parts (decimal_number (b ∷ bs)) v h.1 in
          subst (λ (z : ℤ). SignedFits z → b ∷ bs ≡ signed_decimal z) {x = pos n.0} n.2 (λ lt. decimal_takes (b ∷ bs) n.0 n.1 lt)
    ]

no_minus : (b : ℕ) (bs : List ℕ) → are_digits_of 10 (b ∷ bs) ≡ true → b ≡ 45 → ⊥
no_minus b bs h is = absurd (omega (arith, (all_digits 10 (45 ∷ bs) (rw is at h)).0))

positive_again : (token : List ℕ) (n : ℕ) → decimal_number token ≡ Some n → signed_number token ≡ Some (pos n)
unfolding signed_number
positive_again [] n e = absurd (omega (arith, (decimal_shape [] (decimal_parts [] n e).0).0))
positive_again (b ∷ bs) n e =
    let digits = (number_parts 10 (b ∷ bs) n (decimal_parts (b ∷ bs) n e).1).0 in
    rw (ne_eqb b 45 (no_minus b bs digits)) (ap unsigned e)

signed-again : (v : ℤ) → SignedFits v → signed_number (signed_decimal v) ≡ Some v
unfolding signed_number
signed-again (pos n) lt = positive_again (decimal n) n (decimal-again n lt)
signed-again (negsuc n) lt = rw (decimal-again (suc n) lt, ne_eqb (suc n) 0 (λ h. omega (arith, h))) refl

pub signed_at_takes : (tokens : Tokens) (x : ℤ × Tokens) → signed_at tokens ≡ Ok x → SignedFits x.0 → tokens ≡ signed_decimal x.0 ∷ x.1
unfolding signed_at
signed_at_takes [] x e = absurd cc
signed_at_takes (token ∷ rest) x e =
    let b = bind_ok (some_of (signed_number token)) (λ v. Ok (v, rest)) x e in
    subst (λ (p : ℤ × Tokens). SignedFits p.0 → token ∷ rest ≡ signed_decimal p.0 ∷ p.1) {x = (b.0, rest)} (ok_is (b.0, rest) x b.2)
    (λ fits. ap (λ (t : List ℕ). t ∷ rest) (signed_takes token b.0 (some_read (signed_number token) b.0 b.1) fits))

pub signed_at-again : (v : ℤ) (rest : Tokens) → SignedFits v → signed_at (signed_decimal v ∷ rest) ≡ Ok (v, rest)
unfolding signed_at
signed_at-again v rest fits = rw (signed-again v fits) refl
