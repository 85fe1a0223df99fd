-- A number at the front of a line, in digits up to a blank or the line's end.
use Rattle.std.proofs.Common.{◌≡◌, ℕ, zero, suc, ◌+◌, ◌*◌, ◌%◌, ◌^◌, ◌<◌, ◌≤◌, true, false, List, [], ◌∷◌, length, get_or, take, drop, Some, Ok, refl, sym, ap, subst, ◌∙◌, arith}
use Rattle.std.specs.List.{list_any}
use Rattle.std.proofs.lemmas.Bool.{and_parts, and_from, or_from, ne_eqb, le-leb}
use Rattle.std.proofs.lemmas.List.{length-take, take_all}
use Rattle.std.specs.Char.{digit_value}
use Rattle.std.specs.Str.Parse.{digits_value}
use Rattle.std.proofs.lemmas.Int.Digits.{digits_value_more}
use Rattle.std.proofs.lemmas.Str.{digit_value_digit}
use Rattle.std.proofs.lemmas.Str.Parse.{IsDigitsTest, digits_value_short, numerals_by_value}
use Rattle.base.specs.Decimals.{are_digits, begins_decimal, capped_value, number_of}
use Rattle.base.proofs.DecimalLemmas.{digit_range, digits_more, digits_all, begun}
use Rattle.btor2text.specs.Tokens.{is_blank, tokens, begins_token}
use Rattle.btor2text.specs.Reading.{Tokens, plain_number, plain_at}
use Rattle.btor2text.proofs.TokenLemmas.{tokens-to_blank, tokens-whole}

-- the first so many bytes of a line, one at least, are digits that write this number, modulo 2 ^ 32
pub record IsRead (line : List ℕ) (count value : ℕ) : Type 0 where
  pub some : 0 < count
  pub digits : are_digits (take count line) ≡ true
  pub writes : value ≡ digits_value 10 (take count line) % 2 ^ 32

-- a byte is a digit from 0 to 9
abbrev pub IsDigit : ℕ → Type 0
IsDigit b = (48 ≤ b) × (b ≤ 57)

-- ---- the digits that are read

-- a number with a digit more, modulo 2 ^ 32
value_more : (before digit byte value : ℕ) → value ≡ before % 2 ^ 32 → digit + 48 ≡ byte → byte ≤ 57
    → (value * 10 % 4294967296 + (byte + 4294967248) % 4294967296) % 4294967296 ≡ (before * 10 + digit) % 2 ^ 32
value_more before digit byte value is same most = omega (arith, is, same, most)

pub read_more : (line : List ℕ) (at value byte : ℕ) → IsRead line at value → at < length line → byte ≡ get_or line at 0 → byte < 256 → (byte + 4294967248) % 4294967296 ≤ 9
    → IsRead line (at + 1) ((value * 10 % 4294967296 + (byte + 4294967248) % 4294967296) % 4294967296)
read_more line at value byte read lt is small test =
    let digit : IsDigit (get_or line at 0) = (omega (arith, is, small, test), omega (arith, is, small, test)) in
    let same = digit_value_digit (get_or line at 0) digit in
    record {
      some = omega arith;
      digits = digits_more line at lt digit read.digits;
      writes = rw (digits_value_more 10 line at lt) (value_more (digits_value 10 (take at line)) (digit_value (get_or line at 0)) byte value read.writes (same ∙ sym is) (omega (arith, is, digit.1)));
    }

-- the test for digits is one of std's
digits_test : IsDigitsTest (λ ds. are_digits ds ≡ true)
digits_test = record {
  empty = refl;
  parts = λ b bs h. let p = and_parts _ _ h in (digit_range b p.0, p.1);
  more = λ b bs range h. and_from _ _ (and_from _ _ (le-leb _ _ range.0) (le-leb _ _ range.1)) h;
}

-- up to 9 digits write a number below 2 ^ 32
few_digits : (digits : List ℕ) (value : ℕ) → are_digits digits ≡ true → length digits ≤ 9 → value ≡ digits_value 10 digits % 2 ^ 32 → capped_value digits ≡ value
unfolding capped_value
few_digits digits value are few is =
    let small : digits_value 10 digits < 10 ^ 9 = digits_value_short (numerals_by_value (λ ds. are_digits ds ≡ true) digits_test) digits 9 are few in
    omega (arith, small, is)

-- ---- the token that they are

digit_is_no_blank : (b : ℕ) → IsDigit b → is_blank b ≡ false
digit_is_no_blank b digit = or_from _ _ (ne_eqb b 32 (λ e. omega (arith, e, digit))) (ne_eqb b 9 (λ e. omega (arith, e, digit)))

digits_have_no_blank : (digits : List ℕ) → are_digits digits ≡ true → list_any is_blank digits ≡ false
digits_have_no_blank [] h = refl
digits_have_no_blank (b ∷ bs) h =
    let parts = and_parts _ _ h in
    or_from _ _ (digit_is_no_blank b (digit_range b parts.0)) (digits_have_no_blank bs parts.1)

-- a line whose first byte is a digit other than 0 begins a token, and its front begins a decimal
begins_a_token : (line : List ℕ) → 0 < length line → (49 ≤ get_or line 0 0) × (get_or line 0 0 ≤ 57) → begins_token line ≡ true
begins_a_token [] lt first = absurd (omega (arith, lt))
begins_a_token (b ∷ bs) lt first =
    let none = digit_is_no_blank b (omega (arith, first.0), first.1) in
    rw (none, ne_eqb b 59 (λ e. omega (arith, e, first.1))) refl

begins_a_decimal : (line : List ℕ) (at : ℕ) → 0 < length line → 49 ≤ get_or line 0 0 → 0 < at → begins_decimal (take at line) ≡ true
unfolding begins_decimal
begins_a_decimal [] at lt first some = absurd (omega (arith, lt))
begins_a_decimal (b ∷ bs) zero lt first some = absurd (omega (arith, some))
begins_a_decimal (b ∷ bs) (suc n) lt first some = rw (ne_eqb b 48 (λ e. omega (arith, e, first))) refl

plain_front : (token : List ℕ) (rest : Tokens) (n : ℕ) → number_of token ≡ Some n → plain_at (token ∷ rest) ≡ Ok (n, rest)
unfolding plain_at plain_number
plain_front token rest n is = rw is refl

-- the first byte of a line is a digit from 1 to 9, and these first bytes write this number
module _ (line : List ℕ) (at value : ℕ) (lt : 0 < length line) (first : (49 ≤ get_or line 0 0) × (get_or line 0 0 ≤ 57)) (read : IsRead line at value) (few : at ≤ 9) where
  front_number : number_of (take at line) ≡ Some value
  front_number =
      sym (begun (take at line) (begins_a_decimal line at lt first.0 read.some))
      ∙ (digits_all (take at line) read.digits ∙ ap (λ (v : ℕ). Some v) (few_digits (take at line) value read.digits (omega (arith, length-take at line, few)) read.writes))

  pub read_to_blank : at < length line → is_blank (get_or line at 0) ≡ true → plain_at (tokens line) ≡ Ok (value, tokens (drop (at + 1) line))
  read_to_blank inside blank =
      let token = tokens-to_blank line at inside (digits_have_no_blank (take at line) read.digits) blank (begins_a_token line lt first) in
      ap plain_at token ∙ plain_front (take at line) (tokens (drop (at + 1) line)) value front_number

  pub read_to_end : length line ≤ at → plain_at (tokens line) ≡ Ok (value, tokens (drop (length line) line))
  read_to_end le =
      let whole : take at line ≡ line = take_all at line le in
      let all : take (length line) line ≡ line = take_all (length line) line (omega arith) in
      let none = digits_have_no_blank line (subst (λ l. are_digits l ≡ true) whole read.digits) in
      let token = tokens-whole line none (begins_a_token line lt first) in
      let number : number_of (take (length line) line) ≡ Some value = ap number_of (all ∙ sym whole) ∙ front_number in
      ap plain_at token ∙ plain_front (take (length line) line) (tokens (drop (length line) line)) value number
