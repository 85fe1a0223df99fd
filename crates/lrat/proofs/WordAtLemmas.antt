-- Whole words of a text: a number is read digit by digit.
use Rattle.std.proofs.Common.{◌≡◌, ℕ, zero, suc, Bool, ◌+◌, ◌-◌, ◌*◌, ◌/◌, ◌%◌, ◌^◌, ◌<◌, ◌≤◌, ◌==◌, true, false, List, [], ◌∷◌, ◌++◌, length, take, drop, get_or, decimal, append_assoc, refl, sym, ap, subst, ◌∙◌, arith, length-append}
use Rattle.std.specs.Int.{from_bool}
use Rattle.std.specs.List.{list_any}
use Rattle.std.proofs.Math.Nat.{pow-suc, pow-le-pow_right}
use Rattle.std.proofs.lemmas.Bool.{or_parts, or_from, eqb-true}
use Rattle.std.proofs.lemmas.Fmt.{decimal_digit, decimal_step}
use Rattle.std.proofs.lemmas.List.{take_more, length-take}
use Rattle.base.specs.Decimals.{is_nothing, is_digit}
use Rattle.base.proofs.DecimalLemmas.{digit_range}
use Rattle.lrat.specs.declared.token.Token.TheVariants as code
use Rattle.drup.specs.Proofs.{is_proof_blank}
use Rattle.lrat.specs.declared.word_at.WordAt.{WordAt}
use Rattle.lrat.specs.Words.{signed}
use Rattle.lrat.specs.WordsAt.{parts_words, IsNumberAt, IsWordAt}
use Rattle.lrat.proofs.LratTextLemmas.{decimal_word, minus_word, token_decimal, token_minus}

-- ---- the digits of a number

-- the bytes from a place on up to another are the decimal of a number from 1 on
pub record IsReadTo (bytes : List ℕ) (at end value : ℕ) : Type 0 where
  pub is : take end bytes ≡ take at bytes ++ decimal value
  pub some : 0 < value
  pub small : value < 10 ^ (end - at)
  pub behind : at < end

-- a number with a digit more
with_digit : (v b : ℕ) → is_digit b ≡ true → 0 < v → v < 10 ^ 18 → decimal (v * 10 + (b - 48)) ≡ decimal v ++ b ∷ []
with_digit v b is some room =
    let digit = digit_range b is in
    let n : ℕ = v * 10 + (b - 48) in
    let front : n / 10 ≡ v = omega (arith, digit) in
    let last : 48 + n % 10 ≡ b = omega (arith, digit) in
    decimal_step n (omega (arith, some)) (omega (arith, digit, room)) ∙ ap (λ (m : ℕ). decimal m ++ (48 + n % 10) ∷ []) front ∙ ap (λ (c : ℕ). decimal v ++ c ∷ []) last

pub read_first : (bytes : List ℕ) (at b : ℕ) → at < length bytes → get_or bytes at 0 ≡ b → is_digit b ≡ true → 48 < b → IsReadTo bytes at (at + 1) (b - 48)
read_first bytes at b inside there digit some =
    let range = digit_range b digit in
    let back : 48 + (b - 48) ≡ b = omega (arith, range) in
    let one : at + 1 - at ≡ 1 = omega arith in
    record {
      is = take_more bytes at 0 inside ∙ ap (λ (x : ℕ). take at bytes ++ x ∷ []) (there ∙ sym back) ∙ ap (λ (ds : List ℕ). take at bytes ++ ds) (sym (decimal_digit (b - 48) (omega (arith, range))));
      some = omega (arith, some);
      small = rw one (omega (arith, range));
      behind = omega arith;
    }

-- of at most 18 digits there is room for one more
pub room : (bytes : List ℕ) (at end value : ℕ) → IsReadTo bytes at end value → end < at + 19 → value < 10 ^ 18
room bytes at end value read few =
    let power : 10 ^ (end - at) ≤ 10 ^ 18 = pow-le-pow_right {n = 10} (omega arith) {i = end - at} {j = 18} (omega (arith, few)) in
    omega (arith, power, read.small)

pub read_more : (bytes : List ℕ) (at end value : ℕ) → IsReadTo bytes at end value → end < length bytes → is_digit (get_or bytes end 0) ≡ true → end < at + 19 → IsReadTo bytes at (end + 1) (value * 10 + (get_or bytes end 0 - 48))
read_more bytes at end value read inside digit few =
    let b : ℕ = get_or bytes end 0 in
    let power : 10 ^ suc (end - at) ≡ 10 ^ (end - at) * 10 = pow-suc 10 (end - at) in
    let same : 10 ^ (end + 1 - at) ≡ 10 ^ suc (end - at) = ap (λ (n : ℕ). 10 ^ n) (omega (arith, read.behind)) in
    record {
      is = take_more bytes end 0 inside ∙ ap (λ (t : List ℕ). t ++ b ∷ []) read.is ∙ append_assoc (take at bytes) (decimal value) (b ∷ []) ∙ ap (λ (ds : List ℕ). take at bytes ++ ds) (sym (with_digit value b digit read.some (room bytes at end value read few)));
      some = omega (arith, read.some);
      small = omega (arith, power, same, read.small, digit_range b digit);
      behind = omega (arith, read.behind);
    }

-- ---- words

apart : (w : List ℕ) → list_any is_proof_blank w ≡ false → list_any (λ c. c == 10) w ≡ false → list_any parts_words w ≡ false
apart [] plain line = refl
apart (b ∷ bs) plain line =
    let p = or_parts (is_proof_blank b) (list_any is_proof_blank bs) plain in
    let l = or_parts (b == 10) (list_any (λ c. c == 10) bs) line in
    or_from (parts_words b) (list_any parts_words bs) (or_from (b == 10) (is_proof_blank b) l.0 p.0) (apart bs p.1 l.1)

-- a number
pub number_word : (bytes : List ℕ) (at value end : ℕ) → IsNumberAt bytes at value end → IsWordAt bytes at (record { token = code.Number value; end = end })
number_word bytes at value end n =
    let w = decimal_word value n.low in
    record {
      word = decimal value;
      is = n.is;
      some = w.some;
      of = record { said = sym (token_decimal value n.some n.low); whole = apart (decimal value) w.plain w.line };
      inside = n.inside;
      behind = n.behind;
    }

-- a number behind a minus
pub negative_word : (bytes : List ℕ) (at value end : ℕ) → at < length bytes → get_or bytes at 0 ≡ 45 → IsNumberAt bytes (at + 1) value end → IsWordAt bytes at (record { token = code.Negative value; end = end })
negative_word bytes at value end inside minus n =
    let w = minus_word (decimal value) (decimal_word value n.low) in
    record {
      word = 45 ∷ decimal value;
      is = n.is ∙ ap (λ (t : List ℕ). t ++ decimal value) (take_more bytes at 0 inside ∙ ap (λ (b : ℕ). take at bytes ++ b ∷ []) minus) ∙ append_assoc (take at bytes) (45 ∷ []) (decimal value);
      some = w.some;
      of = record { said = sym (token_minus value n.low); whole = apart (45 ∷ decimal value) w.plain w.line };
      inside = n.inside;
      behind = n.behind;
    }

-- a number behind a minus, or without
pub signed_word : (bytes : List ℕ) (at value end : ℕ) (negative : Bool) (start : ℕ) → at < length bytes → (get_or bytes at 0 == 45) ≡ negative → start ≡ at + from_bool negative → IsNumberAt bytes start value end → IsWordAt bytes at (record { token = signed negative value; end = end })
signed_word bytes at value end true start inside minus is n = negative_word bytes at value end inside (eqb-true (get_or bytes at 0) 45 minus) (subst (λ (k : ℕ). IsNumberAt bytes k value end) is n)
signed_word bytes at value end false start inside minus is n = number_word bytes at value end (subst (λ (k : ℕ). IsNumberAt bytes k value end) (omega (arith, is)) n)

some_long : (w : List ℕ) → is_nothing w ≡ false → 0 < length w
some_long [] some = absurd (cc)
some_long (x ∷ xs) some = omega arith

-- a word ends behind its place
pub word_order : (bytes : List ℕ) (at : ℕ) (w : WordAt) → at < length bytes → IsWordAt bytes at w → at < w.end
word_order bytes at w inside h =
    omega (arith, inside, h.inside, some_long h.word h.some, ap length h.is, length-append (take at bytes) h.word, length-take at bytes, length-take w.end bytes)

-- the first byte of a word is the one at its place
pub first_there : (bytes word : List ℕ) (at end : ℕ) → take end bytes ≡ take at bytes ++ word → is_nothing word ≡ false → at < length bytes → (rest : List ℕ) × (word ≡ get_or bytes at 0 ∷ rest)
first_there bytes [] at end is some inside = absurd (cc)
first_there [] (w ∷ ws) at end is some inside = absurd (omega (arith, inside))
first_there (b ∷ bs) (w ∷ ws) zero zero is some inside = absurd (cc)
first_there (b ∷ bs) (w ∷ ws) zero (suc end) is some inside = (ws, ap (λ (x : ℕ). x ∷ ws) (sym (ap (λ (l : List ℕ). get_or l 0 0) is)))
first_there (b ∷ bs) (w ∷ ws) (suc at) zero is some inside = absurd (cc)
first_there (b ∷ bs) (w ∷ ws) (suc at) (suc end) is some inside = first_there bs (w ∷ ws) at end (ap (drop 1) is) some (omega (arith, inside))
