-- The address of a cell, by its digits.
use Rattle.std.proofs.Common.{◌≡◌, ℕ, ◌+◌, ◌*◌, ◌<◌, ◌≤◌, ◌^◌, ◌==◌, ◌&&◌, Bool, true, false, cond, List, [], ◌∷◌, ◌++◌, Option, Some, None, MatchOption, length, map, reverse, take, get_or, option_and_then, refl, sym, ap, subst, ◌∙◌, arith}
use Rattle.std.specs.List.{list_all}
use Rattle.std.proofs.Math.Pow.{pow_mono}
use Rattle.std.proofs.lemmas.Bool.{eq-eqb, ne_eqb}
use Rattle.std.proofs.lemmas.List.{length-take, reverse-append, reverse-reverse, take_more}
use Rattle.witness.specs.Admits.{is_bit, is_one_bit}
use Rattle.witness.specs.WordValues.{IsValueOf}
use Rattle.base.specs.Word.{word, bit_number}
use Rattle.witness.proofs.WordValueLemmas.{known_more}
use Rattle.fulljudge.specs.Lines.{without_last, in_brackets, digits_number, address_of}

-- digits so far are fewer than a number has bits
pub digits_small : (x : ℕ) (digits : List ℕ) (i : ℕ) → IsValueOf x (take i digits) → i < length digits → length digits ≤ 64 → x < 2 ^ 63
digits_small x digits i h less few =
    let short : length (take i digits) ≤ 63 = omega (arith, length-take i digits) in
    let most : 2 ^ length (take i digits) ≤ 2 ^ 63 = pow_mono {i = length (take i digits)} {j = 63} short in
    omega (arith, h.small, most)

-- a digit more
pub digit_more : (x bit : ℕ) (digits : List ℕ) (i : ℕ) → IsValueOf x (take i digits) → i < length digits → bit ≡ bit_number (is_one_bit (get_or digits i 0)) → is_bit (get_or digits i 0) ≡ true
    → IsValueOf (x * 2 + bit) (take (i + 1) digits)
digit_more x bit digits i h less is known = subst (IsValueOf (x * 2 + bit)) (sym (take_more digits i 0 less)) (known_more x bit (take i digits) (get_or digits i 0) is known h)

-- the last byte is one before which others stand, or none
pub last_of : (bytes front : List ℕ) (last : ℕ) → bytes ≡ front ++ last ∷ [] → without_last (reverse bytes) ≡ cond (last == 93) (Some front) None
last_of bytes front last is =
    ap (λ (l : List ℕ). without_last (reverse l)) is ∙ ap without_last (reverse-append front (last ∷ [])) ∙ ap (λ (l : List ℕ). cond (last == 93) (Some l) None) (reverse-reverse front)

-- digits of another number than an index has bits are no address
pub other_length : (k : ℕ) (token digits : List ℕ) → in_brackets token ≡ Some digits → (length digits ≡ k → ⊥) → address_of k token ≡ None
other_length k token digits is other = ap (option_and_then (digits_number k)) is ∙ ap (λ (b : Bool). cond (b && list_all is_bit digits) (Some (word (reverse (map (λ c. c == 49) digits)))) None) (ne_eqb (length digits) k other)

-- of as many digits the address is what they write
pub address_is : (k : ℕ) (token digits : List ℕ) (o : Option ℕ) → in_brackets token ≡ Some digits → length digits ≡ k → MatchOption o (list_all is_bit digits ≡ false) (λ x. IsValueOf x digits) → o ≡ address_of k token
address_is k token digits o is long h = by o h ∙ sym (ap (option_and_then (digits_number k)) is)
  where
    same : (length digits == k) ≡ true
    same = eq-eqb (length digits) k long

    by : (o : Option ℕ) → MatchOption o (list_all is_bit digits ≡ false) (λ x. IsValueOf x digits) → o ≡ digits_number k digits
    by None h = rw (same, h) refl
    by (Some x) h = let known = h.known in let word = h.word in rw (same, known) (ap Some word)
