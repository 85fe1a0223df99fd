-- The digits of a word, put one in front of the other.
use Rattle.std.proofs.Common.{◌≡◌, ℕ, ◌+◌, ◌<◌, ◌==◌, Bool, false, List, [], ◌∷◌, ◌++◌, map, reverse, take, get_or, sym, ap, ◌∙◌, arith}
use Rattle.std.proofs.lemmas.List.{reverse-append, take_all}
use Rattle.std.proofs.lemmas.Option.{get_or_from_slice_get}
use Rattle.std.proofs.lemmas.Grind.{take_at_read}
use Rattle.base.specs.Word.{bit, bits}
use Rattle.base.proofs.BitLemmas.{bits_at, length-bits}
use Rattle.witness.specs.Texts.{digit, binary}

-- one bit more
pub digits_more : (width word place : ℕ) (old line : List ℕ) → place < width → line ≡ map digit (reverse (take place (bits width word))) ++ old
    → digit (bit word place == 1) ∷ line ≡ map digit (reverse (take (place + 1) (bits width word))) ++ old
digits_more width word place old line lt is =
    let bs : List Bool = bits width word in
    let at : get_or bs place false ≡ (bit word place == 1) = get_or_from_slice_get bs place (bit word place == 1) false (bits_at width word place lt) in
    let more : map digit (reverse (take (place + 1) bs)) ≡ digit (bit word place == 1) ∷ map digit (reverse (take place bs)) =
    ap (λ (l : List Bool). map digit (reverse l)) ((take_at_read bs place false (omega (arith, lt, length-bits width word))).1 ∙ ap (λ (x : Bool). take place bs ++ x ∷ []) at)
    ∙ ap (map digit) (reverse-append (take place bs) ((bit word place == 1) ∷ [])) in
    ap (λ (l : List ℕ). digit (bit word place == 1) ∷ l) is ∙ sym (ap (λ (l : List ℕ). l ++ old) more)

-- all bits
pub all_digits : (width word place : ℕ) → place ≡ width → map digit (reverse (take place (bits width word))) ≡ binary width word
all_digits width word place all = ap (λ (l : List Bool). map digit (reverse l)) (take_all place (bits width word) (omega (arith, all, length-bits width word)))
