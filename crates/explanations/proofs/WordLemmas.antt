-- The words of a text come off its front, one after the other.
use Rattle.std.proofs.Common.{◌≡◌, ◌⊎◌, inl, inr, ℕ, ◌+◌, ◌<◌, ◌≤◌, Bool, true, false, ◌&&◌, List, [], ◌∷◌, ◌++◌, length, get_or, Option, Some, None, refl, ◌∙◌, ap, arith}
use Rattle.std.specs.Char.{is_ascii_whitespace}
use Rattle.std.specs.List.{AllPass, list_all}
use Rattle.std.specs.Str.{NoCharPasses}
use Rattle.std.specs.Borrow.{Bor}
use Rattle.std.specs.Str.Iter.{CutsAsciiWord, IsAsciiSeparator}
use Rattle.std.proofs.lemmas.Bool.{cases_lt}
use Rattle.std.proofs.lemmas.Bool.Decides.{nat_tests}
use Rattle.std.proofs.lemmas.Grind.{common_steps}
use Rattle.std.proofs.lemmas.List.Sums.{list_all-from_AllPass}
use Rattle.std.proofs.lemmas.Str.{NoCharPasses-byte}
use Rattle.base.specs.Lines.{onto_first}
use Rattle.explanations.specs.Explanations.{ends_word, words_in}

both : (p q : Bool) → (p && q) ≡ true → (p ≡ true) × (q ≡ true)
both true q is = (refl, is)
both false q is = absurd cc

-- white space is passed over
behind_gap : (gap bs : List ℕ) → list_all is_ascii_whitespace gap ≡ true → words_in (gap ++ bs) ≡ words_in bs
behind_gap [] bs all = refl
behind_gap (b ∷ gap) bs all =
    let t = both (is_ascii_whitespace b) (list_all is_ascii_whitespace gap) all in
    rw (t.0) (behind_gap gap bs t.1)

-- no byte of a list is white space
abbrev IsSolid : List ℕ → Type 0
IsSolid x = (i : ℕ) → i < length x → is_ascii_whitespace (get_or x i 0) ≡ false

high : (b : ℕ) → 128 ≤ b → is_ascii_whitespace b ≡ false
high b least = grind (arith, nat_tests)

solid_byte : (x : List ℕ) (i : ℕ) → NoCharPasses is_ascii_whitespace x → i < length x → (get_or x i 0 < 128) ⊎ (128 ≤ get_or x i 0) → is_ascii_whitespace (get_or x i 0) ≡ false
solid_byte x i none within (inl low) = NoCharPasses-byte is_ascii_whitespace x i none within low
solid_byte x i none within (inr least) = high (get_or x i 0) least

split : (b : ℕ) → (b < 128) ⊎ (128 ≤ b)
split b = cases_lt b 128

solid : (x : List ℕ) → NoCharPasses is_ascii_whitespace x → IsSolid x
solid x none = λ i within. solid_byte x i none within (split (get_or x i 0))

solid_behind : (b : ℕ) (x : List ℕ) → IsSolid (b ∷ x) → IsSolid x
solid_behind b x h i within = let k = h (i + 1) (grind (arith, common_steps)) in grind (arith, common_steps)

-- what has no white space is a word where it ends
whole_word : (x rest : List ℕ) → 0 < length x → IsSolid x → ends_word rest ≡ true → words_in (x ++ rest) ≡ x ∷ words_in rest
whole_word [] rest some h ends = absurd (omega (arith, some))
whole_word (b ∷ []) rest some h ends =
    let black : is_ascii_whitespace b ≡ false = h 0 (grind (arith, common_steps)) in
    rw (black, ends) refl
whole_word (b ∷ c ∷ x) rest some h ends =
    let black : is_ascii_whitespace b ≡ false = h 0 (grind (arith, common_steps)) in
    let next : is_ascii_whitespace c ≡ false = h 1 (grind (arith, common_steps)) in
    let later : words_in ((c ∷ x) ++ rest) ≡ (c ∷ x) ∷ words_in rest = whole_word (c ∷ x) rest (grind (arith, common_steps)) (solid_behind b (c ∷ x) h) ends in
    rw (black, next) (ap (onto_first b) (rw next at later))

-- a word ends before what parts it from the rest
ends_before : (sep rest : List ℕ) → IsAsciiSeparator sep rest → list_all is_ascii_whitespace sep ≡ true → ends_word (sep ++ rest) ≡ true
ends_before [] [] s all = refl
ends_before [] (b ∷ rest) s all = let none = s.2 refl in absurd (grind (arith, common_steps))
ends_before (b ∷ sep) rest s all = (both (is_ascii_whitespace b) (list_all is_ascii_whitespace sep) all).0

by_list : (bs : List ℕ) → list_all is_ascii_whitespace bs ≡ true → words_in bs ≡ []
by_list [] all = refl
by_list (b ∷ bs) all =
    let t = both (is_ascii_whitespace b) (list_all is_ascii_whitespace bs) all in
    rw (t.0) (by_list bs t.1)

-- a text of white space has no word
pub no_word : (bs : List ℕ) → AllPass is_ascii_whitespace bs → words_in bs ≡ []
no_word bs all = by_list bs (list_all-from_AllPass is_ascii_whitespace bs all)

-- a word with white space before it, and with what parts it from the rest, is the first
pub first_word : (gap x sep rest : List ℕ) → 0 < length x → NoCharPasses is_ascii_whitespace x → AllPass is_ascii_whitespace gap → IsAsciiSeparator sep rest → words_in (gap ++ (x ++ (sep ++ rest))) ≡ x ∷ words_in rest
first_word gap x sep rest some none before parted =
    let parts = list_all-from_AllPass is_ascii_whitespace sep parted.0 in
    behind_gap gap (x ++ (sep ++ rest)) (list_all-from_AllPass is_ascii_whitespace gap before)
    ∙ (whole_word x (sep ++ rest) some (solid x none) (ends_before sep rest parted parts) ∙ ap (λ l. x ∷ l) (behind_gap sep rest parts))

-- so at a step of the iterator: a word comes off, or none is left
pub next_word : (bs rest : List ℕ) (word : Bor (List ℕ)) → CutsAsciiWord bs (Some word) rest (λ gap x sep. gap ++ (x ++ (sep ++ rest))) → words_in bs ≡ word.now ∷ words_in rest
next_word bs rest word cut =
    let parts = cut.3 in
    rw (parts.2) (first_word parts.0 word.now parts.1 rest cut.0 cut.1 parts.3 parts.4)

pub no_more : (bs rest : List ℕ) (r : Option (Bor (List ℕ))) → r ≡ None → CutsAsciiWord bs r rest (λ gap x sep. gap ++ (x ++ (sep ++ rest))) → words_in bs ≡ []
no_more bs rest None is cut = no_word bs cut.0
no_more bs rest (Some word) is cut = absurd cc
