-- Lines that are their words already.
use Rattle.std.proofs.Common.{◌≡◌, ℕ, ◌<◌, ◌==◌, Bool, true, false, List, [], ◌∷◌, ◌++◌, length, map, decimal, refl, ap, ◌∙◌, ◌^◌, arith, append-nil}
use Rattle.std.specs.List.{list_any, list_all}
use Rattle.std.proofs.lemmas.Bool.{or_parts, or_from, and_parts, ne_eqb}
use Rattle.std.proofs.lemmas.Fmt.{decimal_nonempty}
use Rattle.base.specs.Decimals.{is_nothing, is_digit, are_digits}
use Rattle.base.proofs.DecimalLemmas.{digit_range, decimal_digits}
use Rattle.tidy.specs.Words.{is_gap, word_pieces, words, joined, plain}
use Rattle.tidy.specs.Tidied.{zero_x}

-- no byte is a blank
abbrev pub HasNoBlank : List ℕ → Type 0
HasNoBlank v = list_any is_gap v ≡ false

-- some bytes without a blank
pub record IsWord (v : List ℕ) : Type 0 where
  pub none : HasNoBlank v
  pub some : is_nothing v ≡ false

pieces_word : (v : List ℕ) → HasNoBlank v → word_pieces v ≡ v ∷ []
pieces_word [] h = refl
pieces_word (b ∷ bs) h = let parts = or_parts (is_gap b) _ h in rw (parts.0, pieces_word bs parts.1) refl

pieces_cut : (v rest : List ℕ) → HasNoBlank v → word_pieces (v ++ 32 ∷ rest) ≡ v ∷ word_pieces rest
pieces_cut [] rest h = refl
pieces_cut (b ∷ bs) rest h = let parts = or_parts (is_gap b) _ h in rw (parts.0, pieces_cut bs rest parts.1) refl

pub words_word : (v : List ℕ) → IsWord v → words v ≡ v ∷ []
words_word v is = rw (pieces_word v is.none, is.some) refl

pub words_cut : (v rest : List ℕ) → IsWord v → words (v ++ 32 ∷ rest) ≡ v ∷ words rest
words_cut v rest is = rw (pieces_cut v rest is.none, is.some) refl

-- a line of one word, or of none
pub plain_word : (v : List ℕ) → HasNoBlank v → plain v ≡ v
plain_word [] h = refl
plain_word (b ∷ bs) h = ap joined (words_word (b ∷ bs) (record { none = h; some = refl })) ∙ append-nil (b ∷ bs)

-- ---- words of digits

blank_not : (b : ℕ) → 32 < b → is_gap b ≡ false
blank_not b h = or_from (b == 32) _ (ne_eqb b 32 (λ e. omega arith)) (or_from (b == 9) (b == 13) (ne_eqb b 9 (λ e. omega arith)) (ne_eqb b 13 (λ e. omega arith)))

pub none_blank : (p : ℕ → Bool) (v : List ℕ) → ((b : ℕ) → p b ≡ true → 32 < b) → list_all p v ≡ true → HasNoBlank v
none_blank p [] h all = refl
none_blank p (b ∷ bs) h all =
    let parts = and_parts (p b) _ all in
    or_from (is_gap b) _ (blank_not b (h b parts.0)) (none_blank p bs h parts.1)

digit_above : (b : ℕ) → is_digit b ≡ true → 32 < b
digit_above b is = let range = digit_range b is in omega arith

pub digits_no_blank : (v : List ℕ) → are_digits v ≡ true → HasNoBlank v
digits_no_blank v all = none_blank is_digit v digit_above all

pub some_bytes : (v : List ℕ) → 0 < length v → is_nothing v ≡ false
some_bytes [] h = absurd (omega arith)
some_bytes (b ∷ bs) h = refl

pub decimal_word : (n : ℕ) → n < 2 ^ 64 → IsWord (decimal n)
decimal_word n lt = record { none = digits_no_blank (decimal n) (decimal_digits n lt); some = some_bytes (decimal n) (decimal_nonempty n lt) }

-- a decimal behind a byte that is no blank
pub marked_word : (b n : ℕ) → 32 < b → n < 2 ^ 64 → IsWord (b ∷ decimal n)
marked_word b n above lt = record { none = or_from (is_gap b) _ (blank_not b above) (decimal_word n lt).none; some = refl }

-- no digit is `x`
pub zero_digits : (v : List ℕ) → are_digits v ≡ true → map zero_x v ≡ v
zero_digits [] all = refl
zero_digits (b ∷ bs) all =
    let parts = and_parts (is_digit b) _ all in
    let other : (b == 120) ≡ false = ne_eqb b 120 (λ e. let range = digit_range b parts.0 in omega arith) in
    rw other (ap (λ (l : List ℕ). b ∷ l) (zero_digits bs parts.1))
