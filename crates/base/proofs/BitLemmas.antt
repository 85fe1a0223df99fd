-- Laws of words and their bits.
use Rattle.std.proofs.Common.{◌≡◌, ℕ, zero, suc, ◌+◌, ◌-◌, ◌*◌, ◌/◌, ◌%◌, ◌^◌, ◌<◌, Bool, true, false, not, ◌&&◌, ◌==◌, bit_and, List, [], ◌∷◌, length, map, slice_get, Some, refl, sym, ap, ap₂, subst, ◌∙◌, arith, lit<}
use Rattle.std.proofs.Math.Nat.{pow-suc}
use Rattle.std.proofs.lemmas.Nat.{and_block}
use Rattle.std.proofs.lemmas.Nat.Bits.{bit_at-suc}
use Rattle.std.proofs.lemmas.Bool.Decides.{nat_tests}
use Rattle.base.specs.Word.{bit, bit_number, word, bits, both}

-- one place more doubles the number of words
pub two_more : (n : ℕ) → 2 ^ suc n ≡ 2 * 2 ^ n
two_more n = omega (arith, pow-suc 2 n)

-- half of a word is below half of the bound
half_below : (n x : ℕ) → x < 2 ^ suc n → x / 2 < 2 ^ n
half_below n x h = omega (arith, two_more n)

-- the number of a bit is at most one
pub bit_number_small : (b : Bool) → bit_number b < 2
bit_number_small true = lit< tt
bit_number_small false = lit< tt

-- a word's lowest bit, tested and read again
bit_number-test : (x : ℕ) → bit_number (x % 2 == 1) ≡ x % 2
bit_number-test x = grind (arith, nat_tests)

-- a bit, read and tested again
test-bit_number : (b : Bool) (w : ℕ) → ((bit_number b + 2 * w) % 2 == 1) ≡ b
test-bit_number true w = grind (arith, nat_tests)
test-bit_number false w = grind (arith, nat_tests)

-- the word above the lowest bit
half-word : (b : Bool) (w : ℕ) → (bit_number b + 2 * w) / 2 ≡ w
half-word true w = omega arith
half-word false w = omega arith

-- a word of n bits has n bits
pub length-bits : (n x : ℕ) → length (bits n x) ≡ n
length-bits zero x = refl
length-bits (suc n) x = ap suc (length-bits n (x / 2))

-- a list of n bits reads as a word of width n
pub word_below : (bs : List Bool) → word bs < 2 ^ length bs
word_below [] = lit< tt
word_below (b ∷ bs) = omega (arith, two_more (length bs), word_below bs, bit_number_small b)

-- a word's bits read as the word
pub word-bits : (n x : ℕ) → x < 2 ^ n → word (bits n x) ≡ x
word-bits zero x h = omega arith
word-bits (suc n) x h = omega (arith, bit_number-test x, word-bits n (x / 2) (half_below n x h))

-- the bits of the word that a list reads as are the list
pub bits-word : (bs : List Bool) → bits (length bs) (word bs) ≡ bs
bits-word [] = refl
bits-word (b ∷ bs) = ap₂ ◌∷◌ (test-bit_number b (word bs)) (ap (bits (length bs)) (half-word b (word bs)) ∙ bits-word bs)

-- the same, with a name for the length
pub bits-word_of_length : (n : ℕ) (bs : List Bool) → length bs ≡ n → bits n (word bs) ≡ bs
bits-word_of_length n bs h = subst (λ (m : ℕ). bits m (word bs) ≡ bs) h (bits-word bs)

-- the bit at a place
pub bits_at : (n x i : ℕ) → i < n → slice_get (bits n x) i ≡ Some (bit x i == 1)
bits_at zero x i h = absurd (omega arith)
bits_at (suc n) x zero h = ap (λ (k : ℕ). Some (k % 2 == 1)) (omega arith)
bits_at (suc n) x (suc i) h = bits_at n (x / 2) i (omega arith) ∙ ap (λ (k : ℕ). Some (k == 1)) (sym (bit_at-suc x i))

-- every bit negated is the word taken from the word of all ones
pub word-map_not : (bs : List Bool) → word (map not bs) ≡ 2 ^ length bs - 1 - word bs
word-map_not [] = refl
word-map_not (true ∷ bs) = omega (arith, two_more (length bs), word_below bs, word-map_not bs)
word-map_not (false ∷ bs) = omega (arith, two_more (length bs), word_below bs, word-map_not bs)

-- the lowest bits of two words, bit by bit
bit_number-and : (x y : Bool) → bit_number (x && y) ≡ bit_and (bit_number x) (bit_number y)
bit_number-and true true = refl
bit_number-and true false = refl
bit_number-and false true = refl
bit_number-and false false = refl

-- one bit more at the low end of two words
both_more : (x y : Bool) (v w both_words : ℕ) → both_words ≡ bit_and v w
    → bit_number (x && y) + 2 * both_words ≡ bit_and (bit_number x + 2 * v) (bit_number y + 2 * w)
both_more x y v w both_words e =
    let block = and_block 1 v w (bit_number x) (bit_number y) (bit_number_small x) (bit_number_small y) in
    let flipped : (b n : ℕ) → b + 2 * n ≡ n * 2 + b = λ b n. omega arith in
    flipped (bit_number (x && y)) both_words ∙ ap₂ (λ (n b : ℕ). n * 2 + b) e (bit_number-and x y) ∙ sym block
    ∙ sym (ap₂ bit_and (flipped (bit_number x) v) (flipped (bit_number y) w))

-- the bits of two lists, bit by bit, read as the words, bit by bit
pub word-both : (xs ys : List Bool) → length xs ≡ length ys → word (both xs ys) ≡ bit_and (word xs) (word ys)
word-both [] ys h = refl
word-both (x ∷ xs) [] h = absurd (omega arith)
word-both (x ∷ xs) (y ∷ ys) h =
    both_more x y (word xs) (word ys) (word (both xs ys)) (word-both xs ys (omega arith))
