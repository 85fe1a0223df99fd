-- Products of words, row by row.
use Rattle.std.proofs.Common.{◌≡◌, ℕ, zero, suc, ◌+◌, ◌-◌, ◌*◌, ◌%◌, ◌^◌, ◌<◌, ◌≤◌, Bool, true, false, ◌&&◌, List, [], ◌∷◌, ◌++◌, length, map, take, get_or, replicate, refl, sym, ap, ◌∙◌, arith}
use Rattle.std.proofs.Math.Nat.{pow-suc, mul_assoc, mod-add-mod, add-mod-mod, mod-eq_of_lt}
use Rattle.std.proofs.lemmas.Nat.{pow_pos, pow-add, mul-le, mul-mod_first, mod-mul-add}
use Rattle.std.proofs.lemmas.List.{length-take-le, take_all}
use Rattle.base.specs.Word.{word, bit_number}
use Rattle.base.specs.Literal.{Valuation, literal_value}
use Rattle.aiger.specs.Net.{Net}
use Rattle.gates.specs.Made.{MakesWord, word_value}
use Rattle.gates.specs.Sums.{literal_number}
use Rattle.gates.proofs.WordLemmas.{zip_with}
use Rattle.gates.proofs.BitListLemmas.{IsRow, MakesWord-row, MakesWord-same, MakesWord-weaker, MakesWord-of_word, word_value-below, word_value-more}
use Rattle.gates.proofs.WindowLemmas.{word_value-split}

-- each bit of a word and one bit: the word's product with that bit
word-masked : (c : Bool) (xs : List Bool) → word (zip_with (λ x y. x && c) xs xs) ≡ word xs * bit_number c
word-masked true [] = omega arith
word-masked false [] = omega arith
word-masked true (x ∷ xs) = omega (arith, kept x, word-masked true xs)
  where
    kept : (x : Bool) → bit_number (x && true) ≡ bit_number x
    kept true = refl
    kept false = refl
word-masked false (x ∷ xs) = omega (arith, cleared x, word-masked false xs)
  where
    cleared : (x : Bool) → bit_number (x && false) ≡ 0
    cleared true = refl
    cleared false = refl

-- a row of a word's literals and one literal, for all places
pub MakesWord-masked : (old new : Net) (i lit : ℕ) (a bits : List ℕ) → i ≡ length a → IsRow old new 1 i (λ v x y. x && literal_value v lit) a a bits
    → MakesWord old new (length a) (length a) (λ v. word_value v a * literal_number v lit) bits
MakesWord-masked old new i lit a bits all row =
    MakesWord-weaker old new (1 * length a) (length a) (length a) _ bits (omega arith)
    (MakesWord-row old new 1 (length a) i (λ v x y. x && literal_value v lit) (λ v. word_value v a * literal_number v lit) a a bits refl refl all
    (λ v. word-masked (literal_value v lit) (map (literal_value v) a))
    row)

-- constants false below the literals of a word
word_value-above : (v : Valuation) (k : ℕ) (ls : List ℕ) → word_value v (replicate k 0 ++ ls) ≡ word_value v ls * 2 ^ k
word_value-above v zero ls = omega arith
word_value-above v (suc k) ls = omega (arith, word_value-above v k ls, ap (λ p. word_value v ls * p) (pow-suc 2 k))

-- what is moved above the width is lost
low_moved : (d p q l m : ℕ) → p * q ≡ m → l < p → 1 ≤ q → (d * p + l) * q % m ≡ l * q
low_moved d p q l m parts below some =
    let room : (l + 1) * q ≤ p * q = mul-le (l + 1) q p q (omega arith) (omega arith) in
    let whole : (d * p + l) * q ≡ d * m + l * q = omega (arith, ap (λ k. d * k) parts) in
    ap (λ k. k % m) whole ∙ mod-mul-add d m (l * q) (omega arith)

-- a word moved up within its width
pub word_value-raised : (v : Valuation) (a : List ℕ) (n k : ℕ) → length a ≡ n → k ≤ n → word_value v (replicate k 0 ++ take (n - k) a) ≡ word_value v a * 2 ^ k % 2 ^ n
word_value-raised v a n k wide inside =
    let all : n - k + k ≡ n = omega arith in
    let parts : 2 ^ (n - k) * 2 ^ k ≡ 2 ^ n = sym (pow-add 2 (n - k) k) ∙ ap (λ m. 2 ^ m) all in
    let low = take (n - k) a in
    let below : word_value v low < 2 ^ (n - k) = word_value-below v low (n - k) (length-take-le (n - k) a (omega arith)) in
    word_value-above v k low
    ∙ sym (ap (λ w. w * 2 ^ k % 2 ^ n) (word_value-split v a (n - k) (omega arith)) ∙ low_moved _ (2 ^ (n - k)) (2 ^ k) (word_value v low) (2 ^ n) parts below (pow_pos k))

-- a product modulo p, before it is added
added_row : (s a k t p : ℕ) → (s + a * k % p * t) % p ≡ (s + a * (k * t)) % p
added_row s a k t p =
    sym (add-mod-mod s (a * k % p * t) p)
    ∙ ap (λ w. (s + w) % p) (mul-mod_first (a * k) t p)
    ∙ add-mod-mod s (a * k * t) p
    ∙ ap (λ w. (s + w) % p) (mul_assoc a k t)

-- a sum so far and the row of one bit
pub MakesWord-with_row : (old mid new : Net) (n place lit : ℕ) (sum a moved row added : List ℕ)
    → length sum ≡ n → length moved ≡ n → ((v : Valuation) → word_value v moved ≡ word_value v a * 2 ^ place % 2 ^ n)
    → MakesWord old mid (length moved) (length moved) (λ v. word_value v moved * literal_number v lit) row
    → MakesWord mid new (9 * length sum) (length sum) (λ v. (word_value v sum + word_value v row + literal_number v 0) % 2 ^ length sum) added
    → MakesWord old new (10 * n) n (λ v. (word_value v sum + word_value v a * (2 ^ place * literal_number v lit)) % 2 ^ n) added
MakesWord-with_row old mid new n place lit sum a moved row added wide moved_wide moved_is masked makes =
    let first : MakesWord old mid n n (λ v. word_value v moved * literal_number v lit) row = rw moved_wide at masked in
    let all = rw wide at makes in
    let second : MakesWord mid new (9 * n) n (λ v. (word_value v sum + word_value v row) % 2 ^ n) added =
    MakesWord-same mid new (9 * n) n _ _ added (λ v. ap (λ k. k % 2 ^ n) (omega arith)) all
    in
    let both = MakesWord-of_word old mid new n (9 * n) n n (λ v. word_value v moved * literal_number v lit) (λ v w. (word_value v sum + w) % 2 ^ n) row added first second in
    MakesWord-weaker old new (n + 9 * n) (10 * n) n _ added (omega arith)
    (MakesWord-same old new (n + 9 * n) n _ _ added
    (λ v. ap (λ w. (word_value v sum + w * literal_number v lit) % 2 ^ n) (moved_is v) ∙ added_row (word_value v sum) (word_value v a) (2 ^ place) (literal_number v lit) (2 ^ n))
    both)

-- the product with one bit is a word
product_of_bit : (a p : ℕ) (t : Bool) → a < p → a * bit_number t ≡ a * bit_number t % p
product_of_bit a p true below = sym (mod-eq_of_lt (omega arith))
product_of_bit a p false below = sym (mod-eq_of_lt (omega arith))

-- the first row is the product with the lowest bit
pub MakesWord-first_row : (old new : Net) (n lit : ℕ) (a b bits : List ℕ) → 1 ≤ n → length a ≡ n → length b ≡ n → lit ≡ get_or b 0 lit
    → MakesWord old new (length a) (length a) (λ v. word_value v a * literal_number v lit) bits
    → MakesWord old new (10 * (n * 1)) n (λ v. word_value v a * word_value v (take 1 b) % 2 ^ n) bits
MakesWord-first_row old new n lit a b bits some wide same is masked =
    let first : MakesWord old new n n (λ v. word_value v a * literal_number v lit) bits = rw wide at masked in
    let lowest : (v : Valuation) → word_value v (take 1 b) ≡ literal_number v lit = λ v. word_value-more v b 0 lit (omega arith) is ∙ omega arith in
    MakesWord-weaker old new n (10 * (n * 1)) n _ bits (omega arith)
    (MakesWord-same old new n n _ _ bits
    (λ v. product_of_bit (word_value v a) (2 ^ n) (literal_value v lit) (word_value-below v a n wide) ∙ ap (λ w. word_value v a * w % 2 ^ n) (sym (lowest v)))
    first)

-- a product so far and a row more
pub product_more : (a m k t p : ℕ) → (a * m % p + a * (k * t)) % p ≡ a * (m + k * t) % p
product_more a m k t p = mod-add-mod (a * m) p (a * (k * t)) ∙ ap (λ w. w % p) (omega arith)

-- each further row is the product with one bit more
pub MakesWord-next_row : (old mid new : Net) (n place lit : ℕ) (a b product bits : List ℕ) → length b ≡ n → place < n → lit ≡ get_or b place lit
    → MakesWord old mid (10 * (n * place)) n (λ v. word_value v a * word_value v (take place b) % 2 ^ n) product
    → MakesWord mid new (10 * n) n (λ v. (word_value v product + word_value v a * (2 ^ place * literal_number v lit)) % 2 ^ n) bits
    → MakesWord old new (10 * (n * (place + 1))) n (λ v. word_value v a * word_value v (take (place + 1) b) % 2 ^ n) bits
MakesWord-next_row old mid new n place lit a b product bits same inside is so_far row =
    let both = MakesWord-of_word old mid new (10 * (n * place)) (10 * n) n n (λ v. word_value v a * word_value v (take place b) % 2 ^ n) (λ v w. (w + word_value v a * (2 ^ place * literal_number v lit)) % 2 ^ n) product bits so_far row in
    MakesWord-weaker old new (10 * (n * place) + 10 * n) (10 * (n * (place + 1))) n _ bits (omega arith)
    (MakesWord-same old new (10 * (n * place) + 10 * n) n _ _ bits
    (λ v.
    product_more (word_value v a) (word_value v (take place b)) (2 ^ place) (literal_number v lit) (2 ^ n)
    ∙ ap (λ w. word_value v a * w % 2 ^ n) (sym (word_value-more v b place lit (omega arith) is)))
    both)

-- all rows are the product
pub MakesWord-all_rows : (old new : Net) (n place : ℕ) (a b bits : List ℕ) → length b ≡ n → place ≡ n
    → MakesWord old new (10 * (n * place)) n (λ v. word_value v a * word_value v (take place b) % 2 ^ n) bits
    → MakesWord old new (10 * (n * n)) n (λ v. word_value v a * word_value v b % 2 ^ n) bits
MakesWord-all_rows old new n place a b bits same all rows =
    let whole : take place b ≡ b = take_all place b (omega arith) in
    let makes : MakesWord old new (10 * (n * place)) n (λ v. word_value v a * word_value v b % 2 ^ n) bits = rw whole at rows in
    MakesWord-weaker old new (10 * (n * place)) (10 * (n * n)) n _ bits (omega (arith, ap (λ k. n * k) all)) makes
