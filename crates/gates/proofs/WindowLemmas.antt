-- The words that literals read as where they are taken from lists.
use Rattle.std.proofs.Common.{◌≡◌, ◌≢◌, ℕ, ◌+◌, ◌-◌, ◌*◌, ◌/◌, ◌%◌, ◌^◌, ◌<◌, ◌≤◌, Bool, true, false, not, ◌==◌, if◌then◌else◌, List, [], ◌∷◌, ◌++◌, length, map, take, drop, get_or, replicate, All, zero, suc, refl, sym, ap, ◌∙◌, arith, length-drop}
use Rattle.std.proofs.Math.Nat.{pow-suc}
use Rattle.std.proofs.lemmas.Nat.{mul-le, shr_high, mod_low, pow_pos}
use Rattle.std.proofs.lemmas.List.{length-map, length-take-le, map-append, take_all, take-append-drop}
use Rattle.std.proofs.lemmas.List.Elements.{All-append, All-take, All-drop}
use Rattle.std.proofs.lemmas.Bool.{false≢true, eqb-true, eqb-false}
use Rattle.base.specs.declared.operators.Binary.{Binary}
use Rattle.base.specs.declared.operators.Binary.TheVariants.{Sll, Srl, Sra}
use Rattle.base.specs.Word.{word, bit_number}
use Rattle.base.specs.Operator.{ones, binary_value}
use Rattle.base.specs.Literal.{Valuation, literal_value}
use Rattle.gates.specs.Made.{word_value}
use Rattle.gates.specs.Tests.{is_shift}
use Rattle.gates.proofs.BitListLemmas.{word_value-below, word_value-more}
use Rattle.gates.proofs.MoveLemmas.{window_value, sra_window_low, sra_window_high, moved_out_left, moved_out_right, moved_out_low, moved_out_high}

-- the word of one list before another
word-append : (xs ys : List Bool) → word (xs ++ ys) ≡ word ys * 2 ^ length xs + word xs
word-append [] ys = omega arith
word-append (x ∷ xs) ys = omega (arith, pow-suc 2 (length xs), word-append xs ys, ap (λ k. word ys * k) (pow-suc 2 (length xs)))

-- the word of literals before others
pub word_value-append : (v : Valuation) (low high : List ℕ) → word_value v (low ++ high) ≡ word_value v low + 2 ^ length low * word_value v high
word_value-append v low high =
    ap word (map-append (literal_value v) low high) ∙ word-append (map (literal_value v) low) (map (literal_value v) high)
    ∙ ap (λ n. word_value v high * 2 ^ n + word_value v low) (length-map low (literal_value v)) ∙ omega arith

-- the first literals of a list, and the others
pub word_value-split : (v : Valuation) (a : List ℕ) (k : ℕ) → k ≤ length a → word_value v a ≡ word_value v (drop k a) * 2 ^ k + word_value v (take k a)
word_value-split v a k le =
    let whole : map (literal_value v) a ≡ map (literal_value v) (take k a) ++ map (literal_value v) (drop k a) = ap (map (literal_value v)) (sym (take-append-drop k a)) ∙ map-append (literal_value v) (take k a) (drop k a) in
    let count : length (map (literal_value v) (take k a)) ≡ k = length-map (take k a) (literal_value v) ∙ length-take-le k a le in
    ap word whole ∙ word-append (map (literal_value v) (take k a)) (map (literal_value v) (drop k a))
    ∙ ap (λ m. word_value v (drop k a) * 2 ^ m + word_value v (take k a)) count

-- they read as the remainder and the quotient by a power of two
word_value-take : (v : Valuation) (a : List ℕ) (k : ℕ) → k ≤ length a → word_value v (take k a) ≡ word_value v a % 2 ^ k
word_value-take v a k le = sym (ap (λ w. w % 2 ^ k) (word_value-split v a k le) ∙ mod_low (word_value v (drop k a)) k (word_value v (take k a)) (word_value-below v (take k a) k (length-take-le k a le)))

word_value-drop : (v : Valuation) (a : List ℕ) (k : ℕ) → k ≤ length a → word_value v (drop k a) ≡ word_value v a / 2 ^ k
word_value-drop v a k le = sym (ap (λ w. w / 2 ^ k) (word_value-split v a k le) ∙ shr_high (word_value v (drop k a)) k (word_value v (take k a)) (word_value-below v (take k a) k (length-take-le k a le)))

-- the window from a place on of two words one behind the other
pub word_value-window : (v : Valuation) (low high : List ℕ) (n k : ℕ) → length low ≡ n → length high ≡ n → k ≤ n → word_value v (drop k low ++ take k high) ≡ window_value n (word_value v low) (word_value v high) k
word_value-window v low high n k in_low in_high le =
    let count : length (map (literal_value v) (drop k low)) ≡ n - k = length-map (drop k low) (literal_value v) ∙ length-drop k low ∙ ap (λ m. m - k) in_low in
    ap word (map-append (literal_value v) (drop k low) (take k high))
    ∙ word-append (map (literal_value v) (drop k low)) (map (literal_value v) (take k high))
    ∙ ap (λ m. word_value v (take k high) * 2 ^ m + word_value v (drop k low)) count
    ∙ rw (word_value-take v high k (omega arith), word_value-drop v low k (omega arith)) (omega arith)

-- one literal so many times
pub word_value-replicate : (v : Valuation) (n l : ℕ) → word_value v (replicate n l) ≡ (if literal_value v l then ones n else 0)
word_value-replicate v n l = all (literal_value v l) n refl
  where
    all : (b : Bool) (n : ℕ) → literal_value v l ≡ b → word_value v (replicate n l) ≡ (if b then ones n else 0)
    all true zero is = refl
    all false zero is = refl
    all true (suc n) is = omega (arith, ap bit_number is, all true n is, pow-suc 2 n, pow_pos n)
    all false (suc n) is = omega (arith, ap bit_number is, all false n is)

-- what all literals of two words meet, those of a window meet
pub All-window : (P : ℕ → Type 0) (low high : List ℕ) (k : ℕ) → All P low → All P high → All P (drop k low ++ take k high)
All-window P low high k all_low all_high = All-append P (drop k low) (take k high) (All-drop P k low all_low) (All-take P k high all_high)

-- the highest literal of a word says whether its sign is 1
pub sign-zero : (v : Valuation) (a : List ℕ) (n s : ℕ) → 1 ≤ n → length a ≡ n → s ≡ get_or a (n - 1) s → literal_value v s ≡ false → word_value v a < 2 ^ (n - 1)
sign-zero v a n s some wide is clear =
    let all : take (n - 1 + 1) a ≡ a = take_all (n - 1 + 1) a (omega arith) in
    let parts = word_value-more v a (n - 1) s (omega arith) is in
    let below : word_value v (take (n - 1) a) < 2 ^ (n - 1) = word_value-below v (take (n - 1) a) (n - 1) (length-take-le (n - 1) a (omega arith)) in
    omega (arith, ap (word_value v) all, parts, ap (λ b. 2 ^ (n - 1) * bit_number b) clear)

pub sign-one : (v : Valuation) (a : List ℕ) (n s : ℕ) → 1 ≤ n → length a ≡ n → s ≡ get_or a (n - 1) s → literal_value v s ≡ true → 2 ^ (n - 1) ≤ word_value v a
sign-one v a n s some wide is set =
    let all : take (n - 1 + 1) a ≡ a = take_all (n - 1 + 1) a (omega arith) in
    let parts = word_value-more v a (n - 1) s (omega arith) is in
    omega (arith, ap (word_value v) all, parts, ap (λ b. 2 ^ (n - 1) * bit_number b) set)

-- a signed shift takes in the sign, by an amount below the width and by one above
pub sra-sign : (v : Valuation) (a : List ℕ) (n s k : ℕ) → 1 ≤ n → length a ≡ n → s ≡ get_or a (n - 1) s → k ≤ n → window_value n (word_value v a) (if literal_value v s then ones n else 0) k ≡ binary_value Sra n (word_value v a) k
sra-sign v a n s k some wide is le = by_sign (literal_value v s) refl
  where
    by_sign : (b : Bool) → literal_value v s ≡ b → window_value n (word_value v a) (if b then ones n else 0) k ≡ binary_value Sra n (word_value v a) k
    by_sign true set = sra_window_high n (word_value v a) k some le (sign-one v a n s some wide is set) (word_value-below v a n wide)
    by_sign false clear = sra_window_low n (word_value v a) k some (sign-zero v a n s some wide is clear)

pub sra-far : (v : Valuation) (a : List ℕ) (n s b : ℕ) → 1 ≤ n → length a ≡ n → s ≡ get_or a (n - 1) s → n ≤ b → (if literal_value v s then ones n else 0) ≡ binary_value Sra n (word_value v a) b
sra-far v a n s b some wide is far = by_sign (literal_value v s) refl
  where
    by_sign : (t : Bool) → literal_value v s ≡ t → (if t then ones n else 0) ≡ binary_value Sra n (word_value v a) b
    by_sign true set = sym (moved_out_high n (word_value v a) b some far (sign-one v a n s some wide is set) (word_value-below v a n wide))
    by_sign false clear = sym (moved_out_low n (word_value v a) b some far (sign-zero v a n s some wide is clear))

-- what moves in where a word is shifted by its width and more
abbrev pub IsFill : Binary → List ℕ → ℕ → Type 0
IsFill Sra a s = s ≡ get_or a (length a - 1) s
IsFill _ a s = s ≡ 0

pub IsFill-false : (op : Binary) (a : List ℕ) (s : ℕ) → is_shift op ≡ true → (op ≡ Sra → ⊥) → s ≡ 0 → IsFill op a s
IsFill-false Sll a s is other clear = clear
IsFill-false Srl a s is other clear = clear
IsFill-false Sra a s is other clear = absurd (other refl)
IsFill-false _ a s is other clear = absurd (false≢true is)

pub filled : (op : Binary) (v : Valuation) (a : List ℕ) (n s b : ℕ) → is_shift op ≡ true → 1 ≤ n → length a ≡ n → IsFill op a s → n ≤ b → (if literal_value v s then ones n else 0) ≡ binary_value op n (word_value v a) b
filled Sll v a n s b is some wide fill far = rw fill (sym (moved_out_left n (word_value v a) b far))
filled Srl v a n s b is some wide fill far = rw fill (sym (moved_out_right n (word_value v a) b far (word_value-below v a n wide)))
filled Sra v a n s b is some wide fill far = sra-far v a n s b some wide (rw wide at fill) far
filled _ v a n s b is some wide fill far = absurd (false≢true is)

-- the amount's low literals alone are enough where the width is not above their power of two
pub shifted : (op : Binary) (v : Valuation) (a b : List ℕ) (n s k : ℕ) → is_shift op ≡ true → 1 ≤ n → length a ≡ n → IsFill op a s → k ≤ length b → n ≤ 2 ^ k
    → (if not (word_value v (drop k b) == 0) then (if literal_value v s then ones n else 0) else binary_value op n (word_value v a) (word_value v (take k b))) ≡ binary_value op n (word_value v a) (word_value v b)
shifted op v a b n s k is some wide fill inside enough = by_test (word_value v (drop k b) == 0) refl
  where
    parts : word_value v b ≡ word_value v (drop k b) * 2 ^ k + word_value v (take k b)
    parts = word_value-split v b k inside

    by_test : (t : Bool) → (word_value v (drop k b) == 0) ≡ t → (if not t then (if literal_value v s then ones n else 0) else binary_value op n (word_value v a) (word_value v (take k b))) ≡ binary_value op n (word_value v a) (word_value v b)
    by_test true e =
        let none : word_value v (drop k b) * 2 ^ k ≡ 0 = ap (λ w. w * 2 ^ k) (eqb-true (word_value v (drop k b)) 0 e) ∙ omega arith in
        ap (binary_value op n (word_value v a)) (omega (arith, parts))
    by_test false e =
        let some_high : word_value v (drop k b) ≢ 0 = eqb-false (word_value v (drop k b)) 0 e in
        let far : 1 * 2 ^ k ≤ word_value v (drop k b) * 2 ^ k = mul-le 1 (2 ^ k) (word_value v (drop k b)) (2 ^ k) (omega arith) (omega arith) in
        filled op v a n s (word_value v b) is some wide fill (omega (arith, parts))
