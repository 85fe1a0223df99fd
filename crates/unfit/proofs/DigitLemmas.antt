-- The digits of a word, put one in front of the other.
use Rattle.std.proofs.Common.{◌≡◌, ℕ, zero, suc, ◌+◌, ◌-◌, ◌*◌, ◌/◌, ◌%◌, ◌^◌, ◌<◌, ◌≤◌, ◌==◌, min, Bool, false, List, [], ◌∷◌, ◌++◌, length, map, reverse, take, drop, get_or, refl, sym, ap, ap₂, subst, ◌∙◌, arith}
use Rattle.std.proofs.Math.Nat.{pow-le-pow_right}
use Rattle.std.proofs.lemmas.List.{reverse-append, take_all, map-append, drop-drop, map_more, length-map, length-reverse, length-take-le}
use Rattle.std.proofs.lemmas.Option.{get_or_from_slice_get}
use Rattle.std.proofs.lemmas.Grind.{take_at_read}
use Rattle.base.specs.Word.{bit, bits, word, bit_number}
use Rattle.base.proofs.BitLemmas.{two_more, bits_at, length-bits, word_below}
use Rattle.witness.specs.Texts.{digit, binary}
use Rattle.witness.specs.Admits.{is_one_bit}
use Rattle.unfit.specs.declared.told_pieces.Piece.{Piece}
use Rattle.unfit.specs.Joined.{word_of_piece, joined_word}
use Rattle.unfit.specs.Steps.{piece_word_at}

-- one bit more
pub digits_more : (width word place : ℕ) (old line : List ℕ) → place < width → line ≡ map digit (reverse (take place (bits width word))) ++ old
    → digit (bit word place == 1) ∷ line ≡ map digit (reverse (take (place + 1) (bits width word))) ++ old
digits_more width word place old line lt is =
    let bs : List Bool = bits width word in
    let at : get_or bs place false ≡ (bit word place == 1) = get_or_from_slice_get bs place (bit word place == 1) false (bits_at width word place lt) in
    let more : map digit (reverse (take (place + 1) bs)) ≡ digit (bit word place == 1) ∷ map digit (reverse (take place bs)) =
    ap (λ (l : List Bool). map digit (reverse l)) ((take_at_read bs place false (omega (arith, lt, length-bits width word))).1 ∙ ap (λ (x : Bool). take place bs ++ x ∷ []) at)
    ∙ ap (map digit) (reverse-append (take place bs) ((bit word place == 1) ∷ [])) in
    ap (λ (l : List ℕ). digit (bit word place == 1) ∷ l) is ∙ sym (ap (λ (l : List ℕ). l ++ old) more)

-- all bits
pub all_digits : (width word place : ℕ) → place ≡ width → map digit (reverse (take place (bits width word))) ≡ binary width word
all_digits width word place all = ap (λ (l : List Bool). map digit (reverse l)) (take_all place (bits width word) (omega (arith, all, length-bits width word)))

-- ---- words by their pieces

-- low bits, and the high ones behind them
bits_joined : (k n w r : ℕ) → w < 2 ^ k → bits n (w + 2 ^ k * r) ≡ bits (min n k) w ++ bits (n - k) r
bits_joined zero n w r small =
    let none : w + 1 * r ≡ r = omega (arith, small) in
    let few : min n 0 ≡ 0 = omega arith in
    let all : n - 0 ≡ n = omega arith in
    ap (bits n) none ∙ sym (ap₂ (λ (a b : ℕ). bits a w ++ bits b r) few all)
bits_joined (suc k) zero w r small =
    let few : min 0 (suc k) ≡ 0 = omega arith in
    let none : 0 - suc k ≡ 0 = omega arith in
    sym (ap₂ (λ (a b : ℕ). bits a w ++ bits b r) few none)
bits_joined (suc k) (suc n) w r small =
    let two : 2 ^ suc k * r ≡ 2 * (2 ^ k * r) = ap (λ (x : ℕ). x * r) (two_more k) ∙ omega arith in
    let low : (w + 2 ^ suc k * r) % 2 ≡ w % 2 = omega (arith, two) in
    let high : (w + 2 ^ suc k * r) / 2 ≡ w / 2 + 2 ^ k * r = omega (arith, two) in
    let half : w / 2 < 2 ^ k = omega (arith, small, two_more k) in
    let least : min (suc n) (suc k) ≡ suc (min n k) = omega arith in
    let rest : suc n - suc k ≡ n - k = omega arith in
    ap₂ (λ (a : ℕ) (l : List Bool). (a == 1) ∷ l) low (ap (bits n) high ∙ bits_joined k n (w / 2) r half)
    ∙ sym (ap₂ (λ (a b : ℕ). bits a w ++ bits b r) least rest)

binary_joined : (n w r : ℕ) → w < 2 ^ 64 → binary (n - 64) r ++ binary (min n 64) w ≡ binary n (w + 2 ^ 64 * r)
binary_joined n w r small =
    sym (ap (λ (l : List Bool). map digit (reverse l)) (bits_joined 64 n w r small) ∙ ap (map digit) (reverse-append (bits (min n 64) w) (bits (n - 64) r)) ∙ map-append digit (reverse (bits (n - 64) r)) (reverse (bits (min n 64) w)))

-- the digits of so many pieces of a word of n bits, the highest piece first
abbrev pub piece_digits : ℕ → ℕ → List Piece → List ℕ
piece_digits zero n ps = []
piece_digits (suc m) n ps = piece_digits m (n - 64) (drop 1 ps) ++ binary (min n 64) (piece_word_at ps 0)

-- each of so many pieces has a word of 64 bits
abbrev pub AreWords : ℕ → List Piece → Type 0
AreWords m ps = (i : ℕ) → i < m → piece_word_at ps i < 2 ^ 64

pub all_pieces : (m n : ℕ) (ps : List Piece) → n ≤ 64 * m → AreWords m ps → piece_digits m n ps ≡ binary n (joined_word ps)
all_pieces zero n ps few are = let none : n ≡ 0 = omega (arith, few) in sym (ap (λ (k : ℕ). binary k (joined_word ps)) none)
all_pieces (suc m) n [] few are =
    ap (λ (l : List ℕ). l ++ binary (min n 64) 0) (all_pieces m (n - 64) [] (omega (arith, few)) (λ i h. omega arith)) ∙ binary_joined n 0 0 (omega arith)
all_pieces (suc m) n (p ∷ ps) few are =
    ap (λ (l : List ℕ). l ++ binary (min n 64) (word_of_piece p)) (all_pieces m (n - 64) ps (omega (arith, few)) (λ i h. are (suc i) (omega (arith, h)))) ∙ binary_joined n (word_of_piece p) (joined_word ps) (are 0 (omega arith))

word_behind : (ps : List Piece) (left : ℕ) → piece_word_at (drop left ps) 0 ≡ piece_word_at ps left
word_behind [] zero = refl
word_behind [] (suc left) = refl
word_behind (p ∷ ps) zero = refl
word_behind (p ∷ ps) (suc left) = word_behind ps left

-- a piece more, below those that are put
pub piece_more : (m n left : ℕ) (ps : List Piece) (text : List ℕ) → text ≡ piece_digits m (n - 64 * (left + 1)) (drop (left + 1) ps)
    → text ++ binary (min (n - 64 * left) 64) (piece_word_at ps left) ≡ piece_digits (m + 1) (n - 64 * left) (drop left ps)
piece_more m n left ps text is =
    let count : m + 1 ≡ suc m = omega arith in
    let rest : n - 64 * (left + 1) ≡ n - 64 * left - 64 = omega arith in
    let behind : drop (left + 1) ps ≡ drop 1 (drop left ps) = sym (drop-drop 1 left ps) in
    ap₂ (λ (l : List ℕ) (x : ℕ). l ++ binary (min (n - 64 * left) 64) x) (is ∙ ap₂ (piece_digits m) rest behind) (sym (word_behind ps left)) ∙ ap (λ (k : ℕ). piece_digits k (n - 64 * left) (drop left ps)) (sym count)

pub piece_step : (width left bits word : ℕ) (ps : List Piece) → 0 < left → left ≤ (width + 63) / 64 → bits ≡ min (width - 64 * (left - 1)) 64 → word ≡ piece_word_at ps (left - 1)
    → piece_digits ((width + 63) / 64 - left) (width - 64 * left) (drop left ps) ++ binary bits word ≡ piece_digits ((width + 63) / 64 - (left - 1)) (width - 64 * (left - 1)) (drop (left - 1) ps)
piece_step width left bits word ps some most narrow is =
    let before : left ≡ left - 1 + 1 = omega (arith, some) in
    let count : (width + 63) / 64 - left + 1 ≡ (width + 63) / 64 - (left - 1) = omega (arith, some, most) in
    ap₂ (λ (b x : ℕ). piece_digits ((width + 63) / 64 - left) (width - 64 * left) (drop left ps) ++ binary b x) narrow is
    ∙ piece_more ((width + 63) / 64 - left) width (left - 1) ps _ (ap (λ (k : ℕ). piece_digits ((width + 63) / 64 - left) (width - 64 * k) (drop k ps)) before)
    ∙ ap (λ (m : ℕ). piece_digits m (width - 64 * (left - 1)) (drop (left - 1) ps)) count

-- ---- words read digit by digit

pub word_more : (digits : List ℕ) (i x : ℕ) → i < length digits → x ≡ get_or digits i 0
    → 2 * word (reverse (map is_one_bit (take i digits))) + bit_number (x == 49) ≡ word (reverse (map is_one_bit (take (i + 1) digits)))
word_more digits i x h at =
    let front : List Bool = map is_one_bit (take i digits) in
    let more : reverse (map is_one_bit (take (i + 1) digits)) ≡ is_one_bit (get_or digits i 0) ∷ reverse front =
    ap reverse (map_more is_one_bit digits i 0 h) ∙ reverse-append front (is_one_bit (get_or digits i 0) ∷ []) in
    let same : bit_number (x == 49) ≡ bit_number (get_or digits i 0 == 49) = ap (λ (y : ℕ). bit_number (y == 49)) at in
    omega (arith, same) ∙ sym (ap word more)

pub word_fits : (digits : List ℕ) (i : ℕ) → i < length digits → length digits ≤ 64 → word (reverse (map is_one_bit (take i digits))) < 2 ^ 63
word_fits digits i h few =
    let front : List Bool = reverse (map is_one_bit (take i digits)) in
    let many : length front ≡ i = length-reverse (map is_one_bit (take i digits)) ∙ length-map (take i digits) is_one_bit ∙ length-take-le i digits (omega (arith, h)) in
    let below : word front < 2 ^ i = subst (λ (n : ℕ). word front < 2 ^ n) many (word_below front) in
    let most : 2 ^ i ≤ 2 ^ 63 = pow-le-pow_right {n = 2} (omega arith) {i = i} {j = 63} (omega (arith, h, few)) in
    omega (arith, below, most)
