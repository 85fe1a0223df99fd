-- Digits of words, of their pieces, and of the cells of arrays.
use Rattle.std.proofs.Common.{◌≡◌, ℕ, zero, suc, ◌+◌, ◌-◌, ◌*◌, ◌/◌, ◌%◌, ◌^◌, ◌<◌, ◌≤◌, ◌==◌, List, [], ◌∷◌, map, Option, Some, slice_get, option_map, option_and_then, unwrap_or, refl, sym, ap, ap₂, subst, ◌∙◌, ⊎_elim, arith}
use Rattle.std.specs.List.{AllByRecursion, AllZip}
use Rattle.std.proofs.lemmas.Bool.{cases_lt}
use Rattle.std.proofs.Math.Nat.{div-div-eq-div-mul}
use Rattle.std.proofs.Math.Pow.{field, mod-mod-pow, pow-add}
use Rattle.base.specs.Operator.{concat_value}
use Rattle.base.specs.Word.{bit}
use Rattle.base.proofs.ShiftLemmas.{shifted_out_right}
use Rattle.full.specs.Cells.{read_value}
use Rattle.full.specs.Lines.{Sort, words, arrays}
use Rattle.full.proofs.CellLemmas.{read_low, read_high}
use Rattle.full.proofs.HalfLemmas.{cells_same}
use Rattle.fit.specs.Fitting.{pieces_word}
use Rattle.pieces.specs.Cuts.{IsCut}
use Rattle.fulljudge.specs.Shapes.{word_count, word_width}
use Rattle.fulljudge.specs.Compared.{bit_in}
use Rattle.fulljudge.proofs.ToldLemmas.{own_word}

-- ---- a word

as_cell : (x i : ℕ) → bit x i ≡ read_value 1 x i
as_cell x i = ap (λ (k : ℕ). x / 2 ^ k % 2) (omega arith)

-- words of so many bits are the same where their bits are
pub same_bits : (n x y : ℕ) → x < 2 ^ n → y < 2 ^ n → ((i : ℕ) → i < n → bit x i ≡ bit y i) → x ≡ y
same_bits n x y below under same =
    let one : n ≡ n * 1 = omega arith in
    cells_same n 1 x y (subst (λ (k : ℕ). x < 2 ^ k) one below) (subst (λ (k : ℕ). y < 2 ^ k) one under) (λ i within. sym (as_cell x i) ∙ same i within ∙ as_cell y i)

bit_past : (n x i : ℕ) → x < 2 ^ n → n ≤ i → bit x i ≡ 0
bit_past n x i below past = ap (λ (y : ℕ). y % 2) (shifted_out_right n x i past below)

bit_low : (hi lo i : ℕ) → lo < 2 ^ 64 → i < 64 → bit (concat_value hi 64 lo) i ≡ bit lo i
bit_low hi lo i below within = as_cell (concat_value hi 64 lo) i ∙ read_low 64 1 hi lo i below within ∙ sym (as_cell lo i)

bit_high : (hi lo j : ℕ) → lo < 2 ^ 64 → bit (concat_value hi 64 lo) (64 + j) ≡ bit hi j
bit_high hi lo j below = as_cell (concat_value hi 64 lo) (64 + j) ∙ read_high 64 1 hi lo j below ∙ sym (as_cell hi j)

-- the bits of a part of a word
part_bit : (x k n b : ℕ) → b < n → bit (x / 2 ^ k % 2 ^ n) b ≡ bit x (k + b)
part_bit x k n b within =
    let y : ℕ = x / 2 ^ k in
    let split : n ≡ (n - b) + b = omega (arith, within) in
    let least : n - b ≡ (n - b - 1) + 1 = omega (arith, within) in
    let high : y % 2 ^ n / 2 ^ b ≡ y / 2 ^ b % 2 ^ (n - b) = ap (λ (m : ℕ). y % 2 ^ m / 2 ^ b) split ∙ field y (n - b) b in
    ap (λ (z : ℕ). z % 2) high
    ∙ ap (λ (m : ℕ). y / 2 ^ b % 2 ^ m % 2 ^ 1) least ∙ mod-mod-pow (y / 2 ^ b) (n - b - 1) 1
    ∙ ap (λ (z : ℕ). z % 2) (div-div-eq-div-mul x (2 ^ k) (2 ^ b) ∙ ap (λ (m : ℕ). x / m) (sym (pow-add 2 k b)))

-- those of the word of a value with an index
pub cell_bit : (s : Sort) (x c b : ℕ) → c < word_count s → b < word_width s → bit (own_word s x c) b ≡ bit x (c * word_width s + b)
cell_bit (words n) x c b within inside =
    let zero : c ≡ 0 = omega (arith, within) in
    let none : b ≡ 0 * n + b = omega arith in
    ap (bit x) (none ∙ ap (λ (k : ℕ). k * n + b) (sym zero))
cell_bit (arrays k n) x c b within inside = part_bit x (n * c) n b inside ∙ ap (λ (m : ℕ). bit x (m + b)) (omega arith)

-- ---- pieces

-- the word of the piece at a place, and 0 behind the last
abbrev pub piece_at : (ℕ → ℕ) → List ℕ → ℕ → ℕ
piece_at g ps i = unwrap_or (option_map g (slice_get ps i)) 0

low_place : (place : ℕ) → place < 64 → (place / 64 ≡ 0) × (place % 64 ≡ place)
low_place place below = (omega (arith, below), omega (arith, below))

next_place : (j : ℕ) → ((64 + j) / 64 ≡ suc (j / 64)) × ((64 + j) % 64 ≡ j % 64)
next_place j = (omega arith, omega arith)

none_at : (j k : ℕ) → bit 0 j ≡ bit 0 k
none_at j k = bit_past 0 0 j (omega arith) (omega arith) ∙ sym (bit_past 0 0 k (omega arith) (omega arith))

-- a bit of the word that pieces of 64 bits make is one of a piece
pub bit_of_pieces : (width : ℕ → ℕ) (g : ℕ → ℕ) (ps : List ℕ) (place : ℕ) → IsCut 64 (map width ps) → AllByRecursion (λ p. g p < 2 ^ width p) ps → bit (pieces_word width g ps) place ≡ bit (piece_at g ps (place / 64)) (place % 64)
bit_of_pieces width g [] place cut fit = none_at place (place % 64)
bit_of_pieces width g (p ∷ []) place cut fit =
    let alone : concat_value 0 (width p) (g p) ≡ g p = omega arith in
    ap (λ (x : ℕ). bit x place) alone
    ∙ ⊎_elim
    (λ (l : place < 64). let at = low_place place l in sym (ap₂ (λ (q r : ℕ). bit (piece_at g (p ∷ []) q) r) at.0 at.1))
    (λ (l : 64 ≤ place).
    let j : ℕ = place - 64 in
    let is : place ≡ 64 + j = omega (arith, l) in
    let at = next_place j in
    bit_past (width p) (g p) place fit.0 (omega (arith, l, cut.1)) ∙ sym (bit_past 0 0 (place % 64) (omega arith) (omega arith))
    ∙ sym (ap (λ (q : ℕ). bit (piece_at g (p ∷ []) q) (place % 64)) (ap (λ (m : ℕ). m / 64) is ∙ at.0)))
    (cases_lt place 64)
bit_of_pieces width g (p ∷ q ∷ more) place cut fit =
    let lo : g p < 2 ^ 64 = subst (λ (n : ℕ). g p < 2 ^ n) cut.0 fit.0 in
    let hi : ℕ = pieces_word width g (q ∷ more) in
    ap (λ (n : ℕ). bit (concat_value hi n (g p)) place) cut.0
    ∙ ⊎_elim
    (λ (l : place < 64). let at = low_place place l in bit_low hi (g p) place lo l ∙ sym (ap₂ (λ (i r : ℕ). bit (piece_at g (p ∷ q ∷ more) i) r) at.0 at.1))
    (λ (l : 64 ≤ place).
    let j : ℕ = place - 64 in
    let is : place ≡ 64 + j = omega (arith, l) in
    let at = next_place j in
    ap (bit (concat_value hi 64 (g p))) is ∙ bit_high hi (g p) j lo ∙ bit_of_pieces width g (q ∷ more) j cut.1 fit.1
    ∙ sym (ap₂ (λ (i r : ℕ). bit (piece_at g (p ∷ q ∷ more) i) r) (ap (λ (m : ℕ). m / 64) is ∙ at.0) (ap (λ (m : ℕ). m % 64) is ∙ at.1)))
    (cases_lt place 64)

read_at : (of : ℕ → Option ℕ) (g : ℕ → ℕ) (ps places : List ℕ) (i : ℕ) → AllZip (λ p place. of place ≡ Some (g p)) ps places → unwrap_or (option_and_then of (slice_get places i)) 0 ≡ piece_at g ps i
read_at of g [] [] i are = refl
read_at of g [] (place ∷ places) i are = absurd are
read_at of g (p ∷ ps) [] i are = absurd are
read_at of g (p ∷ ps) (place ∷ places) zero are = ap (λ (o : Option ℕ). unwrap_or o 0) are.0
read_at of g (p ∷ ps) (place ∷ places) (suc i) are = read_at of g ps places i are.1

-- the code reads the bits of the word
pub bit_is : (of : ℕ → Option ℕ) (width g : ℕ → ℕ) (ps places : List ℕ) (place : ℕ) → AllZip (λ p place. of place ≡ Some (g p)) ps places → IsCut 64 (map width ps) → AllByRecursion (λ p. g p < 2 ^ width p) ps
    → bit_in of places place ≡ (bit (pieces_word width g ps) place == 1)
bit_is of width g ps places place are cut fit =
    ap (λ (x : ℕ). bit x (place % 64) == 1) (read_at of g ps places (place / 64) are) ∙ ap (λ (b : ℕ). b == 1) (sym (bit_of_pieces width g ps place cut fit))
