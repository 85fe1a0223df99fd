-- Words of arrays by their halves, as the maker's lines give them.
use Rattle.std.proofs.Common.{◌≡◌, ℕ, zero, suc, ◌+◌, ◌-◌, ◌*◌, ◌/◌, ◌%◌, ◌^◌, ◌<◌, ◌≤◌, bit_and, refl, sym, ap, ap₂, subst, ◌∙◌, pow_pos, arith}
use Rattle.std.proofs.Math.Nat.{mod-lt, mod-eq_of_lt}
use Rattle.std.proofs.Math.Pow.{mod-mod-pow}
use Rattle.std.proofs.lemmas.Nat.{field_of}
use Rattle.base.specs.Operator.{ite_value, slice_value, concat_value}
use Rattle.full.specs.Cells.{read_value, write_value, repeat_value}
use Rattle.full.proofs.CellLemmas.{one_cell, one_cell_written, repeat_one}
use Rattle.full.proofs.HalfLemmas.{halves, read_of_half, write_by_halves, repeat_by_halves}
use Rattle.cells.proofs.BitLemmas.{two_halves}

-- ---- the low bits of an index

top_again : (k i : ℕ) → slice_value (i % 2 ^ (k + 1)) k k ≡ slice_value i k k
top_again k i =
    let bit : k - k + 1 ≡ 1 = omega arith in
    let order : k + 1 ≡ 1 + k = omega arith in
    ap (λ (n : ℕ). i % 2 ^ (k + 1) / 2 ^ k % 2 ^ n) bit ∙ ap (λ (n : ℕ). i % 2 ^ n / 2 ^ k % 2 ^ 1) order ∙ ap (λ (w : ℕ). w % 2 ^ 1) (field_of i 1 k) ∙ mod-mod-pow (i / 2 ^ k) 0 1 ∙ ap (λ (n : ℕ). i / 2 ^ k % 2 ^ n) (sym bit)

low_again : (k i : ℕ) → i % 2 ^ (k + 1) % 2 ^ k ≡ i % 2 ^ k
low_again k i =
    let order : k + 1 ≡ 1 + k = omega arith in
    ap (λ (n : ℕ). i % 2 ^ n % 2 ^ k) order ∙ mod-mod-pow i 1 k

top_is_bit : (k i : ℕ) → slice_value i k k < 2
top_is_bit k i =
    let bit : k - k + 1 ≡ 1 = omega arith in
    subst (λ (n : ℕ). i / 2 ^ k % 2 ^ n < 2) (sym bit) (mod-lt (i / 2 ^ k) (pow_pos 1))

low_below : (k i : ℕ) → i % 2 ^ k < 2 ^ k
low_below k i = mod-lt i (pow_pos k)

-- ---- what is read

-- of a half, by the bits of the index that are left
pub read_half : (k n a i r bit half : ℕ) → 1 ≤ n → a < 2 ^ (2 ^ (k + 1) * n) → half ≡ 2 ^ k * n → bit ≡ slice_value i k k → r ≡ ite_value bit (slice_value a (half + half - 1) half) (slice_value a (half - 1) 0)
    → read_value n a (i % 2 ^ (k + 1)) ≡ read_value n r (i % 2 ^ k)
read_half k n a i r bit half some fits is top chosen =
    let j = i % 2 ^ (k + 1) in
    let both : half + half ≡ 2 ^ (k + 1) * n = ap₂ (λ (x y : ℕ). x + y) is is ∙ sym (two_halves k n) in
    let same : ite_value (slice_value j k k) (slice_value a (2 ^ (k + 1) * n - 1) (2 ^ k * n)) (slice_value a (2 ^ k * n - 1) 0) ≡ r =
    ap (λ (t : ℕ). ite_value t (slice_value a (2 ^ (k + 1) * n - 1) (2 ^ k * n)) (slice_value a (2 ^ k * n - 1) 0)) (top_again k i ∙ sym top)
    ∙ ap₂ (λ (x y : ℕ). ite_value bit (slice_value a (x - 1) y) (slice_value a (y - 1) 0)) (sym both) (sym is) ∙ sym chosen in
    read_of_half k n a j some (low_below (k + 1) i) fits ∙ ap₂ (λ (w m : ℕ). read_value n w m) same (low_again k i)

-- of one cell
pub read_one : (n a i : ℕ) → a < 2 ^ n → a ≡ read_value n a (i % 2 ^ 0)
read_one n a i fits =
    let none : i % 2 ^ 0 ≡ 0 = omega (arith, low_below 0 i) in
    sym (ap (read_value n a) none ∙ one_cell n a fits)

-- ---- what is written

-- by a condition and the top bit
choose_both : (cond t half above high below low : ℕ) → cond < 2 → t < 2
    → concat_value (ite_value (bit_and cond t) above high) half (ite_value (bit_and cond (1 - t)) below low) ≡ ite_value cond (concat_value (ite_value t above high) half (ite_value t low below)) (concat_value high half low)
choose_both zero zero half above high below low c b = refl
choose_both zero (suc zero) half above high below low c b = refl
choose_both (suc zero) zero half above high below low c b = refl
choose_both (suc zero) (suc zero) half above high below low c b = refl
choose_both zero (suc (suc t)) half above high below low c b = absurd (omega (arith, b))
choose_both (suc zero) (suc (suc t)) half above high below low c b = absurd (omega (arith, b))
choose_both (suc (suc cond)) t half above high below low c b = absurd (omega (arith, c))

choose_low : (t below low : ℕ) → t < 2 → ite_value (1 - t) below low ≡ ite_value t low below
choose_low zero below low b = refl
choose_low (suc zero) below low b = refl
choose_low (suc (suc t)) below low b = absurd (omega (arith, b))

written_halves : (k n a i v half high low : ℕ) → 1 ≤ n → a < 2 ^ (2 ^ (k + 1) * n) → half ≡ 2 ^ k * n → high ≡ slice_value a (half + half - 1) half → low ≡ slice_value a (half - 1) 0
    → write_value n a (i % 2 ^ (k + 1)) v ≡ concat_value (ite_value (slice_value i k k) (write_value n high (i % 2 ^ k) v) high) half (ite_value (slice_value i k k) low (write_value n low (i % 2 ^ k) v))
written_halves k n a i v half high low some fits is hi lo =
    let j = i % 2 ^ (k + 1) in
    let both : 2 ^ (k + 1) * n ≡ half + half = two_halves k n ∙ ap₂ (λ (x y : ℕ). x + y) (sym is) (sym is) in
    let above : slice_value a (2 ^ (k + 1) * n - 1) (2 ^ k * n) ≡ high = ap₂ (λ (x y : ℕ). slice_value a (x - 1) y) both (sym is) ∙ sym hi in
    let below : slice_value a (2 ^ k * n - 1) 0 ≡ low = ap (λ (y : ℕ). slice_value a (y - 1) 0) (sym is) ∙ sym lo in
    write_by_halves k n a j v some (low_below (k + 1) i) fits
    ∙ ap₂ (λ (x y : ℕ). concat_value (ite_value (slice_value j k k) (write_value n x (j % 2 ^ k) v) x) (2 ^ k * n) (ite_value (slice_value j k k) y (write_value n y (j % 2 ^ k) v))) above below
    ∙ ap₂ (λ (t m : ℕ). concat_value (ite_value t (write_value n high m v) high) (2 ^ k * n) (ite_value t low (write_value n low m v))) (top_again k i) (low_again k i)
    ∙ ap (λ (x : ℕ). concat_value (ite_value (slice_value i k k) (write_value n high (i % 2 ^ k) v) high) x (ite_value (slice_value i k k) low (write_value n low (i % 2 ^ k) v))) (sym is)

joined_halves : (k n a half high low : ℕ) → 1 ≤ n → a < 2 ^ (2 ^ (k + 1) * n) → half ≡ 2 ^ k * n → high ≡ slice_value a (half + half - 1) half → low ≡ slice_value a (half - 1) 0 → a ≡ concat_value high half low
joined_halves k n a half high low some fits is hi lo =
    let both : 2 ^ (k + 1) * n ≡ half + half = two_halves k n ∙ ap₂ (λ (x y : ℕ). x + y) (sym is) (sym is) in
    halves k n a some fits ∙ ap₂ (λ (x y : ℕ). concat_value (slice_value a (x - 1) y) y (slice_value a (y - 1) 0)) both (sym is) ∙ ap₂ (λ (x y : ℕ). concat_value x half y) (sym hi) (sym lo)

-- where a condition is 1, by both halves where the condition and the bit, or its negation, are
pub write_half : (k n a i v half high low cond one off above below : ℕ) → 1 ≤ n → a < 2 ^ (2 ^ (k + 1) * n) → half ≡ 2 ^ k * n → cond < 2 → high ≡ slice_value a (half + half - 1) half → low ≡ slice_value a (half - 1) 0
    → one ≡ bit_and cond (slice_value i k k) → off ≡ bit_and cond (1 - slice_value i k k) → above ≡ ite_value one (write_value n high (i % 2 ^ k) v) high → below ≡ ite_value off (write_value n low (i % 2 ^ k) v) low
    → concat_value above half below ≡ ite_value cond (write_value n a (i % 2 ^ (k + 1)) v) a
write_half k n a i v half high low cond one off above below some fits is bit hi lo lit dark up down =
    let t = slice_value i k k in
    let up_is : above ≡ ite_value (bit_and cond t) (write_value n high (i % 2 ^ k) v) high = up ∙ ap (λ (c : ℕ). ite_value c (write_value n high (i % 2 ^ k) v) high) lit in
    let down_is : below ≡ ite_value (bit_and cond (1 - t)) (write_value n low (i % 2 ^ k) v) low = down ∙ ap (λ (c : ℕ). ite_value c (write_value n low (i % 2 ^ k) v) low) dark in
    ap₂ (λ (x y : ℕ). concat_value x half y) up_is down_is ∙ choose_both cond t half (write_value n high (i % 2 ^ k) v) high (write_value n low (i % 2 ^ k) v) low bit (top_is_bit k i)
    ∙ ap₂ (λ (x y : ℕ). ite_value cond x y) (sym (written_halves k n a i v half high low some fits is hi lo)) (sym (joined_halves k n a half high low some fits is hi lo))

-- and by the top bit of the whole index alone
pub write_top : (k n a i v half high low one off above below : ℕ) → 1 ≤ n → a < 2 ^ (2 ^ (k + 1) * n) → i < 2 ^ (k + 1) → half ≡ 2 ^ k * n → high ≡ slice_value a (half + half - 1) half → low ≡ slice_value a (half - 1) 0
    → one ≡ slice_value i k k → off ≡ 1 - slice_value i k k → above ≡ ite_value one (write_value n high (i % 2 ^ k) v) high → below ≡ ite_value off (write_value n low (i % 2 ^ k) v) low
    → concat_value above half below ≡ write_value n a i v
write_top k n a i v half high low one off above below some fits inside is hi lo lit dark up down =
    let t = slice_value i k k in
    let up_is : above ≡ ite_value t (write_value n high (i % 2 ^ k) v) high = up ∙ ap (λ (c : ℕ). ite_value c (write_value n high (i % 2 ^ k) v) high) lit in
    let down_is : below ≡ ite_value t low (write_value n low (i % 2 ^ k) v) = down ∙ ap (λ (c : ℕ). ite_value c (write_value n low (i % 2 ^ k) v) low) dark ∙ choose_low t (write_value n low (i % 2 ^ k) v) low (top_is_bit k i) in
    ap₂ (λ (x y : ℕ). concat_value x half y) up_is down_is ∙ sym (written_halves k n a i v half high low some fits is hi lo) ∙ ap (λ (m : ℕ). write_value n a m v) (mod-eq_of_lt inside)

-- in one cell
pub write_one : (n a i v cond : ℕ) → a < 2 ^ n → ite_value cond v a ≡ ite_value cond (write_value n a (i % 2 ^ 0) v) a
write_one n a i v cond fits =
    let none : i % 2 ^ 0 ≡ 0 = omega (arith, low_below 0 i) in
    ap (λ (w : ℕ). ite_value cond w a) (sym (ap (λ (m : ℕ). write_value n a m v) none ∙ one_cell_written n a v fits))

-- ---- what is repeated

pub repeat_half : (k n v half word : ℕ) → half ≡ 2 ^ k * n → word ≡ repeat_value n (2 ^ k) v → concat_value word half word ≡ repeat_value n (2 ^ (k + 1)) v
repeat_half k n v half word is same = ap₂ (λ (x y : ℕ). concat_value x y x) same is ∙ sym (repeat_by_halves k n v)

pub repeat_once : (n v : ℕ) → v ≡ repeat_value n (2 ^ 0) v
repeat_once n v = sym (repeat_one n v)
