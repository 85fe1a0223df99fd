-- Arrays of 2 ^ (k + 1) cells by their high and their low half, and arrays by their cells.
use Rattle.std.proofs.Common.{◌≡◌, ℕ, zero, suc, ◌+◌, ◌-◌, ◌*◌, ◌/◌, ◌%◌, ◌^◌, ◌<◌, ◌≤◌, Bool, true, false, cond, nat_eq, refl, sym, ap, ap₂, subst, ◌∙◌, pow_pos, arith}
use Rattle.std.proofs.Math.Nat.{mod-lt, mod-eq_of_lt, div-one, div-lt_iff_lt-mul}
use Rattle.std.proofs.lemmas.Nat.{pow-add, shr-shr, shr_split}
use Rattle.base.specs.Operator.{ite_value, slice_value, concat_value}
use Rattle.full.specs.Cells.{read_value, write_value, repeat_value}
use Rattle.full.proofs.CellLemmas.{read_low, read_high, write_low, write_high, repeat_joined, by_top}

-- ---- halves

-- half of an array has a bit
half_least : (k n : ℕ) → 1 ≤ n → 1 ≤ 2 ^ k * n
half_least k n h = grind (arith, pow_pos k)

size_is : (k n : ℕ) → 2 ^ (k + 1) * n ≡ 2 ^ k * n + 2 ^ k * n
size_is k n =
    let twice : 2 ^ (k + 1) ≡ 2 ^ k * 2 = pow-add 2 k 1 in
    ap (λ (c : ℕ). c * n) twice ∙ omega arith

abbrev high_half : ℕ → ℕ → ℕ → ℕ
high_half k n a = slice_value a (2 ^ (k + 1) * n - 1) (2 ^ k * n)

abbrev low_half : ℕ → ℕ → ℕ → ℕ
low_half k n a = slice_value a (2 ^ k * n - 1) 0

low_is : (k n a : ℕ) → 1 ≤ n → low_half k n a ≡ a % 2 ^ (2 ^ k * n)
low_is k n a h =
    let bits : 2 ^ k * n - 1 - 0 + 1 ≡ 2 ^ k * n = omega (arith, half_least k n h) in
    ap₂ (λ (w b : ℕ). w % 2 ^ b) (div-one a) bits

high_is : (k n a : ℕ) → 1 ≤ n → a < 2 ^ (2 ^ (k + 1) * n) → high_half k n a ≡ a / 2 ^ (2 ^ k * n)
high_is k n a h fits =
    let half = 2 ^ k * n in
    let bits : 2 ^ (k + 1) * n - 1 - half + 1 ≡ half = omega (arith, half_least k n h, size_is k n) in
    let parts : a < 2 ^ half * 2 ^ half = subst (λ (m : ℕ). a < m) (ap (λ (m : ℕ). 2 ^ m) (size_is k n) ∙ pow-add 2 half half) fits in
    let inside : a / 2 ^ half < 2 ^ half = (div-lt_iff_lt-mul (pow_pos half)).1 parts in
    ap (λ (b : ℕ). a / 2 ^ half % 2 ^ b) bits ∙ mod-eq_of_lt inside

pub halves : (k n a : ℕ) → 1 ≤ n → a < 2 ^ (2 ^ (k + 1) * n) → a ≡ concat_value (high_half k n a) (2 ^ k * n) (low_half k n a)
halves k n a h fits = sym (shr_split a (2 ^ k * n)) ∙ sym (ap₂ (λ (x y : ℕ). concat_value x (2 ^ k * n) y) (high_is k n a h fits) (low_is k n a h))

low_below : (k n a : ℕ) → 1 ≤ n → low_half k n a < 2 ^ (2 ^ k * n)
low_below k n a h = subst (λ (w : ℕ). w < 2 ^ (2 ^ k * n)) (sym (low_is k n a h)) (mod-lt a (pow_pos (2 ^ k * n)))

pub read_by_halves : (k n a i : ℕ) → 1 ≤ n → i < 2 ^ (k + 1) → a < 2 ^ (2 ^ (k + 1) * n)
    → read_value n a i ≡ ite_value (slice_value i k k) (read_value n (slice_value a (2 ^ (k + 1) * n - 1) (2 ^ k * n)) (i % 2 ^ k)) (read_value n (slice_value a (2 ^ k * n - 1) 0) (i % 2 ^ k))
read_by_halves k n a i h inside fits =
    let low = low_below k n a h in
    by_top (λ t r. read_value n a i ≡ ite_value t (read_value n (high_half k n a) r) (read_value n (low_half k n a) r)) k i inside
    (λ below. ap (λ (w : ℕ). read_value n w i) (halves k n a h fits) ∙ read_low (2 ^ k) n (high_half k n a) (low_half k n a) i low below)
    (λ j e below. ap₂ (λ (w m : ℕ). read_value n w m) (halves k n a h fits) e ∙ read_high (2 ^ k) n (high_half k n a) (low_half k n a) j low)

pub write_by_halves : (k n a i v : ℕ) → 1 ≤ n → i < 2 ^ (k + 1) → a < 2 ^ (2 ^ (k + 1) * n)
    → write_value n a i v ≡ concat_value (ite_value (slice_value i k k) (write_value n (slice_value a (2 ^ (k + 1) * n - 1) (2 ^ k * n)) (i % 2 ^ k) v) (slice_value a (2 ^ (k + 1) * n - 1) (2 ^ k * n))) (2 ^ k * n)
    (ite_value (slice_value i k k) (slice_value a (2 ^ k * n - 1) 0) (write_value n (slice_value a (2 ^ k * n - 1) 0) (i % 2 ^ k) v))
write_by_halves k n a i v h inside fits =
    let low = low_below k n a h in
    by_top (λ t r. write_value n a i v ≡ concat_value (ite_value t (write_value n (high_half k n a) r v) (high_half k n a)) (2 ^ k * n) (ite_value t (low_half k n a) (write_value n (low_half k n a) r v))) k i inside
    (λ below. ap (λ (w : ℕ). write_value n w i v) (halves k n a h fits) ∙ write_low (2 ^ k) n (high_half k n a) (low_half k n a) i v low below)
    (λ j e below. ap₂ (λ (w m : ℕ). write_value n w m v) (halves k n a h fits) e ∙ write_high (2 ^ k) n (high_half k n a) (low_half k n a) j v low)

pub repeat_by_halves : (k n v : ℕ) → repeat_value n (2 ^ (k + 1)) v ≡ concat_value (repeat_value n (2 ^ k) v) (2 ^ k * n) (repeat_value n (2 ^ k) v)
repeat_by_halves k n v =
    let twice : 2 ^ (k + 1) ≡ 2 ^ k + 2 ^ k = pow-add 2 k 1 ∙ omega arith in
    ap (λ (c : ℕ). repeat_value n c v) twice ∙ repeat_joined n (2 ^ k) (2 ^ k) v

-- the same by the half that the top bit chooses
choice_of : (f : ℕ → ℕ) (t x y : ℕ) → ite_value t (f x) (f y) ≡ f (ite_value t x y)
choice_of f t x y = by (nat_eq t 1)
  where
    by : (b : Bool) → cond b (f x) (f y) ≡ f (cond b x y)
    by true = refl
    by false = refl

first_chosen : (f : ℕ → ℕ) (t x y z : ℕ) → ite_value t (f x) z ≡ ite_value t (f (ite_value t x y)) z
first_chosen f t x y z = by (nat_eq t 1)
  where
    by : (b : Bool) → cond b (f x) z ≡ cond b (f (cond b x y)) z
    by true = refl
    by false = refl

second_chosen : (f : ℕ → ℕ) (t x y z : ℕ) → ite_value t z (f y) ≡ ite_value t z (f (ite_value t x y))
second_chosen f t x y z = by (nat_eq t 1)
  where
    by : (b : Bool) → cond b z (f y) ≡ cond b z (f (cond b x y))
    by true = refl
    by false = refl

pub read_of_half : (k n a i : ℕ) → 1 ≤ n → i < 2 ^ (k + 1) → a < 2 ^ (2 ^ (k + 1) * n)
    → read_value n a i ≡ read_value n (ite_value (slice_value i k k) (slice_value a (2 ^ (k + 1) * n - 1) (2 ^ k * n)) (slice_value a (2 ^ k * n - 1) 0)) (i % 2 ^ k)
read_of_half k n a i h inside fits = read_by_halves k n a i h inside fits ∙ choice_of (λ w. read_value n w (i % 2 ^ k)) (slice_value i k k) (high_half k n a) (low_half k n a)

pub write_of_half : (k n a i v w : ℕ) → 1 ≤ n → i < 2 ^ (k + 1) → a < 2 ^ (2 ^ (k + 1) * n)
    → w ≡ write_value n (ite_value (slice_value i k k) (slice_value a (2 ^ (k + 1) * n - 1) (2 ^ k * n)) (slice_value a (2 ^ k * n - 1) 0)) (i % 2 ^ k) v
    → write_value n a i v ≡ concat_value (ite_value (slice_value i k k) w (slice_value a (2 ^ (k + 1) * n - 1) (2 ^ k * n))) (2 ^ k * n) (ite_value (slice_value i k k) (slice_value a (2 ^ k * n - 1) 0) w)
write_of_half k n a i v w h inside fits is =
    let t = slice_value i k k in
    let hi = high_half k n a in
    let lo = low_half k n a in
    let put : ℕ → ℕ = λ x. write_value n x (i % 2 ^ k) v in
    write_by_halves k n a i v h inside fits ∙ ap₂ (λ (x y : ℕ). concat_value x (2 ^ k * n) y) (first_chosen put t hi lo hi) (second_chosen put t hi lo lo)
    ∙ ap (λ (x : ℕ). concat_value (ite_value t x hi) (2 ^ k * n) (ite_value t lo x)) (sym is)

-- the index in a half, where an index of more than one bit is left
pub lower_index : (k i : ℕ) → 1 ≤ k → slice_value i (k - 1) 0 ≡ i % 2 ^ k
lower_index k i h =
    let bits : k - 1 - 0 + 1 ≡ k = omega arith in
    ap₂ (λ (w b : ℕ). w % 2 ^ b) (div-one i) bits

-- ---- arrays with the same cells are one word

lowest : (n a : ℕ) → read_value n a 0 ≡ a % 2 ^ n
lowest n a =
    let none : n * 0 ≡ 0 = omega arith in
    ap (λ (k : ℕ). a / 2 ^ k % 2 ^ n) none ∙ ap (λ (w : ℕ). w % 2 ^ n) (div-one a)

behind_lowest : (n a i : ℕ) → read_value n (a / 2 ^ n) i ≡ read_value n a (suc i)
behind_lowest n a i =
    let bits : n + n * i ≡ n * suc i = omega arith in
    ap (λ (w : ℕ). w % 2 ^ n) (shr-shr a n (n * i) ∙ ap (λ (k : ℕ). a / 2 ^ k) bits)

rest_below : (c n a : ℕ) → a < 2 ^ (suc c * n) → a / 2 ^ n < 2 ^ (c * n)
rest_below c n a h =
    let bits : suc c * n ≡ c * n + n = omega arith in
    (div-lt_iff_lt-mul (pow_pos n)).1 (subst (λ (m : ℕ). a < m) (ap (λ (m : ℕ). 2 ^ m) bits ∙ pow-add 2 (c * n) n) h)

pub cells_same : (c n a b : ℕ) → a < 2 ^ (c * n) → b < 2 ^ (c * n) → ((i : ℕ) → i < c → read_value n a i ≡ read_value n b i) → a ≡ b
cells_same zero n a b h k same =
    let none : 0 * n ≡ 0 = omega arith in
    let left : a < 1 = subst (λ (m : ℕ). a < 2 ^ m) none h in
    let right : b < 1 = subst (λ (m : ℕ). b < 2 ^ m) none k in
    omega arith
cells_same (suc c) n a b h k same =
    let low : a % 2 ^ n ≡ b % 2 ^ n = sym (lowest n a) ∙ same 0 (omega arith) ∙ lowest n b in
    let high : a / 2 ^ n ≡ b / 2 ^ n = cells_same c n (a / 2 ^ n) (b / 2 ^ n) (rest_below c n a h) (rest_below c n b k) (λ i inside. behind_lowest n a i ∙ same (suc i) (omega arith) ∙ sym (behind_lowest n b i)) in
    sym (shr_split a n) ∙ ap₂ (λ (x y : ℕ). x * 2 ^ n + y) high low ∙ shr_split b n

-- ---- cells as slices

pub cell_is_slice : (n a i : ℕ) → 1 ≤ n → read_value n a i ≡ slice_value a (n * i + n - 1) (n * i)
cell_is_slice n a i h =
    let bits : n ≡ n * i + n - 1 - n * i + 1 = omega arith in
    ap (λ (k : ℕ). a / 2 ^ (n * i) % 2 ^ k) bits

pub below_is_slice : (n a i : ℕ) → 1 ≤ n → 1 ≤ i → a % 2 ^ (n * i) ≡ slice_value a (n * i - 1) 0
below_is_slice n a i h k =
    let least : 1 ≤ n * i = grind arith in
    let bits : n * i ≡ n * i - 1 - 0 + 1 = omega (arith, least) in
    ap₂ (λ (w b : ℕ). w % 2 ^ b) (sym (div-one a)) bits

-- what is above a cell, which is not the last
pub above_is_slice : (c n a i : ℕ) → 1 ≤ n → i + 1 < c → a < 2 ^ (c * n) → a / 2 ^ (n * (i + 1)) ≡ slice_value a (c * n - 1) (n * (i + 1))
above_is_slice c n a i h k fits =
    let d = c - (i + 1) in
    let cells : c ≡ d + (i + 1) = omega arith in
    let size : c * n ≡ d * n + n * (i + 1) = ap (λ (m : ℕ). m * n) cells ∙ omega arith in
    let some : 1 ≤ d = omega arith in
    let least : 1 ≤ d * n = grind arith in
    let bits : c * n - 1 - n * (i + 1) + 1 ≡ d * n = omega (arith, size, least) in
    let inside : a / 2 ^ (n * (i + 1)) < 2 ^ (d * n) = (div-lt_iff_lt-mul (pow_pos (n * (i + 1)))).1 (subst (λ (m : ℕ). a < m) (ap (λ (m : ℕ). 2 ^ m) size ∙ pow-add 2 (d * n) (n * (i + 1))) fits) in
    sym (ap (λ (b : ℕ). a / 2 ^ (n * (i + 1)) % 2 ^ b) bits ∙ mod-eq_of_lt inside)
