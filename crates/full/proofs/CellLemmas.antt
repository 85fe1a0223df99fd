-- Cells of arrays: what they hold fits, what is read behind what is written, and arrays by their halves.
use Rattle.std.proofs.Common.{◌≡◌, ℕ, zero, suc, ◌+◌, ◌-◌, ◌*◌, ◌/◌, ◌%◌, ◌^◌, ◌<◌, sym, ap, ap₂, subst, ◌∙◌, ⊎_elim, pow_pos, arith}
use Rattle.std.proofs.Math.Nat.{mod-lt, mod-eq_of_lt, div-one, mod-one, div-eq_of_lt, div-lt_iff_lt-mul, mul-add-div_right}
use Rattle.std.proofs.Math.Pow.{mod-mod-pow}
use Rattle.std.proofs.lemmas.Nat.{pow-add, shr_high, shr-shr, mod_low, mod-pow-add}
use Rattle.std.proofs.lemmas.Bool.{cases_lt}
use Rattle.base.specs.Operator.{slice_value, concat_value}
use Rattle.base.proofs.ValueLaws.{concat_below}
use Rattle.full.specs.Cells.{read_value, write_value, repeat_value}

-- the word of a cell has its width
pub read_below : (n a i : ℕ) → read_value n a i < 2 ^ n
read_below n a i = mod-lt (a / 2 ^ (n * i)) (pow_pos n)

-- an array of so many cells stays one
write_within : (d n a i v : ℕ) → a < 2 ^ (d * n + n * (i + 1)) → v < 2 ^ n → write_value n a i v < 2 ^ (d * n + n + n * i)
write_within d n a i v h k =
    let parts : a < 2 ^ (d * n) * 2 ^ (n * (i + 1)) = subst (λ (m : ℕ). a < m) (pow-add 2 (d * n) (n * (i + 1))) h in
    let high : a / 2 ^ (n * (i + 1)) < 2 ^ (d * n) = (div-lt_iff_lt-mul (pow_pos (n * (i + 1)))).1 parts in
    concat_below (d * n + n) (n * i) (concat_value (a / 2 ^ (n * (i + 1))) n v) (a % 2 ^ (n * i)) (concat_below (d * n) n (a / 2 ^ (n * (i + 1))) v high k) (mod-lt a (pow_pos (n * i)))

pub write_below : (count n a i v : ℕ) → i < count → a < 2 ^ (count * n) → v < 2 ^ n → write_value n a i v < 2 ^ (count * n)
write_below count n a i v inside h k =
    let d = count - (i + 1) in
    let all : count ≡ d + (i + 1) = omega arith in
    let size : count * n ≡ d * n + n * (i + 1) = ap (λ (m : ℕ). m * n) all ∙ omega arith in
    let same : d * n + n + n * i ≡ count * n = sym (size ∙ omega arith) in
    subst (λ (m : ℕ). write_value n a i v < 2 ^ m) same (write_within d n a i v (subst (λ (m : ℕ). a < 2 ^ m) size h) k)

-- ---- bits of words side by side

-- bits below a cut
below_cut : (d n s a : ℕ) → a % 2 ^ (d + n + s) / 2 ^ s % 2 ^ n ≡ a / 2 ^ s % 2 ^ n
below_cut d n s a =
    let low : a % 2 ^ (d + n + s) / 2 ^ s ≡ a / 2 ^ s % 2 ^ (d + n) = ap (λ (w : ℕ). w / 2 ^ s) (mod-pow-add a (d + n) s) ∙ shr_high (a / 2 ^ s % 2 ^ (d + n)) s (a % 2 ^ s) (mod-lt a (pow_pos s)) in
    ap (λ (w : ℕ). w % 2 ^ n) low ∙ mod-mod-pow (a / 2 ^ s) d n

-- three words side by side
pub join_assoc : (a m b k c : ℕ) → concat_value (concat_value a m b) k c ≡ concat_value a (m + k) (concat_value b k c)
join_assoc a m b k c =
    let power = pow-add 2 m k in
    let product : a * 2 ^ (m + k) ≡ a * 2 ^ m * 2 ^ k = ap (λ (w : ℕ). a * w) power ∙ omega arith in
    omega (arith, product)

-- a word before another, from a bit of the other on
above_bit : (a d s b : ℕ) → concat_value a (d + s) b / 2 ^ s ≡ concat_value a d (b / 2 ^ s)
above_bit a d s b =
    let product : a * 2 ^ (d + s) ≡ a * 2 ^ d * 2 ^ s = ap (λ (w : ℕ). a * w) (pow-add 2 d s) ∙ omega arith in
    ap (λ (w : ℕ). (w + b) / 2 ^ s) product ∙ mul-add-div_right (pow_pos s) (a * 2 ^ d) b

-- its bits below a bit of the other
below_bit : (a d s b : ℕ) → b < 2 ^ (d + s) → concat_value a (d + s) b % 2 ^ s ≡ b % 2 ^ s
below_bit a d s b h = sym (mod-mod-pow (concat_value a (d + s) b) d s) ∙ ap (λ (w : ℕ). w % 2 ^ s) (mod_low a (d + s) b h)

-- ---- what is read behind what is written

pub written_is_read : (n a i v : ℕ) → v < 2 ^ n → read_value n (write_value n a i v) i ≡ v
written_is_read n a i v h =
    ap (λ (w : ℕ). w % 2 ^ n) (shr_high (concat_value (a / 2 ^ (n * (i + 1))) n v) (n * i) (a % 2 ^ (n * i)) (mod-lt a (pow_pos (n * i)))) ∙ mod_low (a / 2 ^ (n * (i + 1))) n v h

-- a cell below another is one of the word below that
cell_below : (e n j a : ℕ) → read_value n (a % 2 ^ (n * (j + 1 + e))) j ≡ read_value n a j
cell_below e n j a =
    let bits : n * (j + 1 + e) ≡ n * e + n + n * j = omega arith in
    ap (λ (k : ℕ). read_value n (a % 2 ^ k) j) bits ∙ below_cut (n * e) n (n * j) a

other_below : (e n a j v : ℕ) → read_value n (write_value n a (j + 1 + e) v) j ≡ read_value n a j
other_below e n a j v =
    let i = j + 1 + e in
    let rest = a % 2 ^ (n * i) in
    let low : write_value n a i v % 2 ^ (n * i) ≡ rest = mod_low (concat_value (a / 2 ^ (n * (i + 1))) n v) (n * i) rest (mod-lt a (pow_pos (n * i))) in
    sym (cell_below e n j (write_value n a i v)) ∙ ap (λ (w : ℕ). read_value n w j) low ∙ cell_below e n j a

other_above : (e n a i v : ℕ) → v < 2 ^ n → read_value n (write_value n a i v) (i + 1 + e) ≡ read_value n a (i + 1 + e)
other_above e n a i v h =
    let rest = a % 2 ^ (n * i) in
    let bits : n * (i + 1 + e) ≡ n * (i + 1) + n * e = omega arith in
    let own : n * (i + 1) ≡ n + n * i = omega arith in
    let low : concat_value v (n * i) rest < 2 ^ (n + n * i) = concat_below n (n * i) v rest h (mod-lt a (pow_pos (n * i))) in
    let high : write_value n a i v / 2 ^ (n * (i + 1)) ≡ a / 2 ^ (n * (i + 1)) =
    ap₂ (λ (w k : ℕ). w / 2 ^ k) (join_assoc (a / 2 ^ (n * (i + 1))) n v (n * i) rest) own ∙ shr_high (a / 2 ^ (n * (i + 1))) (n + n * i) (concat_value v (n * i) rest) low in
    let parts : (w : ℕ) → w / 2 ^ (n * (i + 1 + e)) ≡ w / 2 ^ (n * (i + 1)) / 2 ^ (n * e) = λ w. ap (λ (k : ℕ). w / 2 ^ k) bits ∙ sym (shr-shr w (n * (i + 1)) (n * e)) in
    ap (λ (w : ℕ). w % 2 ^ n) (parts (write_value n a i v) ∙ ap (λ (w : ℕ). w / 2 ^ (n * e)) high ∙ sym (parts a))

pub other_is_read_below : (n a i j v : ℕ) → j < i → read_value n (write_value n a i v) j ≡ read_value n a j
other_is_read_below n a i j v h = subst (λ (k : ℕ). read_value n (write_value n a k v) j ≡ read_value n a j) (omega arith) (other_below (i - (j + 1)) n a j v)

pub other_is_read_above : (n a i j v : ℕ) → v < 2 ^ n → i < j → read_value n (write_value n a i v) j ≡ read_value n a j
other_is_read_above n a i j v fits h = subst (λ (k : ℕ). read_value n (write_value n a i v) k ≡ read_value n a k) (omega arith) (other_above (j - (i + 1)) n a i v fits)

-- ---- an array before another of so many cells

pub read_low : (c n hi lo i : ℕ) → lo < 2 ^ (c * n) → i < c → read_value n (concat_value hi (c * n) lo) i ≡ read_value n lo i
read_low c n hi lo i h inside =
    let e = c - (i + 1) in
    let cells : c ≡ i + 1 + e = omega arith in
    let bits : c * n ≡ n * (i + 1 + e) = ap (λ (k : ℕ). k * n) cells ∙ omega arith in
    let whole : concat_value hi (c * n) lo % 2 ^ (c * n) ≡ lo = mod_low hi (c * n) lo h in
    sym (cell_below e n i (concat_value hi (c * n) lo)) ∙ ap (λ (k : ℕ). read_value n (concat_value hi (c * n) lo % 2 ^ k) i) (sym bits) ∙ ap (λ (w : ℕ). read_value n w i) whole

pub read_high : (c n hi lo j : ℕ) → lo < 2 ^ (c * n) → read_value n (concat_value hi (c * n) lo) (c + j) ≡ read_value n hi j
read_high c n hi lo j h =
    let bits : n * (c + j) ≡ c * n + n * j = omega arith in
    ap (λ (w : ℕ). w % 2 ^ n) (ap (λ (k : ℕ). concat_value hi (c * n) lo / 2 ^ k) bits ∙ sym (shr-shr (concat_value hi (c * n) lo) (c * n) (n * j)) ∙ ap (λ (w : ℕ). w / 2 ^ (n * j)) (shr_high hi (c * n) lo h))

write_low_at : (e n hi lo i v : ℕ) → lo < 2 ^ (n * e + n * (i + 1)) → write_value n (concat_value hi (n * e + n * (i + 1)) lo) i v ≡ concat_value hi (n * e + n * (i + 1)) (write_value n lo i v)
write_low_at e n hi lo i v h =
    let cut : n * e + n * (i + 1) ≡ n * e + n + n * i = omega arith in
    let above = above_bit hi (n * e) (n * (i + 1)) lo in
    let below : concat_value hi (n * e + n * (i + 1)) lo % 2 ^ (n * i) ≡ lo % 2 ^ (n * i) =
    ap (λ (k : ℕ). concat_value hi k lo % 2 ^ (n * i)) cut ∙ below_bit hi (n * e + n) (n * i) lo (subst (λ (k : ℕ). lo < 2 ^ k) cut h) in
    let parts : write_value n (concat_value hi (n * e + n * (i + 1)) lo) i v ≡ concat_value (concat_value (concat_value hi (n * e) (lo / 2 ^ (n * (i + 1)))) n v) (n * i) (lo % 2 ^ (n * i)) =
    ap₂ (λ (x y : ℕ). concat_value (concat_value x n v) (n * i) y) above below in
    parts ∙ ap (λ (x : ℕ). concat_value x (n * i) (lo % 2 ^ (n * i))) (join_assoc hi (n * e) (lo / 2 ^ (n * (i + 1))) n v)
    ∙ join_assoc hi (n * e + n) (concat_value (lo / 2 ^ (n * (i + 1))) n v) (n * i) (lo % 2 ^ (n * i)) ∙ ap (λ (k : ℕ). concat_value hi k (write_value n lo i v)) (sym cut)

pub write_low : (c n hi lo i v : ℕ) → lo < 2 ^ (c * n) → i < c → write_value n (concat_value hi (c * n) lo) i v ≡ concat_value hi (c * n) (write_value n lo i v)
write_low c n hi lo i v h inside =
    let e = c - (i + 1) in
    let cells : c ≡ e + (i + 1) = omega arith in
    let bits : n * e + n * (i + 1) ≡ c * n = sym (ap (λ (k : ℕ). k * n) cells ∙ omega arith) in
    subst (λ (k : ℕ). write_value n (concat_value hi k lo) i v ≡ concat_value hi k (write_value n lo i v)) bits (write_low_at e n hi lo i v (subst (λ (k : ℕ). lo < 2 ^ k) (sym bits) h))

pub write_high : (c n hi lo j v : ℕ) → lo < 2 ^ (c * n) → write_value n (concat_value hi (c * n) lo) (c + j) v ≡ concat_value (write_value n hi j v) (c * n) lo
write_high c n hi lo j v h =
    let a = concat_value hi (c * n) lo in
    let top : n * (c + j + 1) ≡ c * n + n * (j + 1) = omega arith in
    let cut : n * (c + j) ≡ n * j + c * n = omega arith in
    let above : a / 2 ^ (n * (c + j + 1)) ≡ hi / 2 ^ (n * (j + 1)) = ap (λ (k : ℕ). a / 2 ^ k) top ∙ sym (shr-shr a (c * n) (n * (j + 1))) ∙ ap (λ (w : ℕ). w / 2 ^ (n * (j + 1))) (shr_high hi (c * n) lo h) in
    let below : a % 2 ^ (n * j + c * n) ≡ concat_value (hi % 2 ^ (n * j)) (c * n) lo = mod-pow-add a (n * j) (c * n) ∙ ap₂ (λ (x y : ℕ). x % 2 ^ (n * j) * 2 ^ (c * n) + y) (shr_high hi (c * n) lo h) (mod_low hi (c * n) lo h) in
    ap (λ (k : ℕ). concat_value (concat_value (a / 2 ^ (n * (c + j + 1))) n v) k (a % 2 ^ k)) cut
    ∙ ap₂ (λ (x y : ℕ). concat_value (concat_value x n v) (n * j + c * n) y) above below
    ∙ sym (join_assoc (concat_value (hi / 2 ^ (n * (j + 1))) n v) (n * j) (hi % 2 ^ (n * j)) (c * n) lo)

-- ---- one word in all cells

pub repeat_below : (n c v : ℕ) → v < 2 ^ n → repeat_value n c v < 2 ^ (c * n)
repeat_below n zero v h = pow_pos (0 * n)
repeat_below n (suc c) v h =
    let bits : c * n + n ≡ suc c * n = omega arith in subst (λ (k : ℕ). repeat_value n (suc c) v < 2 ^ k) bits (concat_below (c * n) n (repeat_value n c v) v (repeat_below n c v h) h)

pub repeat_joined : (n c d v : ℕ) → repeat_value n (c + d) v ≡ concat_value (repeat_value n c v) (d * n) (repeat_value n d v)
repeat_joined n c zero v =
    let cells : c + 0 ≡ c = omega arith in
    let none : 0 * n ≡ 0 = omega arith in
    ap (λ (k : ℕ). repeat_value n k v) cells ∙ sym (ap (λ (k : ℕ). repeat_value n c v * 2 ^ k + 0) none ∙ omega arith)
repeat_joined n c (suc d) v =
    let cells : c + suc d ≡ suc (c + d) = omega arith in
    let bits : d * n + n ≡ suc d * n = omega arith in
    ap (λ (k : ℕ). repeat_value n k v) cells ∙ ap (λ (w : ℕ). concat_value w n v) (repeat_joined n c d v) ∙ join_assoc (repeat_value n c v) (d * n) (repeat_value n d v) n v
    ∙ ap (λ (k : ℕ). concat_value (repeat_value n c v) k (repeat_value n (suc d) v)) bits

pub repeat_one : (n v : ℕ) → repeat_value n 1 v ≡ v
repeat_one n v = omega arith

-- the lowest cell, and the one of an array of one
pub lowest_cell : (n hi v : ℕ) → v < 2 ^ n → read_value n (concat_value hi n v) 0 ≡ v
lowest_cell n hi v h =
    let none : n * 0 ≡ 0 = omega arith in
    ap (λ (k : ℕ). concat_value hi n v / 2 ^ k % 2 ^ n) none ∙ ap (λ (w : ℕ). w % 2 ^ n) (div-one (concat_value hi n v)) ∙ mod_low hi n v h

pub one_cell : (n a : ℕ) → a < 2 ^ n → read_value n a 0 ≡ a
one_cell n a h =
    let none : n * 0 ≡ 0 = omega arith in
    ap (λ (k : ℕ). a / 2 ^ k % 2 ^ n) none ∙ ap (λ (w : ℕ). w % 2 ^ n) (div-one a) ∙ mod-eq_of_lt h

pub one_cell_written : (n a v : ℕ) → a < 2 ^ n → write_value n a 0 v ≡ v
one_cell_written n a v h =
    let none : n * 0 ≡ 0 = omega arith in
    let one : n * (0 + 1) ≡ n = omega arith in
    let above : a / 2 ^ (n * (0 + 1)) ≡ 0 = ap (λ (k : ℕ). a / 2 ^ k) one ∙ div-eq_of_lt h in
    let below : a % 2 ^ 0 ≡ 0 = mod-one a in
    ap₂ (λ (x k : ℕ). concat_value (concat_value x n v) k (a % 2 ^ k)) above none ∙ ap (λ (y : ℕ). concat_value (concat_value 0 n v) 0 y) below ∙ omega arith

pub repeat_is_read : (n c i v : ℕ) → v < 2 ^ n → i < c → read_value n (repeat_value n c v) i ≡ v
repeat_is_read n c i v h inside =
    let e = c - (i + 1) in
    let cells : c ≡ suc e + i = omega arith in
    let place : i ≡ i + 0 = omega arith in
    let low : repeat_value n i v < 2 ^ (i * n) = repeat_below n i v h in
    let parts : repeat_value n c v ≡ concat_value (concat_value (repeat_value n e v) n v) (i * n) (repeat_value n i v) = ap (λ (k : ℕ). repeat_value n k v) cells ∙ repeat_joined n (suc e) i v in
    ap₂ (λ (w k : ℕ). read_value n w k) parts place ∙ read_high i n (concat_value (repeat_value n e v) n v) (repeat_value n i v) 0 low ∙ lowest_cell n (repeat_value n e v) v h

-- ---- by halves

-- an index of k + 1 bits by its top bit and those below
pub by_top : (P : ℕ → ℕ → Type 0) (k i : ℕ) → i < 2 ^ (k + 1) → (i < 2 ^ k → P 0 i) → ((j : ℕ) → i ≡ 2 ^ k + j → j < 2 ^ k → P 1 j) → P (slice_value i k k) (i % 2 ^ k)
by_top P k i h low high =
    ⊎_elim (λ below. subst (λ (t : ℕ). P t (i % 2 ^ k)) (sym (top 0 (div-eq_of_lt below) (omega arith))) (subst (λ (r : ℕ). P 0 r) (sym (mod-eq_of_lt below)) (low below)))
    (λ above.
    let j = i - 2 ^ k in
    let parts : i ≡ 1 * 2 ^ k + j = omega arith in
    let inside : j < 2 ^ k = omega (arith, twice) in
    let one : i / 2 ^ k ≡ 1 = ap (λ (w : ℕ). w / 2 ^ k) parts ∙ shr_high 1 k j inside in
    let rest : i % 2 ^ k ≡ j = ap (λ (w : ℕ). w % 2 ^ k) parts ∙ mod_low 1 k j inside in
    subst (λ (t : ℕ). P t (i % 2 ^ k)) (sym (top 1 one (omega arith))) (subst (λ (r : ℕ). P 1 r) (sym rest) (high j (omega arith) inside))) (cases_lt i (2 ^ k))
  where
    twice : 2 ^ (k + 1) ≡ 2 ^ k * 2 ^ 1
    twice = pow-add 2 k 1

    top : (t : ℕ) → i / 2 ^ k ≡ t → t < 2 → slice_value i k k ≡ t
    top t e small =
        let bit : k - k + 1 ≡ 1 = omega arith in
        ap₂ (λ (w b : ℕ). w % 2 ^ b) e bit ∙ mod-eq_of_lt small
