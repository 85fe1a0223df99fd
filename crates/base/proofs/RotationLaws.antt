-- Rotations put the low part of a word before the high one.
use Rattle.std.proofs.Common.{◌≡◌, ℕ, ◌+◌, ◌-◌, ◌*◌, ◌/◌, ◌%◌, ◌^◌, ◌<◌, ◌≤◌, sym, ap, ⊎_elim, ◌∙◌, arith}
use Rattle.std.proofs.Math.Nat.{mod-lt, mod-eq_of_lt, mod-eq-sub-mod, add-mod-mod, div-add-mod', mul-lt-mul_of_pos_right, add_comm}
use Rattle.std.proofs.lemmas.Bool.{cases_lt}
use Rattle.std.proofs.lemmas.Nat.Bits.{bit_at_cat_low, bit_at_cat_high}
use Rattle.std.proofs.lemmas.Nat.{pow_pos, pow-add, mul-add-lt, div-mul-add, mod-mul-add, div_below}
use Rattle.base.specs.declared.operators.Binary.TheVariants as binary
use Rattle.base.specs.Word.{bit}
use Rattle.base.specs.Operator.{binary_value, rotated_left, rotated_right}

-- the part of a below q, before the part above
abbrev exchanged : ℕ → ℕ → ℕ → ℕ
exchanged p q a = a % q * p + a / q

-- a times p modulo m is the low part, times p
low_part : (a p q m : ℕ) → 0 < p → 0 < q → m ≡ q * p → a * p % m ≡ a % q * p
low_part a p q m h k e =
    let parts : a * p ≡ a / q * (q * p) + a % q * p = omega (arith, ap (λ x. x * p) (div-add-mod' a q)) in
    rw (e, parts) (mod-mul-add (a / q) (q * p) (a % q * p) (mul-lt-mul_of_pos_right (mod-lt a k) h))

high_below : (a p q m : ℕ) → 0 < q → m ≡ q * p → a < m → a / q < p
high_below a p q m h e k = div_below a q p h (omega arith)

exchanged_below : (a p q m : ℕ) → 0 < q → m ≡ q * p → a < m → exchanged p q a < m
exchanged_below a p q m h e k = omega (arith, mul-add-lt (a % q) p (a / q) q (mod-lt a h) (high_below a p q m h e k))

-- the parts put back
exchanged_twice : (a p q m : ℕ) → 0 < q → m ≡ q * p → a < m → exchanged q p (exchanged p q a) ≡ a
exchanged_twice a p q m h e k =
    let high = high_below a p q m h e k in
    rw (mod-mul-add (a % q) p (a / q) high, div-mul-add (a % q) p (a / q) high) (div-add-mod' a q)

-- rotations by an amount up to the width
pub powers : (n k : ℕ) → k ≤ n → 2 ^ n ≡ 2 ^ (n - k) * 2 ^ k
powers n k h = let e : n - k + k ≡ n = omega arith in sym (ap (λ j. 2 ^ j) e) ∙ pow-add 2 (n - k) k

pub powers_commuted : (n k : ℕ) → k ≤ n → 2 ^ n ≡ 2 ^ k * 2 ^ (n - k)
powers_commuted n k h = omega (arith, powers n k h)

left_is : (n a k : ℕ) → k ≤ n → rotated_left n a k ≡ exchanged (2 ^ k) (2 ^ (n - k)) a
left_is n a k h = rw (low_part a (2 ^ k) (2 ^ (n - k)) (2 ^ n) (pow_pos k) (pow_pos (n - k)) (powers n k h))

right_is : (n a k : ℕ) → k ≤ n → rotated_right n a k ≡ exchanged (2 ^ (n - k)) (2 ^ k) a
right_is n a k h = rw (low_part a (2 ^ (n - k)) (2 ^ k) (2 ^ n) (pow_pos (n - k)) (pow_pos k) (powers_commuted n k h)) (add_comm _ _)

-- a rotation gives a word
pub rotated_left_below : (n a k : ℕ) → k ≤ n → a < 2 ^ n → rotated_left n a k < 2 ^ n
rotated_left_below n a k h p = rw (left_is n a k h) (exchanged_below a (2 ^ k) (2 ^ (n - k)) (2 ^ n) (pow_pos (n - k)) (powers n k h) p)

pub rotated_right_below : (n a k : ℕ) → k ≤ n → a < 2 ^ n → rotated_right n a k < 2 ^ n
rotated_right_below n a k h p = rw (right_is n a k h) (exchanged_below a (2 ^ (n - k)) (2 ^ k) (2 ^ n) (pow_pos k) (powers_commuted n k h) p)

-- each rotation undoes the other
pub ror_rol : (n a b : ℕ) → 1 ≤ n → a < 2 ^ n → binary_value binary.Ror n (binary_value binary.Rol n a b) b ≡ a
ror_rol n a b h p =
    let k : b % n ≤ n = omega arith in
    right_is n _ (b % n) k ∙ ap (exchanged (2 ^ (n - b % n)) (2 ^ (b % n))) (left_is n a (b % n) k)
    ∙ exchanged_twice a (2 ^ (b % n)) (2 ^ (n - b % n)) (2 ^ n) (pow_pos (n - b % n)) (powers n (b % n) k) p

pub rol_ror : (n a b : ℕ) → 1 ≤ n → a < 2 ^ n → binary_value binary.Rol n (binary_value binary.Ror n a b) b ≡ a
rol_ror n a b h p =
    let k : b % n ≤ n = omega arith in
    left_is n _ (b % n) k ∙ ap (exchanged (2 ^ (b % n)) (2 ^ (n - b % n))) (right_is n a (b % n) k)
    ∙ exchanged_twice a (2 ^ (n - b % n)) (2 ^ (b % n)) (2 ^ n) (pow_pos (b % n)) (powers_commuted n (b % n) k) p

-- the bit at place i goes to the place above by the amount, modulo the width
low_bit : (a k w i : ℕ) → a / 2 ^ w < 2 ^ k → i < w → bit (exchanged (2 ^ k) (2 ^ w) a) (i + k) ≡ bit a i
low_bit a k w i h p =
    bit_at_cat_high (a % 2 ^ w) k (a / 2 ^ w) (i + k) h (omega arith) ∙ ap (bit (a % 2 ^ w)) (omega arith)
    ∙ sym (bit_at_cat_low (a / 2 ^ w) w (a % 2 ^ w) i p) ∙ ap (λ x. bit x i) (div-add-mod' a (2 ^ w))

high_bit : (a k w i : ℕ) → w ≤ i → i < w + k → bit (exchanged (2 ^ k) (2 ^ w) a) (i - w) ≡ bit a i
high_bit a k w i p q =
    bit_at_cat_low (a % 2 ^ w) k (a / 2 ^ w) (i - w) (omega arith)
    ∙ sym (bit_at_cat_high (a / 2 ^ w) w (a % 2 ^ w) i (mod-lt a (pow_pos w)) p) ∙ ap (λ x. bit x i) (div-add-mod' a (2 ^ w))

pub rol_bit : (n a b i : ℕ) → a < 2 ^ n → i < n → bit (binary_value binary.Rol n a b) ((i + b) % n) ≡ bit a i
rol_bit n a b i p q =
    let k : b % n ≤ n = omega arith in
    let parts = left_is n a (b % n) k in
    let high = high_below a (2 ^ (b % n)) (2 ^ (n - b % n)) (2 ^ n) (pow_pos (n - b % n)) (powers n (b % n) k) p in
    ⊎_elim
    (λ (h : i < n - b % n).
    let place : (i + b) % n ≡ i + b % n = sym (add-mod-mod i b n) ∙ mod-eq_of_lt (omega arith) in
    rw (parts, place) (low_bit a (b % n) (n - b % n) i high h))
    (λ (h : n - b % n ≤ i).
    let place : (i + b) % n ≡ i - (n - b % n) = sym (add-mod-mod i b n) ∙ mod-eq-sub-mod (omega arith) ∙ ap (λ x. x % n) (omega arith) ∙ mod-eq_of_lt (omega arith) in
    rw (parts, place) (high_bit a (b % n) (n - b % n) i h (omega arith)))
    (cases_lt i (n - b % n))

pub ror_bit : (n a b i : ℕ) → a < 2 ^ n → i < n → bit (binary_value binary.Ror n a b) i ≡ bit a ((i + b) % n)
ror_bit n a b i p q =
    let word = rotated_right_below n a (b % n) (omega arith) p in
    sym (rol_bit n (rotated_right n a (b % n)) b i word q) ∙ ap (λ x. bit x ((i + b) % n)) (rol_ror n a b (omega arith) p)
