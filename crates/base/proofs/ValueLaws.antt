-- What the operators give is a word of the operator's width.
use Rattle.std.proofs.Common.{◌≡◌, ℕ, ◌+◌, ◌-◌, ◌*◌, ◌/◌, ◌%◌, ◌^◌, ◌<◌, ◌≤◌, Bool, true, false, if◌then◌else◌, lit<, arith}
use Rattle.std.proofs.Math.Nat.{mod-lt, mod-eq_of_lt, div-one, div-le_self, pow-le-pow_right}
use Rattle.std.proofs.lemmas.Nat.{pow_pos, pow-add, mul-add-lt, shr_high, mod_low, and_le_l, or_lt, xor_lt}
use Rattle.base.specs.declared.operators.Unary.{Unary}
use Rattle.base.specs.declared.operators.Unary.TheVariants as unary
use Rattle.base.specs.declared.operators.Binary.{Binary}
use Rattle.base.specs.declared.operators.Binary.TheVariants as binary
use Rattle.base.specs.Operator.{ones, unary_value, binary_value, ite_value, slice_value, sext_value, concat_value}
use Rattle.base.specs.Signed.{signed}
use Rattle.base.specs.Widths.{unary_width, binary_width}
use Rattle.base.proofs.BitLemmas.{bit_number_small}
use Rattle.base.proofs.SignedLaws.{half, wrapped_below, wrapped_stands, overflows_in, overflows_out, signed_fits}
use Rattle.base.proofs.RotationLaws.{rotated_left_below, rotated_right_below}

-- a word of a width is one of each greater width
pub wider_below : (n a by : ℕ) → a < 2 ^ n → a < 2 ^ (n + by)
wider_below n a by h = let more : 2 ^ n ≤ 2 ^ (n + by) = pow-le-pow_right (lit< tt) (omega arith) in omega arith

pub sext_below : (n a by : ℕ) → sext_value n a by < 2 ^ (n + by)
sext_below n a by = wrapped_below (n + by) (signed n a)

-- and stands for the same number
pub sext_keeps : (n a by : ℕ) → 1 ≤ n → a < 2 ^ n → signed (n + by) (sext_value n a by) ≡ signed n a
sext_keeps n a by h p =
    let more : 2 ^ (n - 1) ≤ 2 ^ (n + by - 1) = pow-le-pow_right (lit< tt) (omega arith) in
    let bounds = overflows_out n (signed n a) (signed_fits n a h p) in
    wrapped_stands (n + by) (signed n a) (omega arith) (overflows_in (n + by) (signed n a) (omega arith) (omega arith))

-- two words side by side, and each of them
pub concat_below : (n m a b : ℕ) → a < 2 ^ n → b < 2 ^ m → concat_value a m b < 2 ^ (n + m)
concat_below n m a b h k = omega (arith, mul-add-lt a (2 ^ m) b (2 ^ n) h k, pow-add 2 n m)

pub slice_below : (a u l : ℕ) → slice_value a u l < 2 ^ (u - l + 1)
slice_below a u l = mod-lt (a / 2 ^ l) (pow_pos (u - l + 1))

pub high_slice : (n m a b : ℕ) → 1 ≤ n → a < 2 ^ n → b < 2 ^ m → slice_value (concat_value a m b) (n + m - 1) m ≡ a
high_slice n m a b h p q =
    let width : n + m - 1 - m + 1 ≡ n = omega arith in
    rw (width, shr_high a m b q) (mod-eq_of_lt p)

pub low_slice : (m a b : ℕ) → 1 ≤ m → b < 2 ^ m → slice_value (concat_value a m b) (m - 1) 0 ≡ b
low_slice m a b h q =
    let width : m - 1 - 0 + 1 ≡ m = omega arith in
    rw (width, div-one) (mod_low a m b q)

-- what a choice of two words gives
choice_below : (t : Bool) (x y m : ℕ) → x < m → y < m → (if t then x else y) < m
choice_below true x y m h k = h
choice_below false x y m h k = k

ones_below : (n : ℕ) → ones n < 2 ^ n
ones_below n = omega (arith, pow_pos n)

pub ite_below : (n c t e : ℕ) → t < 2 ^ n → e < 2 ^ n → ite_value c t e < 2 ^ n
ite_below n c t e h k = choice_below _ _ _ _ h k

pub unary_below : (op : Unary) (n a : ℕ) → 1 ≤ n → a < 2 ^ n → unary_value op n a < 2 ^ unary_width op n
unary_below unary.Not n a h p = omega (arith, pow_pos n)
unary_below unary.Inc n a h p = mod-lt (a + 1) (pow_pos n)
unary_below unary.Dec n a h p = wrapped_below n _
unary_below unary.Neg n a h p = wrapped_below n _
unary_below unary.Redxor n a h p = omega arith
unary_below _ n a h p = bit_number_small _

pub binary_below : (op : Binary) (n a b : ℕ) → 1 ≤ n → a < 2 ^ n → b < 2 ^ n → binary_value op n a b < 2 ^ binary_width op n
binary_below binary.And n a b h p q = omega (arith, and_le_l a b)
binary_below binary.Nand n a b h p q = omega (arith, pow_pos n)
binary_below binary.Or n a b h p q = or_lt n a b p q
binary_below binary.Nor n a b h p q = omega (arith, pow_pos n)
binary_below binary.Xor n a b h p q = xor_lt n a b p q
binary_below binary.Xnor n a b h p q = omega (arith, pow_pos n)
binary_below binary.Rol n a b h p q = rotated_left_below n a (b % n) (omega arith) p
binary_below binary.Ror n a b h p q = rotated_right_below n a (b % n) (omega arith) p
binary_below binary.Sll n a b h p q = mod-lt (a * 2 ^ b) (pow_pos n)
binary_below binary.Srl n a b h p q = omega (arith, div-le_self a (2 ^ b))
binary_below binary.Sra n a b h p q = wrapped_below n _
binary_below binary.Add n a b h p q = mod-lt (a + b) (pow_pos n)
binary_below binary.Sub n a b h p q = wrapped_below n _
binary_below binary.Mul n a b h p q = mod-lt (a * b) (pow_pos n)
binary_below binary.Udiv n a b h p q =
    let quotient : a / b < 2 ^ n = omega (arith, div-le_self a b) in choice_below _ _ _ _ (ones_below n) quotient
binary_below binary.Urem n a b h p q = let rest : a - b * (a / b) < 2 ^ n = omega arith in choice_below _ _ _ _ p rest
binary_below binary.Sdiv n a b h p q =
    let one : 1 < 2 ^ n = omega (arith, half n h, pow_pos (n - 1)) in
    choice_below _ _ _ _ (choice_below _ _ _ _ one (ones_below n)) (wrapped_below n _)
binary_below binary.Srem n a b h p q = choice_below _ _ _ _ p (wrapped_below n _)
binary_below binary.Smod n a b h p q = choice_below _ _ _ _ p (wrapped_below n _)
binary_below _ n a b h p q = bit_number_small _
