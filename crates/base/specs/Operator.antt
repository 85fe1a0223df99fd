-- What the word operators give, as formulas on whole numbers. Operands are words of width n.
-- Public sources: SMT-LIB, theory of fixed-size bit vectors, for arithmetic, comparisons, shifts and the divisions, a divisor of zero included;
-- "Btor2, BtorMC and Boolector 3.0", table of operators, for the names, reductions, rotations and overflow tests.
use Rattle.std.specs.Prelude.{ℕ, ◌+◌, ◌-◌, ◌*◌, ◌/◌, ◌%◌, ◌^◌, Bool, not, ◌&&◌, ◌||◌, ◌==◌, nat_lt, nat_le, pos, ◌+ℤ◌, ◌-ℤ◌, ◌*ℤ◌, int_lt, int_le, bit_and, bit_or, bit_xor, count_ones, if◌then◌else◌}
use Rattle.base.specs.declared.operators.Unary.{Unary}
use Rattle.base.specs.declared.operators.Unary.TheVariants as unary
use Rattle.base.specs.declared.operators.Binary.{Binary}
use Rattle.base.specs.declared.operators.Binary.TheVariants as binary
use Rattle.base.specs.Word.{bit_number}
use Rattle.base.specs.Signed.{signed, wrapped, truncated, floored, overflows}

-- the word of all ones
abbrev pub ones : ℕ → ℕ
ones n = 2 ^ n - 1

-- the word that an operator of one operand gives
abbrev pub unary_value : Unary → ℕ → ℕ → ℕ
unary_value unary.Not n a = ones n - a
unary_value unary.Inc n a = (a + 1) % 2 ^ n
unary_value unary.Dec n a = wrapped n (pos a -ℤ pos 1)
unary_value unary.Neg n a = wrapped n (pos 0 -ℤ pos a)
unary_value unary.Redand n a = bit_number (a == ones n)
unary_value unary.Redor n a = bit_number (not (a == 0))
unary_value unary.Redxor n a = count_ones a % 2

-- A rotation: the amount counts modulo the width. (How an amount of the width and above counts is this project's choice.)
abbrev pub rotated_left : ℕ → ℕ → ℕ → ℕ
rotated_left n a k = a * 2 ^ k % 2 ^ n + a / 2 ^ (n - k)

abbrev pub rotated_right : ℕ → ℕ → ℕ → ℕ
rotated_right n a k = a / 2 ^ k + a * 2 ^ (n - k) % 2 ^ n

-- Division of words as whole numbers: by zero the quotient is all ones and the remainder the dividend (SMT-LIB, `bvudiv`, `bvurem`).
abbrev pub udiv : ℕ → ℕ → ℕ → ℕ
udiv n a b = if b == 0 then ones n else a / b

abbrev pub urem : ℕ → ℕ → ℕ
urem a b = if b == 0 then a else a - b * (a / b)

-- Division of words as signed numbers. By zero the quotient is 1 for a negative dividend and else all ones, and both
-- remainders are the dividend; the quotient of the least number by -1 is the least number again, its word modulo 2 ^ n
-- (SMT-LIB, `bvsdiv`, `bvsrem` and `bvsmod`, whose definitions by `bvudiv` and `bvurem` say all of this).
abbrev pub sdiv : ℕ → ℕ → ℕ → ℕ
sdiv n a b =
    if b == 0 then (if int_lt (signed n a) (pos 0) then 1 else ones n)
    else wrapped n (truncated (signed n a) (signed n b))

abbrev pub srem : ℕ → ℕ → ℕ → ℕ
srem n a b = if b == 0 then a else wrapped n (signed n a -ℤ signed n b *ℤ truncated (signed n a) (signed n b))

abbrev pub smod : ℕ → ℕ → ℕ → ℕ
smod n a b = if b == 0 then a else wrapped n (signed n a -ℤ signed n b *ℤ floored (signed n a) (signed n b))

-- the one quotient that is no signed number of the width: that of the least number by -1 (SMT-LIB, `bvsdivo`)
abbrev pub sdiv_overflows : ℕ → ℕ → ℕ → Bool
sdiv_overflows n a b = (a == 2 ^ (n - 1)) && (b == ones n)

-- the word that an operator of two operands gives
abbrev pub binary_value : Binary → ℕ → ℕ → ℕ → ℕ
binary_value binary.Iff n a b = bit_number (a == b)
binary_value binary.Implies n a b = bit_number ((a == 0) || (b == 1))
binary_value binary.Eq n a b = bit_number (a == b)
binary_value binary.Neq n a b = bit_number (not (a == b))
binary_value binary.Ugt n a b = bit_number (nat_lt b a)
binary_value binary.Ugte n a b = bit_number (nat_le b a)
binary_value binary.Ult n a b = bit_number (nat_lt a b)
binary_value binary.Ulte n a b = bit_number (nat_le a b)
binary_value binary.Sgt n a b = bit_number (int_lt (signed n b) (signed n a))
binary_value binary.Sgte n a b = bit_number (int_le (signed n b) (signed n a))
binary_value binary.Slt n a b = bit_number (int_lt (signed n a) (signed n b))
binary_value binary.Slte n a b = bit_number (int_le (signed n a) (signed n b))
binary_value binary.And n a b = bit_and a b
binary_value binary.Nand n a b = ones n - bit_and a b
binary_value binary.Or n a b = bit_or a b
binary_value binary.Nor n a b = ones n - bit_or a b
binary_value binary.Xor n a b = bit_xor a b
binary_value binary.Xnor n a b = ones n - bit_xor a b
binary_value binary.Rol n a b = rotated_left n a (b % n)
binary_value binary.Ror n a b = rotated_right n a (b % n)
binary_value binary.Sll n a b = a * 2 ^ b % 2 ^ n
binary_value binary.Srl n a b = a / 2 ^ b
binary_value binary.Sra n a b = wrapped n (floored (signed n a) (pos (2 ^ b)))
binary_value binary.Add n a b = (a + b) % 2 ^ n
binary_value binary.Sub n a b = wrapped n (pos a -ℤ pos b)
binary_value binary.Mul n a b = a * b % 2 ^ n
binary_value binary.Udiv n a b = udiv n a b
binary_value binary.Sdiv n a b = sdiv n a b
binary_value binary.Urem n a b = urem a b
binary_value binary.Srem n a b = srem n a b
binary_value binary.Smod n a b = smod n a b
binary_value binary.Uaddo n a b = bit_number (nat_le (2 ^ n) (a + b))
binary_value binary.Saddo n a b = bit_number (overflows n (signed n a +ℤ signed n b))
binary_value binary.Usubo n a b = bit_number (nat_lt a b)
binary_value binary.Ssubo n a b = bit_number (overflows n (signed n a -ℤ signed n b))
binary_value binary.Umulo n a b = bit_number (nat_le (2 ^ n) (a * b))
binary_value binary.Smulo n a b = bit_number (overflows n (signed n a *ℤ signed n b))
binary_value binary.Sdivo n a b = bit_number (sdiv_overflows n a b)

-- the word that a choice gives: the first where the condition is 1, else the second
abbrev pub ite_value : ℕ → ℕ → ℕ → ℕ
ite_value c t e = if c == 1 then t else e

-- the bits u down to l of a word, both included
abbrev pub slice_value : ℕ → ℕ → ℕ → ℕ
slice_value a u l = a / 2 ^ l % 2 ^ (u - l + 1)

-- a word of width n made wider by so many bits, which are 0 or, for a signed number, its sign
abbrev pub uext_value : ℕ → ℕ
uext_value a = a

abbrev pub sext_value : ℕ → ℕ → ℕ → ℕ
sext_value n a by = wrapped (n + by) (signed n a)

-- a word before another of width m, the first the high side
abbrev pub concat_value : ℕ → ℕ → ℕ → ℕ
concat_value a m b = a * 2 ^ m + b
