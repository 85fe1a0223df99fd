-- The widths of what the operators give for operands of width n ("Btor2, BtorMC and Boolector 3.0", table of operators).
use Rattle.std.specs.Prelude.{ℕ, Bool, true, false, if◌then◌else◌}
use Rattle.base.specs.declared.operators.Unary.{Unary}
use Rattle.base.specs.declared.operators.Unary.TheVariants as unary
use Rattle.base.specs.declared.operators.Binary.{Binary}
use Rattle.base.specs.declared.operators.Binary.TheVariants as binary

-- the reductions, which give one bit
abbrev pub is_reduction : Unary → Bool
is_reduction unary.Redand = true
is_reduction unary.Redor = true
is_reduction unary.Redxor = true
is_reduction _ = false

-- the operators that only take single bits
abbrev pub is_of_bits : Binary → Bool
is_of_bits binary.Iff = true
is_of_bits binary.Implies = true
is_of_bits _ = false

-- the tests, which give one bit: those of single bits, the comparisons and the overflow tests
abbrev pub is_test : Binary → Bool
is_test binary.Iff = true
is_test binary.Implies = true
is_test binary.Eq = true
is_test binary.Neq = true
is_test binary.Ugt = true
is_test binary.Ugte = true
is_test binary.Ult = true
is_test binary.Ulte = true
is_test binary.Sgt = true
is_test binary.Sgte = true
is_test binary.Slt = true
is_test binary.Slte = true
is_test binary.Uaddo = true
is_test binary.Saddo = true
is_test binary.Usubo = true
is_test binary.Ssubo = true
is_test binary.Umulo = true
is_test binary.Smulo = true
is_test binary.Sdivo = true
is_test _ = false

-- the width of what an operator of one operand gives
abbrev pub unary_width : Unary → ℕ → ℕ
unary_width op n = if is_reduction op then 1 else n

-- the width of what an operator of two operands gives
abbrev pub binary_width : Binary → ℕ → ℕ
binary_width op n = if is_test op then 1 else n
