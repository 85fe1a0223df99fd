-- The AND gates that an operator takes at most (the bounds of this project's profile), n the operands' width, from 1 to 64.
use Rattle.std.specs.Prelude.{ℕ, ◌+◌, ◌*◌, ◌^◌, nat_lt, [], ◌∷◌, count_by}
use Rattle.base.specs.declared.operators.Unary.{Unary}
use Rattle.base.specs.declared.operators.Unary.TheVariants as unary
use Rattle.base.specs.declared.operators.Binary.{Binary}
use Rattle.base.specs.declared.operators.Binary.TheVariants as binary
use Rattle.gates.specs.declared.bound.Op.{Op}
use Rattle.gates.specs.declared.bound.Op.TheVariants as op

-- the least k with 2 ^ k ≥ n, for n to 64: as many as there are powers of two below n
abbrev pub log_up : ℕ → ℕ
log_up n = count_by (λ k. nat_lt (2 ^ k) n) (0 ∷ 1 ∷ 2 ∷ 3 ∷ 4 ∷ 5 ∷ [])

-- the most gates of an operator of one operand
abbrev pub unary_bound : Unary → ℕ → ℕ
unary_bound unary.Not n = 0
unary_bound unary.Inc n = 9 * n
unary_bound unary.Dec n = 9 * n
unary_bound unary.Neg n = 9 * n
unary_bound unary.Redand n = n
unary_bound unary.Redor n = n
unary_bound unary.Redxor n = 3 * n

-- the most gates of an operator of two operands
abbrev pub binary_bound : Binary → ℕ → ℕ
binary_bound binary.Iff n = 3
binary_bound binary.Implies n = 1
binary_bound binary.Eq n = 4 * n
binary_bound binary.Neq n = 4 * n
binary_bound binary.Ugt n = 6 * n
binary_bound binary.Ugte n = 6 * n
binary_bound binary.Ult n = 6 * n
binary_bound binary.Ulte n = 6 * n
binary_bound binary.Sgt n = 6 * n
binary_bound binary.Sgte n = 6 * n
binary_bound binary.Slt n = 6 * n
binary_bound binary.Slte n = 6 * n
binary_bound binary.And n = n
binary_bound binary.Nand n = n
binary_bound binary.Or n = n
binary_bound binary.Nor n = n
binary_bound binary.Xor n = 3 * n
binary_bound binary.Xnor n = 3 * n
binary_bound binary.Rol n = 3 * (n * n)
binary_bound binary.Ror n = 3 * (n * n)
binary_bound binary.Sll n = 3 * (n * log_up n) + 4 * n
binary_bound binary.Srl n = 3 * (n * log_up n) + 4 * n
binary_bound binary.Sra n = 3 * (n * log_up n) + 4 * n
binary_bound binary.Add n = 9 * n
binary_bound binary.Sub n = 9 * n
binary_bound binary.Mul n = 10 * (n * n)
binary_bound binary.Udiv n = 12 * (n * n) + 12 * n
binary_bound binary.Sdiv n = 12 * (n * n) + 51 * n
binary_bound binary.Urem n = 12 * (n * n) + 12 * n
binary_bound binary.Srem n = 12 * (n * n) + 48 * n
binary_bound binary.Smod n = 12 * (n * n) + 63 * n
binary_bound binary.Uaddo n = 9 * n
binary_bound binary.Saddo n = 12 * n
binary_bound binary.Usubo n = 9 * n
binary_bound binary.Ssubo n = 12 * n
binary_bound binary.Umulo n = 40 * (n * n) + n
binary_bound binary.Smulo n = 40 * (n * n) + 4 * n
binary_bound binary.Sdivo n = 3 * n

-- the most gates of a choice between two words
abbrev pub ite_bound : ℕ → ℕ
ite_bound n = 3 * n

-- the most gates of any operator
abbrev pub operator_bound : Op → ℕ → ℕ
operator_bound (op.Unary o) n = unary_bound o n
operator_bound (op.Binary o) n = binary_bound o n
operator_bound op.Ite n = ite_bound n
