-- What is asked of words, node by node.
use Rattle.std.specs.Prelude.{ℕ, Bool, true, false}
use Rattle.base.specs.declared.operators.Unary.TheVariants as unary
use Rattle.base.specs.declared.operators.Binary.{Binary}
use Rattle.base.specs.declared.operators.Binary.TheVariants as binary
use Rattle.base.specs.Operator.{unary_value, binary_value}
use Rattle.pieces.specs.declared.tests.Test.{Test}
use Rattle.pieces.specs.declared.tests.Test.TheVariants as test

-- the answer for two words of a width
abbrev pub test_value : Test → ℕ → ℕ → ℕ → ℕ
test_value test.Same n x y = binary_value binary.Eq n x y
test_value test.Other n x y = binary_value binary.Neq n x y
test_value test.All n x y = unary_value unary.Redand n x
test_value test.Any n x y = unary_value unary.Redor n x
test_value test.Odd n x y = unary_value unary.Redxor n x

-- what joins the answers of parts
abbrev pub join_of : Test → Binary
join_of test.Same = binary.And
join_of test.Other = binary.Or
join_of test.All = binary.And
join_of test.Any = binary.Or
join_of test.Odd = binary.Xor

-- The tests of a difference or a sum whose answer goes by the highest nodes, with a bit behind them that says what those below give: whether
-- these are less, or their carry out.
abbrev pub is_of_difference : Binary → Bool
is_of_difference binary.Ult = true
is_of_difference binary.Slt = true
is_of_difference binary.Ssubo = true
is_of_difference _ = false

abbrev pub is_of_sum : Binary → Bool
is_of_sum binary.Uaddo = true
is_of_sum binary.Saddo = true
is_of_sum _ = false
