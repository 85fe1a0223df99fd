use Rattle.std.proofs.Common.{length, ap, arith}
use Rattle.aigerlists.proofs.NumbersLemmas.{empty_from_test, length_joined, next_in_turn}
use Rattle.aigerlists.proofs.numbers.Numbers.push.Goals as goal

pub overflow_add-self-inside : goal.overflow_add-self-inside
overflow_add-self-inside c = omega (arith, c.requires.few, ap length c.self.view_is, length_joined c.self.inside.in_turn c.self.inside.variables.items)

pub returns-then-variable-self : goal.returns-then-variable-self
returns-then-variable-self c =
    next_in_turn c.args.variable c.self.inside.in_turn c.self.inside.variables.items c.args.self.now c.self.view_is (omega (arith, empty_from_test _ c.if-is_empty.ensures)) c.if-variable-self.true
