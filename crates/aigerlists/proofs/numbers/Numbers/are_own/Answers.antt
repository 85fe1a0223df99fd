use Rattle.std.proofs.Common.{◌∙◌, sym, arith}
use Rattle.aigerlists.proofs.NumbersLemmas.{all_own, empty_from_test}
use Rattle.aigerlists.proofs.numbers.Numbers.are_own.Goals as goal

pub returns : goal.returns
returns c = λ own. all_own c.self.inside.in_turn c.self.inside.variables.items c.args.self.now c.self.view_is (omega (arith, empty_from_test _ (sym own ∙ c.is_empty.ensures)))
