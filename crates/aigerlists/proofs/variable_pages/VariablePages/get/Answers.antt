use Rattle.std.proofs.Common.{ap, ◌%◌}
use Rattle.aigerlists.specs.VariableNumbers.{in_page}
use Rattle.aigerlists.proofs.variable_pages.VariablePages.get.Goals as goal

pub returns-in-Some : goal.returns-in-Some
unfolding in_page
returns-in-Some c = ap (λ p. in_page p (c.args.variable % 16)) c.in-Some.ensures.value

pub returns-in-None : goal.returns-in-None
unfolding in_page
returns-in-None c = ap (λ p. in_page p (c.args.variable % 16)) c.in-None.ensures.value
