use Rattle.std.proofs.Common.{refl}
use Rattle.aigerlists.specs.VariableNumbers.{in_page}
use Rattle.aigerlists.proofs.variable_pages.VariablePages.new.Goals as goal

pub returns : goal.returns
unfolding in_page
returns c = λ v. rw (c.new.ensures.empty) refl
