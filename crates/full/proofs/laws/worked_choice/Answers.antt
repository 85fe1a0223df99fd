use Rattle.full.proofs.WrittenLemmas.{choice_gives, choice_is_no_wider}
use Rattle.full.proofs.laws.worked_choice.Goals as goal

pub returns-clause-gives : goal.returns-clause-gives
returns-clause-gives c = choice_gives

pub returns-clause-no_wider : goal.returns-clause-no_wider
returns-clause-no_wider c = choice_is_no_wider
