use Rattle.wordings.proofs.OneOrder.{either, one_list}
use Rattle.wordings.proofs.laws.words_say_one_list.Goals as goal

pub returns-clause-list : goal.returns-clause-list
returns-clause-list c = one_list

pub returns-clause-no_order : goal.returns-clause-no_order
returns-clause-no_order c = either
