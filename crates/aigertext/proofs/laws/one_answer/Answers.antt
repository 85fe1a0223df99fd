use Rattle.aigertext.proofs.OneAnswerLemmas.{one_answer, some_answer}
use Rattle.aigertext.proofs.laws.one_answer.Goals as goal

pub returns-clause-exists : goal.returns-clause-exists
returns-clause-exists c = some_answer c.one_renumbering.ensures.either

pub returns-clause-unique : goal.returns-clause-unique
returns-clause-unique c = one_answer c.one_renumbering.ensures.unique c.one_renumbering.ensures.no_cycle
