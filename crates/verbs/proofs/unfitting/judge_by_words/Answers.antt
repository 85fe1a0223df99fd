use Rattle.verbs.proofs.WholeLemmas.{never_refused}
use Rattle.verbs.proofs.unfitting.judge_by_words.Goals as goal

pub returns-clause-refused : goal.returns-clause-refused
returns-clause-refused g c = never_refused c.judge_ready.result _ c.judge_ready.ensures.refused
