use Rattle.verbs.proofs.WholeLemmas.{never_refused}
use Rattle.verbs.proofs.unfitting.spread_by_words.Goals as goal

pub returns-clause-refused : goal.returns-clause-refused
returns-clause-refused g c = never_refused c.spread_ready.result _ c.spread_ready.ensures.refused
