use Rattle.verbs.proofs.WholeLemmas.{never_refused, unfitted_words}
use Rattle.verbs.proofs.unfitting.unfit_by_words.Goals as goal

pub returns-clause-refused : goal.returns-clause-refused
returns-clause-refused g c = never_refused c.unfit_ready.result _ c.unfit_ready.ensures.refused

pub returns-clause-unfitted : goal.returns-clause-unfitted
returns-clause-unfitted g c = unfitted_words c.args.named c.unfit_ready.result _ _ _ _ _ c.unfit_ready.ensures.unfitted
