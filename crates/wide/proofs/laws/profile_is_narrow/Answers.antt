use Rattle.wide.proofs.LawLemmas.{same_refusal, models_are}
use Rattle.wide.proofs.laws.profile_is_narrow.Goals as goal

pub returns-clause-refused : goal.returns-clause-refused
returns-clause-refused c = same_refusal

pub returns-clause-models : goal.returns-clause-models
returns-clause-models c = models_are
