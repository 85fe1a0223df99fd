use Rattle.fullmodel.proofs.PlainLemmas.{plain_are_accepted}
use Rattle.fullmodel.proofs.laws.wide_models_are_accepted.Goals as goal

pub returns : goal.returns
returns c = plain_are_accepted
