use Rattle.drup.proofs.JudgementLemmas.{one_judgement}
use Rattle.drup.proofs.laws.one_judgement.Goals as goal

pub returns : goal.returns
returns c = one_judgement
