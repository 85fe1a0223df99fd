use Rattle.witness.proofs.OneJudgement.{some_judgement, same_judgement}
use Rattle.witness.proofs.laws.exactly_one_judgement.Goals as goal

pub returns : goal.returns
returns c = record { exists = some_judgement; unique = same_judgement }
