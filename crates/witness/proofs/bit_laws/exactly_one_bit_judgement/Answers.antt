use Rattle.witness.proofs.BitOneJudgement.{some_bit_judgement, same_bit_judgement}
use Rattle.witness.proofs.bit_laws.exactly_one_bit_judgement.Goals as goal

pub returns : goal.returns
returns c = record { exists = some_bit_judgement; unique = same_bit_judgement }
