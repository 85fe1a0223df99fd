use Rattle.unfit.proofs.WitnessLemmas.{joined_valid}
use Rattle.unfit.proofs.laws.joined_is_a_witness.Goals as goal

pub returns : goal.returns
returns c wide narrow w v fit shape valid = joined_valid wide narrow fit w shape v valid
