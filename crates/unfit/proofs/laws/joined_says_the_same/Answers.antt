use Rattle.unfit.proofs.WitnessLemmas.{joined_alike}
use Rattle.unfit.proofs.laws.joined_says_the_same.Goals as goal

pub returns : goal.returns
returns c wide narrow fit w v shape valid = joined_alike wide narrow fit w shape v valid
