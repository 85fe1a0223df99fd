use Rattle.witness.specs.Texts.{shape_of}
use Rattle.witness.proofs.FitLemmas.{shape_is_small}
use Rattle.witness.proofs.ReadTextLemmas.{says_one}
use Rattle.witness.proofs.laws.one_reading.Goals as goal

pub returns : goal.returns
returns c items text w v well first second = says_one (shape_of items) text w v (shape_is_small items well) first second
