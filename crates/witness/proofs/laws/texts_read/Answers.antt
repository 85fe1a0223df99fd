use Rattle.std.proofs.Common.{refl}
use Rattle.witness.specs.Texts.{shape_of}
use Rattle.witness.proofs.FitLemmas.{shape_is_small}
use Rattle.witness.proofs.ReadLemmas.{all_read, says_read}
use Rattle.witness.proofs.ReadTextLemmas.{read_says}
use Rattle.witness.proofs.laws.texts_read.Goals as goal

pub returns : goal.returns
returns c =
    record {
      read = λ items text w well says. (all_read w, (says_read (shape_of items) text w (shape_is_small items well) says, refl));
      said = λ items text r well. read_says (shape_of items) text r (shape_is_small items well);
    }
