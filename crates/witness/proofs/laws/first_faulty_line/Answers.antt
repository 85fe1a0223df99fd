use Rattle.witness.specs.Texts.{shape_of}
use Rattle.witness.proofs.ReadTextLemmas.{beginning_before, no_beginning_with}
use Rattle.witness.proofs.FitLemmas.{shape_is_small}
use Rattle.witness.proofs.laws.first_faulty_line.Goals as goal

pub returns : goal.returns
returns c =
    record {
      before = λ items text lines line behind well some. beginning_before (shape_of items) (shape_is_small items well) some text lines line behind;
      with_it = λ items text lines line behind further w well. no_beginning_with (shape_of items) text lines line behind further w (shape_is_small items well);
    }
