use Rattle.base.specs.Lines.{text_of_lines}
use Rattle.witness.specs.Texts.{shape_of}
use Rattle.witness.proofs.ReadTextLemmas.{admitted_is_beginning, beginning_is_admitted}
use Rattle.witness.proofs.FitLemmas.{shape_is_small}
use Rattle.witness.proofs.laws.admitted_lines_begin_witnesses.Goals as goal

pub returns : goal.returns
returns c =
    record {
      exactly = λ items text well some ended few.
          let small = shape_is_small items well in
          (admitted_is_beginning (shape_of items) small some text ended few, λ begins. beginning_is_admitted (shape_of items) text (text_of_lines begins.more) begins.witness small begins.says);
      whatever_follows = λ items text further w well. beginning_is_admitted (shape_of items) text further w (shape_is_small items well);
    }
