use Rattle.base.specs.Lines.{text_of_lines}
use Rattle.witness.proofs.BitReadLemmas.{admitted_is_beginning, beginning_is_admitted}
use Rattle.witness.proofs.bit_laws.admitted_lines_begin_bit_witnesses.Goals as goal

pub returns : goal.returns
returns c =
    record {
      exactly = λ circuit text is some ended few.
          (admitted_is_beginning circuit is some text ended few, λ begins. beginning_is_admitted circuit text (text_of_lines begins.more) begins.witness is begins.says);
      whatever_follows = beginning_is_admitted;
    }
