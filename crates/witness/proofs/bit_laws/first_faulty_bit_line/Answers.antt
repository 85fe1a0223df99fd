use Rattle.witness.proofs.BitReadLemmas.{beginning_before, no_beginning_with}
use Rattle.witness.proofs.bit_laws.first_faulty_bit_line.Goals as goal

pub returns : goal.returns
returns c = record { before = λ circuit text lines line behind is some. beginning_before circuit is some text lines line behind; with_it = no_beginning_with }
