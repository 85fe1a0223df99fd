use Rattle.rises.proofs.bit_noter.BitNoterTakerUnit.take.Goals as goal

pub returns : goal.returns
returns c over text h = c.feed.ensures over.0 over.1 text h
