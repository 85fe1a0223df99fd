use Rattle.std.proofs.Common.{drop}
use Rattle.base.proofs.PenLemmas.{Writing}
use Rattle.btor2text.specs.Writing.{written}
use Rattle.btor2text.proofs.writing.put_items.Given as goal

abbrev pub invariant-loop-item : goal.invariant-loop-item
invariant-loop-item g l = Writing g.K.Sink.written g.K.Sink.failures l.initial.sink l.sink l.initial.pen l.pen (written l.items) (written (drop l.item-index l.items))
