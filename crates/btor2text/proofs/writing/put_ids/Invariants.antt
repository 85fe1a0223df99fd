use Rattle.std.proofs.Common.{drop, map, decimal}
use Rattle.base.proofs.PenLemmas.{Writing}
use Rattle.btor2text.specs.Writing.{behind_spaces}
use Rattle.btor2text.proofs.writing.put_ids.Given as goal

abbrev pub invariant-loop-id : goal.invariant-loop-id
invariant-loop-id g l = Writing g.K.Sink.written g.K.Sink.failures l.initial.sink l.sink l.initial.pen l.pen (behind_spaces (map decimal l.ids)) (behind_spaces (map decimal (drop l.id-index l.ids)))
