use Rattle.std.proofs.Common.{drop, map}
use Rattle.base.proofs.PenLemmas.{Writing}
use Rattle.vcd.specs.Names.{title_byte, title_bytes}
use Rattle.vcd.proofs.names.put_title.Given as goal

abbrev pub invariant-loop-byte : goal.invariant-loop-byte
invariant-loop-byte g l = Writing g.K.Sink.written g.K.Sink.failures l.initial.sink l.sink l.initial.pen l.pen (title_bytes l.title) (map title_byte (drop l.byte-index l.title))
