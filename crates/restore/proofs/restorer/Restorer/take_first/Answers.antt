use Rattle.base.proofs.PenLemmas.{writes_then}
use Rattle.std.proofs.Common.{subst}
use Rattle.base.specs.Writing.{WritesText}
use Rattle.witness.specs.BitTexts.{bit_line}
use Rattle.restore.specs.Plays.{Play, own_frame}
use Rattle.restore.specs.Putting.{lines_before}
use Rattle.restore.proofs.restorer.Restorer.take_first.Goals as goal

pub returns-clause-writes : goal.returns-clause-writes
returns-clause-writes g c =
    writes_then c.begin.ensures.writes
    (subst (λ (p : Play). WritesText g.K.Sink.written g.K.Sink.failures c.begin.new.sink c.play.new.sink c.begin.new.pen c.play.new.pen (g.W.Writer.put_for c.args.writer.now (lines_before p) (bit_line (own_frame p c.args.bits.now)))) c.begin.ensures.begins c.play.ensures.writes)
