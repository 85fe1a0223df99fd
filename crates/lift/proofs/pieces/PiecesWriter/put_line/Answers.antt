use Rattle.std.proofs.Common.{arith}
use Rattle.base.proofs.PenLemmas.{writes_none}
use Rattle.lift.proofs.PutLemmas.{put_known, put_past}
use Rattle.lift.proofs.pieces.PiecesWriter.put_line.Goals as goal

pub returns-then-number-lt-MOST_LINES : goal.returns-then-number-lt-MOST_LINES
returns-then-number-lt-MOST_LINES g c = rw (put_known c.args.self.now c.args.number c.args.line.now (omega (arith, c.if-number-lt-MOST_LINES.true))) c.put.ensures

pub returns-else-number-lt-MOST_LINES : goal.returns-else-number-lt-MOST_LINES
returns-else-number-lt-MOST_LINES g c = rw (put_past c.args.self.now c.args.number c.args.line.now (omega (arith, c.if-number-lt-MOST_LINES.false))) writes_none
