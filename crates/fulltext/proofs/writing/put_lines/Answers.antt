use Rattle.std.proofs.Common.{arith}
use Rattle.base.proofs.PenLemmas.{write_more}
use Rattle.fulltext.proofs.WritingLemmas.{lines_at}
use Rattle.fulltext.proofs.writing.put_lines.Goals as goal

pub loop-line-preserved : goal.loop-line-preserved
loop-line-preserved g c = write_more c.loop-line.invariant c.put_line.ensures (lines_at c.loop-line.line-index c.args.lines.now _ _ (omega arith) c.line-item.is)
