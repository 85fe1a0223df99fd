use Rattle.std.proofs.Common.{sym}
use Rattle.base.proofs.PenLemmas.{writes_none}
use Rattle.fulltext.proofs.WritingLemmas.{no_minus, some_minus}
use Rattle.fulltext.proofs.writing.put_minus.Goals as goal

pub returns-then-are_zeros : goal.returns-then-are_zeros
returns-then-are_zeros g c = rw (no_minus c.args.number.now (sym c.if-are_zeros.ensures)) writes_none

pub returns : goal.returns
returns g c = rw (some_minus c.args.number.now (sym c.if-are_zeros.ensures)) c.put.ensures
