use Rattle.std.proofs.Common.{length}
use Rattle.cells.proofs.maker.ListMaker.+write_where.Given as goal

abbrev pub decreases-write_where : goal.decreases-write_where
decreases-write_where l = length l.bits.now
