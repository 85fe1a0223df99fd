use Rattle.std.proofs.Common.{length}
use Rattle.wordings.proofs.taking.+file_count.Given as goal

abbrev pub decreases-file_count : goal.decreases-file_count
decreases-file_count l = length l.words.now
