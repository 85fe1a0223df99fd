use Rattle.std.proofs.Common.{length}
use Rattle.wordings.proofs.taking.+each_once.Given as goal

abbrev pub decreases-each_once : goal.decreases-each_once
decreases-each_once l = length l.words.now
