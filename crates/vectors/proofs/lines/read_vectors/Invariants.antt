use Rattle.std.proofs.Common.{length}
use Rattle.vectors.proofs.VectorLemmas.{NumberedSoFar}
use Rattle.vectors.proofs.lines.read_vectors.Given as goal

abbrev pub invariant-loop-front : goal.invariant-loop-front
invariant-loop-front l = NumberedSoFar l.fn.text l.rest l.vectors.items

abbrev pub decreases-loop-front : goal.decreases-loop-front
decreases-loop-front l = length l.rest
