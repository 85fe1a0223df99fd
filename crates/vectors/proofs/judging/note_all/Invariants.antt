use Rattle.std.proofs.Common.{◌≡◌, ◌++◌, length}
use Rattle.vectors.specs.Vectors.{lines_that_differ}
use Rattle.vectors.proofs.judging.note_all.Given as goal

abbrev pub invariant-loop-rest : goal.invariant-loop-rest
invariant-loop-rest l = l.lines.items ++ lines_that_differ l.rest ≡ l.fn.lines.items ++ lines_that_differ l.vectors

abbrev pub decreases-loop-rest : goal.decreases-loop-rest
decreases-loop-rest l = length l.rest
