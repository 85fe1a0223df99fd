use Rattle.std.proofs.Common.{length}
use Rattle.pieces.specs.Cuts.{IsBehind}
use Rattle.pieces.proofs.cuts.skip.Given as goal

abbrev pub invariant-loop-first : goal.invariant-loop-first
invariant-loop-first l = IsBehind l.fn.nodes l.fn.low l.rest l.inside

abbrev pub decreases-loop-first : goal.decreases-loop-first
decreases-loop-first l = length l.rest
