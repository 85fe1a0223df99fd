use Rattle.drup.specs.Growth.{StretchNegated}
use Rattle.drup.specs.Marked.{set_of}
use Rattle.drup.proofs.passes.open_between.Given as goal

abbrev pub invariant-loop-place : goal.invariant-loop-place
invariant-loop-place l = StretchNegated l.clause l.from l.place l.one (set_of l.trail)
