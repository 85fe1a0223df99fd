use Rattle.drup.specs.Growth.{AssumesAll}
use Rattle.drup.proofs.propagator.assume.Given as goal

abbrev pub invariant-loop-literal : goal.invariant-loop-literal
invariant-loop-literal l = AssumesAll l.clause l.literal-index l.fn.trail l.trail
