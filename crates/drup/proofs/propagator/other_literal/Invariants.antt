use Rattle.std.proofs.Common.{◌≡◌, ℕ, ◌<◌, get_or}
use Rattle.drup.proofs.propagator.other_literal.Given as goal

abbrev pub invariant-loop-literal : goal.invariant-loop-literal
invariant-loop-literal l = (j : ℕ) → j < l.literal-index → get_or l.clause j 0 ≡ l.one
