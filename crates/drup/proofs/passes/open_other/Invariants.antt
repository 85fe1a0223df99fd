use Rattle.std.proofs.Common.{◌≡◌, ◌≢◌, ℕ, ◌<◌, get_or, true}
use Rattle.base.specs.Literal.{negation}
use Rattle.drup.specs.Marked.{set_of}
use Rattle.drup.proofs.passes.open_other.Given as goal

abbrev pub invariant-loop-literal : goal.invariant-loop-literal
invariant-loop-literal l = (j : ℕ) → j < l.literal-index → get_or l.clause j 0 ≢ l.one → set_of l.trail (negation (get_or l.clause j 0)) ≡ true
