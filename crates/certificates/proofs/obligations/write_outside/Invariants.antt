use Rattle.std.proofs.Common.{◌≡◌, ◌++◌, drop}
use Rattle.certificates.specs.Obligation.{outside_clause}
use Rattle.certificates.proofs.obligations.write_outside.Given as goal

-- the literals from here on are left
abbrev pub invariant-loop-literal : goal.invariant-loop-literal
invariant-loop-literal l = l.clause.items ++ outside_clause l.circuit (drop l.literal-index l.cube) ≡ outside_clause l.circuit l.cube
