use Rattle.std.proofs.Common.{drop}
use Rattle.certificates.specs.Obligation.{next_clauses}
use Rattle.certificates.proofs.PutLemmas.{Leaves}
use Rattle.certificates.proofs.obligations.put_next.Given as goal

-- the clauses of the literals from here on are left
abbrev pub invariant-loop-literal : goal.invariant-loop-literal
invariant-loop-literal l = Leaves l.fn.formula l.formula (next_clauses l.circuit l.variable l.cube) (next_clauses l.circuit l.variable (drop l.literal-index l.cube))
