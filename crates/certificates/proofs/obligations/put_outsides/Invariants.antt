use Rattle.std.proofs.Common.{map, drop}
use Rattle.certificates.specs.Obligation.{outside_clause}
use Rattle.certificates.proofs.PutLemmas.{Leaves}
use Rattle.certificates.proofs.obligations.put_outsides.Given as goal

-- the clauses of the cubes from here on are left
abbrev pub invariant-loop-place : goal.invariant-loop-place
invariant-loop-place l = Leaves l.fn.formula l.formula (map (outside_clause l.circuit) l.invariant'.cubes) (map (outside_clause l.circuit) (drop l.place l.invariant'.cubes))
