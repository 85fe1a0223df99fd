use Rattle.std.proofs.Common.{◌+◌, drop}
use Rattle.certificates.specs.Obligation.{cube_variable, nexts_clauses}
use Rattle.certificates.proofs.PutLemmas.{Leaves}
use Rattle.certificates.proofs.obligations.put_nexts.Given as goal

-- the clauses of the cubes from here on are left
abbrev pub invariant-loop-place : goal.invariant-loop-place
invariant-loop-place l = Leaves l.fn.formula l.formula (nexts_clauses l.circuit (cube_variable l.circuit) l.invariant'.cubes) (nexts_clauses l.circuit (cube_variable l.circuit + l.place) (drop l.place l.invariant'.cubes))
