use Rattle.std.proofs.Common.{suc, ◌+◌, length, drop}
use Rattle.certificates.specs.Obligation.{gates_clauses}
use Rattle.certificates.proofs.PutLemmas.{Leaves}
use Rattle.certificates.proofs.obligations.put_gates.Given as goal

-- the clauses of the gates from here on are left
abbrev pub invariant-loop-place : goal.invariant-loop-place
invariant-loop-place l =
    Leaves l.fn.formula l.formula (gates_clauses l.truth (suc (l.circuit.inputs + length l.circuit.latches)) l.circuit.gates)
    (gates_clauses l.truth (suc (l.circuit.inputs + length l.circuit.latches) + l.place) (drop l.place l.circuit.gates))
