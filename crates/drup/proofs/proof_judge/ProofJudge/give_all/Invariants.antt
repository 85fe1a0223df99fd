use Rattle.std.proofs.Common.{◌≡◌, ℕ, List, ◌++◌, [], length}
use Rattle.drup.specs.ProofJudges.{StandsForText}
use Rattle.drup.proofs.proof_judge.ProofJudge.give_all.Given as goal

-- the clauses that are not left are given
abbrev pub invariant-loop-rest : goal.invariant-loop-rest
invariant-loop-rest l = record {
  given : (clauses : List (List ℕ)) × ((clauses ++ l.rest.clauses ≡ l.fn.formula.clauses) × StandsForText (record { variables = l.fn.formula.variables; clauses = clauses }) l.self []);
  same : l.rest.variables ≡ l.fn.formula.variables;
  variables : l.self.variables ≡ l.fn.formula.variables;
}

abbrev pub decreases-loop-rest : goal.decreases-loop-rest
decreases-loop-rest l = length l.rest.clauses
