use Rattle.std.proofs.Common.{◌≡◌, ◌++◌, [], take}
use Rattle.drup.specs.Formula.{Formula as FormulaValue}
use Rattle.drup.specs.ProofJudges.{StandsForText}
use Rattle.drup.proofs.proof_judge.ProofJudge.give_each.Given as goal

-- the clauses before are given
abbrev pub invariant-loop-k : goal.invariant-loop-k
invariant-loop-k l = record {
  stands : (f : FormulaValue) → StandsForText f l.fn.self [] → StandsForText (record f { clauses = f.clauses ++ take l.k l.formula.clauses }) l.self [];
  variables : l.self.variables ≡ l.fn.self.variables;
}
