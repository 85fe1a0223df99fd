use Rattle.std.proofs.Common.{◌≡◌, ◌++◌, [], take}
use Rattle.drup.specs.Formula.{Formula as FormulaValue}
use Rattle.lrat.specs.LratJudges.{StandsForLrat}
use Rattle.lrat.proofs.lrat_judge.LratJudge.give_each.Given as goal

-- the clauses before are given
abbrev pub invariant-loop-k : goal.invariant-loop-k
invariant-loop-k l = record {
  stands : (f : FormulaValue) → StandsForLrat f l.fn.self [] → StandsForLrat (record f { clauses = f.clauses ++ take l.k l.formula.clauses }) l.self [];
  variables : l.self.variables ≡ l.fn.self.variables;
}
