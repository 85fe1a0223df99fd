use Rattle.std.proofs.Common.{All, []}
use Rattle.std.proofs.lemmas.List.Elements.{All-nil}
use Rattle.drup.specs.Formula.{IsLiteral}
use Rattle.witness_circuits.proofs.TestLemmas.{guards, inductive}
use Rattle.witness_circuits.proofs.laws.unsatisfiable_where_it_guards.Goals as goal

pub returns-clause-guards : goal.returns-clause-guards
returns-clause-guards c circuit k w m t test unsat = guards circuit k w m t test (c.unsatisfiable_where_inductive.ensures.inductive t [] test.test (All-nil (All (IsLiteral _))) unsat)

pub returns-clause-unsatisfiable : goal.returns-clause-unsatisfiable
returns-clause-unsatisfiable c circuit k w m t test g = c.unsatisfiable_where_inductive.ensures.unsatisfiable t [] (All-nil (All (IsLiteral _))) (inductive circuit k w m t test g)
