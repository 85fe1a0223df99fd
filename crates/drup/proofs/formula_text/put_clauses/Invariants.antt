use Rattle.std.proofs.Common.{drop}
use Rattle.base.proofs.PenLemmas.{Writing}
use Rattle.drup.specs.FormulaTexts.{clauses_text}
use Rattle.drup.proofs.formula_text.put_clauses.Given as goal

abbrev pub invariant-loop-k : goal.invariant-loop-k
invariant-loop-k g l = Writing g.K.Sink.written g.K.Sink.failures l.initial.sink l.sink l.initial.pen l.pen (clauses_text l.formula.clauses) (clauses_text (drop l.k l.formula.clauses))
