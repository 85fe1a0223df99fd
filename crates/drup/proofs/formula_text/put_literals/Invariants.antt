use Rattle.std.proofs.Common.{drop}
use Rattle.base.proofs.PenLemmas.{Writing}
use Rattle.drup.specs.FormulaTexts.{literals_text}
use Rattle.drup.proofs.formula_text.put_literals.Given as goal

abbrev pub invariant-loop-literal : goal.invariant-loop-literal
invariant-loop-literal g l = Writing g.K.Sink.written g.K.Sink.failures l.initial.sink l.sink l.initial.pen l.pen (literals_text l.literals) (literals_text (drop l.literal-index l.literals))
