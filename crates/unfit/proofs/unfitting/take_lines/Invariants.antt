use Rattle.std.proofs.Common.{◌≡◌, ℕ, List, Ok}
use Rattle.std.specs.Io.KnownBytes.{prepend_known}
use Rattle.base.specs.Held.{lines_left}
use Rattle.base.specs.Writing.{WritesText}
use Rattle.unfit.specs.Steps.{TakesLines}
use Rattle.unfit.proofs.unfitting.take_lines.Given as goal

abbrev pub invariant-loop-judge : goal.invariant-loop-judge
invariant-loop-judge g l = record {
  takes : TakesLines g.K.Sink.written g.K.Sink.failures (prepend_known l.initial.lines.rest (g.S.Source.to_come l.initial.source)) (prepend_known l.lines.rest (g.S.Source.to_come l.source)) l.initial.sink l.sink l.initial.pen l.pen l.wide l.initial.judge l.judge l.initial.frame l.frame;
  well : l.pen.answer ≡ Ok tt;
  writes : (text : List ℕ) × WritesText g.K.Sink.written g.K.Sink.failures l.initial.sink l.sink l.initial.pen l.pen text;
  read : g.S.Source.failures l.source ≡ g.S.Source.failures l.initial.source;
}

abbrev pub decreases-loop-judge : goal.decreases-loop-judge
decreases-loop-judge g l = lines_left l.lines.rest (g.S.Source.calls_left l.source)
