use Rattle.std.proofs.Common.{[]}
use Rattle.base.proofs.PenLemmas.{counts_none, counts_one}
use Rattle.lift.proofs.LiftingLemmas.{begun, through_end, through_fault, written_ends, written_counts}
use Rattle.lift.proofs.lifting.lift_through.Goals as goal

pub returns-in-Ok-clause-lifts : goal.returns-in-Ok-clause-lifts
returns-in-Ok-clause-lifts g c named items circuit h =
    let start = begun g.K.Sink.written g.K.Sink.failures named items circuit c.args.sink.now c.args.lifting.now.pen c.args.lifting.now.lifter c.requires.kept c.requires.well h in
    through_end g.K.Sink.written g.K.Sink.failures named items circuit c.args.sink.now c.args.lifting.now.pen c.args.lifting.now.lifter c.requires.kept c.requires.well h c.written.result (g.S.Source.to_come c.args.source.now) c.take_source.new.output c.finish.new.sink c.take_source.new.taker.pen c.take_source.new.taker.lifter
    (c.in-Ok.ensures.whole (c.args.sink.now, c.args.lifting.now.pen, record { named = named; items = items; circuit = circuit }) [] start)
    (λ text writes. written_ends c.written.result c.finish.result (g.K.Sink.written c.args.sink.now) (g.K.Sink.written c.finish.new.sink) (g.K.Sink.failures c.args.sink.now) (g.K.Sink.failures c.finish.new.sink) text c.written.ensures.ok c.written.ensures.err (c.finish.ensures c.args.sink.now c.args.lifting.now.pen text c.requires.kept c.requires.well writes))

pub returns-in-Ok-clause-counted : goal.returns-in-Ok-clause-counted
returns-in-Ok-clause-counted g c =
    let over = c.requires.lifts.0 in
    let start = begun g.K.Sink.written g.K.Sink.failures over.named over.items over.circuit c.args.sink.now c.args.lifting.now.pen c.args.lifting.now.lifter c.requires.kept c.requires.well c.requires.lifts.1 in
    let now = c.take_source.ensures.front.takes (c.args.sink.now, c.args.lifting.now.pen, over) [] start in
    written_counts c.written.result c.finish.result (g.K.Sink.written c.args.sink.now) (g.K.Sink.written c.finish.new.sink) (g.S.Source.failures c.args.source.now) (g.S.Source.failures c.take_source.new.source) (g.K.Sink.failures c.args.sink.now) (g.K.Sink.failures c.finish.new.sink) _ c.written.ensures.ok c.written.ensures.err c.in-Ok.ensures.stops.1
    (c.finish.ensures c.args.sink.now c.args.lifting.now.pen _ c.requires.kept c.requires.well now.writes)

pub returns-in-Err-Source-clause-lifts : goal.returns-in-Err-Source-clause-lifts
returns-in-Err-Source-clause-lifts g c named items circuit h =
    let start = begun g.K.Sink.written g.K.Sink.failures named items circuit c.args.sink.now c.args.lifting.now.pen c.args.lifting.now.lifter c.requires.kept c.requires.well h in
    let front = c.take_source.ensures.front in
    through_fault g.K.Sink.written g.K.Sink.failures named items circuit c.args.sink.now c.args.lifting.now.pen c.args.lifting.now.lifter c.requires.kept c.requires.well h (g.S.Source.to_come c.args.source.now) (g.S.Source.to_come c.take_source.new.source) front.front c.take_source.new.output c.take_source.new.taker.pen c.take_source.new.taker.lifter front.consumes
    (front.takes (c.args.sink.now, c.args.lifting.now.pen, record { named = named; items = items; circuit = circuit }) [] start)

pub returns-in-Err-Done-clause-lifts : goal.returns-in-Err-Done-clause-lifts
returns-in-Err-Done-clause-lifts g c named items circuit h =
    let start = begun g.K.Sink.written g.K.Sink.failures named items circuit c.args.sink.now c.args.lifting.now.pen c.args.lifting.now.lifter c.requires.kept c.requires.well h in
    let front = c.take_source.ensures.front in
    through_fault g.K.Sink.written g.K.Sink.failures named items circuit c.args.sink.now c.args.lifting.now.pen c.args.lifting.now.lifter c.requires.kept c.requires.well h (g.S.Source.to_come c.args.source.now) (g.S.Source.to_come c.take_source.new.source) front.front c.take_source.new.output c.take_source.new.taker.pen c.take_source.new.taker.lifter front.consumes
    (front.takes (c.args.sink.now, c.args.lifting.now.pen, record { named = named; items = items; circuit = circuit }) [] start)

pub returns-in-Err-Source-clause-counted : goal.returns-in-Err-Source-clause-counted
returns-in-Err-Source-clause-counted g c =
    let over = c.requires.lifts.0 in
    let start = begun g.K.Sink.written g.K.Sink.failures over.named over.items over.circuit c.args.sink.now c.args.lifting.now.pen c.args.lifting.now.lifter c.requires.kept c.requires.well c.requires.lifts.1 in
    let now = c.take_source.ensures.front.takes (c.args.sink.now, c.args.lifting.now.pen, over) [] start in
    let stops = rw c.in-Err-Source.field-0-is at c.in-Err-Source.ensures.stops in
    (stops.1, counts_none c.requires.well now.writes stops.0)

pub returns-in-Err-Done-clause-counted : goal.returns-in-Err-Done-clause-counted
returns-in-Err-Done-clause-counted g c =
    let over = c.requires.lifts.0 in
    let start = begun g.K.Sink.written g.K.Sink.failures over.named over.items over.circuit c.args.sink.now c.args.lifting.now.pen c.args.lifting.now.lifter c.requires.kept c.requires.well c.requires.lifts.1 in
    let now = c.take_source.ensures.front.takes (c.args.sink.now, c.args.lifting.now.pen, over) [] start in
    let stops = rw c.in-Err-Done.field-0-is at c.in-Err-Done.ensures.stops in
    (stops.1, counts_one c.requires.well now.writes stops.0)
