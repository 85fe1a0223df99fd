use Rattle.std.proofs.Common.{rules, ◌≡◌, [], Err, ap}
use Rattle.std.specs.Io.KnownBytes.{prepend_known}
use Rattle.base.proofs.DeviceLemmas.{on_ok, on_err}
use Rattle.base.proofs.PenLemmas.{begins}
use Rattle.base.specs.Held.{Held}
use Rattle.unfit.proofs.UnfittingLemmas.{begun, unread, all_begun, all_taken}
use Rattle.unfit.proofs.unfitting.take_all.Goals as goal

pub returns-in_err-take_lines-clause-unfits : goal.returns-in_err-take_lines-clause-unfits
returns-in_err-take_lines-clause-unfits g c narrow well stands holds =
    let t =
    c.in_err-take_lines.ensures.takes c.args.sink.now c.new-pen.result narrow (g.S.Source.to_come c.args.source.now) [] (unread (g.S.Source.to_come c.args.source.now) c.new-lines.result.rest (ap (λ (r : Held). r.rest) c.new-lines.ensures))
    (begun g.K.Sink.written g.K.Sink.failures c.args.sink.now c.new-pen.result c.args.wide.now narrow c.args.judge.now c.args.frame.now well stands holds) in
    let same : c.from_residual.result ≡ Err c.in_err-take_lines.field-0.0 = search rules in
    rw same (all_begun c.args.wide.now narrow (g.S.Source.to_come c.args.source.now) (prepend_known c.take_lines.new.lines.rest (g.S.Source.to_come c.take_lines.new.source)) (g.K.Sink.written c.args.sink.now) (g.K.Sink.written c.take_lines.new.sink) t.0 well t.1.0 (begins c.new-pen.ensures.well t.1.1.writes c.new-pen.ensures.kept))

pub returns-in_err-written-clause-unfits : goal.returns-in_err-written-clause-unfits
returns-in_err-written-clause-unfits g c narrow well stands holds =
    let t =
    c.in_ok-take_lines.ensures.takes c.args.sink.now c.new-pen.result narrow (g.S.Source.to_come c.args.source.now) [] (unread (g.S.Source.to_come c.args.source.now) c.new-lines.result.rest (ap (λ (r : Held). r.rest) c.new-lines.ensures))
    (begun g.K.Sink.written g.K.Sink.failures c.args.sink.now c.new-pen.result c.args.wide.now narrow c.args.judge.now c.args.frame.now well stands holds) in
    let same : c.from_residual-in_err-written.result ≡ Err c.in_err-written.field-0.0 = search rules in
    let f = c.finish.ensures c.args.sink.now c.new-pen.result _ c.new-pen.ensures.kept c.new-pen.ensures.well t.1.1.writes in
    rw same (all_begun c.args.wide.now narrow (g.S.Source.to_come c.args.source.now) (prepend_known c.take_lines.new.lines.rest (g.S.Source.to_come c.take_lines.new.source)) (g.K.Sink.written c.args.sink.now) (g.K.Sink.written c.finish.new.sink) t.0 well t.1.0 (on_err c.finish.result c.in_err-written.ensures.err.0 f.err))

pub returns-clause-unfits : goal.returns-clause-unfits
returns-clause-unfits g c narrow well stands holds =
    let t =
    c.in_ok-take_lines.ensures.takes c.args.sink.now c.new-pen.result narrow (g.S.Source.to_come c.args.source.now) [] (unread (g.S.Source.to_come c.args.source.now) c.new-lines.result.rest (ap (λ (r : Held). r.rest) c.new-lines.ensures))
    (begun g.K.Sink.written g.K.Sink.failures c.args.sink.now c.new-pen.result c.args.wide.now narrow c.args.judge.now c.args.frame.now well stands holds) in
    let f = c.finish.ensures c.args.sink.now c.new-pen.result _ c.new-pen.ensures.kept c.new-pen.ensures.well t.1.1.writes in
    let fed = c.feed.ensures narrow t.0 t.1.1.stands in
    all_taken c.args.wide.now narrow (g.S.Source.to_come c.args.source.now) (g.S.Source.to_come c.take_lines.new.source) (g.K.Sink.written c.args.sink.now) (g.K.Sink.written c.finish.new.sink) t.0 c.feed.new.self c.take_lines.new.lines.rest t.1.0 c.in_ok-take_lines.ensures.end c.in_ok-take_lines.ensures.rest (rw c.rest.ensures at fed) (on_ok c.in_ok-written.ensures.ok f.ok)
