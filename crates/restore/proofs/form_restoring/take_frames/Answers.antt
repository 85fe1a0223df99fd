use Rattle.std.proofs.Common.{rules, ◌≡◌, Err, length, arith}
use Rattle.std.specs.Io.KnownBytes.{prepend_known}
use Rattle.restore.specs.declared.fault.RestoreWhy.TheVariants as why
use Rattle.restore.specs.Answers.{form_lines_put}
use Rattle.restore.proofs.FormTakeLemmas.{form_claimed, form_begun, form_ends}
use Rattle.base.proofs.PenLemmas.{begins}
use Rattle.base.proofs.DeviceLemmas.{on_ok, on_err}
use Rattle.restore.proofs.RestoringLemmas.{nothing_written}
use Rattle.restore.proofs.form_restoring.take_frames.Goals as goal

pub returns-in_err-restorer-clause-reads : goal.returns-in_err-restorer-clause-reads
returns-in_err-restorer-clause-reads g c choice d whole front j form is consumes claimed =
    let same : c.from_residual.result ≡ Err (record { line = 0; why = why.NoMemory }) = search rules in
    rw same (nothing_written whole _ (form_lines_put (g.W.Writer.put_for c.args.writer.now) c.args.circuit.now choice d))

pub returns-in_err-bits-clause-reads : goal.returns-in_err-bits-clause-reads
returns-in_err-bits-clause-reads g c choice d whole front j form is consumes claimed =
    let same : c.from_residual-in_err-bits.result ≡ Err (record { line = 0; why = why.NoMemory }) = search rules in
    rw same (nothing_written whole _ (form_lines_put (g.W.Writer.put_for c.args.writer.now) c.args.circuit.now choice d))

pub returns-in_err-take_lines-clause-reads : goal.returns-in_err-take_lines-clause-reads
returns-in_err-take_lines-clause-reads g c choice d whole front j form is consumes claimed =
    let width : d.inputs ≡ length c.as_mut_slice.result.now = omega (arith, form.inputs, c.as_mut_slice.ensures.len, c.in_ok-bits.ensures.len, c.input_count.ensures.count) in
    let t = c.in_err-take_lines.ensures.takes c.args.sink.now c.new-pen.result d c.in_ok-restorer.restorer j whole front width consumes (form_claimed claimed) in
    let same : c.from_residual-in_err-take_lines.result ≡ Err c.in_err-take_lines.field-0.0 = search rules in
    rw same (form_begun (g.W.Writer.put_for c.args.writer.now) g.K.Sink.written g.K.Sink.failures c.args.sink.now c.take_lines.new.sink c.new-pen.result c.take_lines.new.pen c.args.circuit.now choice d c.take_lines.new.judge c.in_ok-restorer.restorer c.take_lines.new.restorer j c.args.claim t.0 c.new-pen.ensures.kept c.new-pen.ensures.well form c.in_ok-restorer.ensures c.requires is t.1.1
    c.in_err-take_lines.field-0.0 (g.K.Sink.written c.take_lines.new.sink) whole (prepend_known c.take_lines.new.lines.rest (g.S.Source.to_come c.take_lines.new.source)) c.take_lines.new.lines.rest t.1.0 (begins c.new-pen.ensures.well t.1.1.writes c.new-pen.ensures.kept))

pub returns-in_err-written-clause-reads : goal.returns-in_err-written-clause-reads
returns-in_err-written-clause-reads g c choice d whole front j form is consumes claimed =
    let width : d.inputs ≡ length c.as_mut_slice.result.now = omega (arith, form.inputs, c.as_mut_slice.ensures.len, c.in_ok-bits.ensures.len, c.input_count.ensures.count) in
    let t = c.in_ok-take_lines.ensures.takes c.args.sink.now c.new-pen.result d c.in_ok-restorer.restorer j whole front width consumes (form_claimed claimed) in
    let same : c.from_residual-in_err-written.result ≡ Err c.in_err-written.field-0.0 = search rules in
    let f = c.finish.ensures c.args.sink.now c.new-pen.result _ c.new-pen.ensures.kept c.new-pen.ensures.well t.1.1.writes in
    rw same (form_begun (g.W.Writer.put_for c.args.writer.now) g.K.Sink.written g.K.Sink.failures c.args.sink.now c.take_lines.new.sink c.new-pen.result c.take_lines.new.pen c.args.circuit.now choice d c.take_lines.new.judge c.in_ok-restorer.restorer c.take_lines.new.restorer j c.args.claim t.0 c.new-pen.ensures.kept c.new-pen.ensures.well form c.in_ok-restorer.ensures c.requires is t.1.1
    c.in_err-written.field-0.0 (g.K.Sink.written c.finish.new.sink) whole (prepend_known c.take_lines.new.lines.rest (g.S.Source.to_come c.take_lines.new.source)) c.take_lines.new.lines.rest t.1.0 (on_err c.finish.result c.in_err-written.ensures.err.0 f.err))

pub returns-clause-reads : goal.returns-clause-reads
returns-clause-reads g c choice d whole front j form is consumes claimed =
    let width : d.inputs ≡ length c.as_mut_slice.result.now = omega (arith, form.inputs, c.as_mut_slice.ensures.len, c.in_ok-bits.ensures.len, c.input_count.ensures.count) in
    let t = c.in_ok-take_lines.ensures.takes c.args.sink.now c.new-pen.result d c.in_ok-restorer.restorer j whole front width consumes (form_claimed claimed) in
    let f = c.finish.ensures c.args.sink.now c.new-pen.result _ c.new-pen.ensures.kept c.new-pen.ensures.well t.1.1.writes in
    rw c.told.ensures (form_ends (g.W.Writer.put_for c.args.writer.now) g.K.Sink.written g.K.Sink.failures c.args.sink.now c.take_lines.new.sink c.new-pen.result c.take_lines.new.pen c.args.circuit.now choice d c.take_lines.new.judge c.in_ok-restorer.restorer c.take_lines.new.restorer j c.args.claim t.0 c.new-pen.ensures.kept c.new-pen.ensures.well form c.in_ok-restorer.ensures c.requires is t.1.1
    c.finish.new.sink whole (g.S.Source.to_come c.take_lines.new.source) c.take_lines.new.lines.rest t.1.0 c.in_ok-take_lines.ensures.end c.in_ok-take_lines.ensures.rest (on_ok c.in_ok-written.ensures.ok f.ok))
