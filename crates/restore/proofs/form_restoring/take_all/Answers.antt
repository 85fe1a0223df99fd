use Rattle.std.proofs.Common.{◌<◌, ℕ, Option, length, refl, sym, subst}
use Rattle.std.specs.Io.KnownBytes.{prepend_known}
use Rattle.restore.specs.FormSteps.{ReadsClaim}
use Rattle.std.proofs.Common.{Ok}
use Rattle.restore.proofs.FormTakeLemmas.{counted_behind, none_claimed}
use Rattle.restore.proofs.FormWitnessLemmas.{claims_below}
use Rattle.restore.proofs.form_restoring.take_all.Goals as goal

pub take_frames-requires : goal.take_frames-requires
take_frames-requires g c =
    let reads = subst (λ (o : Option ℕ). ReadsClaim (Ok o) c.args.form.now (g.S.Source.to_come c.args.source.now) (prepend_known c.read_claim.new.lines.rest (g.S.Source.to_come c.read_claim.new.source)) c.read_claim.new.judge) c.in-Some.is (c.in-Ok.ensures.reads c.args.form.now c.requires.is_form.circuit c.requires.begins) in
    subst (λ (n : ℕ). n < length c.args.circuit.now.bads) (sym c.property_of.ensures) (claims_below c.args.circuit.now c.args.choice c.args.form.now c.in-Some.claim c.exactly_one_trace.ensures.exists c.requires.is_form reads.1.1.below)

pub returns-in-Some-clause-reads : goal.returns-in-Some-clause-reads
returns-in-Some-clause-reads g c =
    let reads = subst (λ (o : Option ℕ). ReadsClaim (Ok o) c.args.form.now (g.S.Source.to_come c.args.source.now) (prepend_known c.read_claim.new.lines.rest (g.S.Source.to_come c.read_claim.new.source)) c.read_claim.new.judge) c.in-Some.is (c.in-Ok.ensures.reads c.args.form.now c.requires.is_form.circuit c.requires.begins) in
    c.take_frames.ensures.reads c.args.choice c.args.form.now (g.S.Source.to_come c.args.source.now) reads.0 c.in-Some.claim c.requires.is_form (sym c.property_of.ensures) reads.1.0 reads.1.1

pub returns-in-Some-clause-counted : goal.returns-in-Some-clause-counted
returns-in-Some-clause-counted g c = counted_behind c.take_frames.result (g.S.Source.failures c.args.source.now) (g.S.Source.failures c.read_claim.new.source) (g.S.Source.failures c.take_frames.new.source) (g.K.Sink.failures c.args.sink.now) (g.K.Sink.failures c.take_frames.new.sink) (c.in-Ok.ensures.counted 0).0 c.take_frames.ensures.counted

pub returns-in-None-clause-counted : goal.returns-in-None-clause-counted
returns-in-None-clause-counted g c = ((c.in-Ok.ensures.counted 0).0, refl)

pub returns-in-None-clause-reads : goal.returns-in-None-clause-reads
returns-in-None-clause-reads g c =
    let reads = subst (λ (o : Option ℕ). ReadsClaim (Ok o) c.args.form.now (g.S.Source.to_come c.args.source.now) (prepend_known c.read_claim.new.lines.rest (g.S.Source.to_come c.read_claim.new.source)) c.read_claim.new.judge) c.in-None.is (c.in-Ok.ensures.reads c.args.form.now c.requires.is_form.circuit c.requires.begins) in
    none_claimed (g.W.Writer.put_for c.args.writer.now) c.args.circuit.now c.args.choice c.args.form.now c.read_claim.new.judge c.read_claim.new.lines.rest (g.S.Source.to_come c.args.source.now) (g.S.Source.to_come c.read_claim.new.source) (g.K.Sink.written c.args.sink.now) _ refl reads (c.in-Ok.ensures.end c.in-None.is) (c.in-Ok.ensures.rest c.in-None.is)
