use Rattle.std.proofs.Common.{ℕ, List, ap, ◌∙◌}
use Rattle.std.specs.Io.KnownBytes.{Appends}
use Rattle.base.specs.Device.{AppendsBeginning}
use Rattle.unfit.specs.Joined.{Names}
use Rattle.unfit.proofs.KeptLemmas.{source_kept}
use Rattle.unfit.proofs.UnfittingLemmas.{plain_written, plain_begun}
use Rattle.unfit.proofs.unfitting.unfit.Goals as goal

pub returns-clause-written : goal.returns-clause-written
returns-clause-written g c =
    plain_written (λ (put : List ℕ). Appends (g.K.Sink.written c.args.sink.now) (g.K.Sink.written c.unfit_by.new.sink) put) (g.S.Source.to_come c.args.source.now) (record { shape = c.args.shape.now; names = c.args.names.now; named = c.args.named }) c.args.narrow.now c.new-states.result.symbols.now
    c.new-inputs.result.symbols.now (c.new-states.ensures ∙ c.as_slice.ensures.value ∙ ap (λ (n : Names). n.states) c.names.view_is) (c.new-inputs.ensures ∙ c.as_slice-2.ensures.value ∙ ap (λ (n : Names). n.inputs) c.names.view_is) c.unfit_by.result c.unfit_by.ensures.written

pub returns-clause-beginning : goal.returns-clause-beginning
returns-clause-beginning g c =
    plain_begun (λ (put : List ℕ). AppendsBeginning (g.K.Sink.written c.args.sink.now) (g.K.Sink.written c.unfit_by.new.sink) put) (g.S.Source.to_come c.args.source.now) (record { shape = c.args.shape.now; names = c.args.names.now; named = c.args.named }) c.args.narrow.now c.new-states.result.symbols.now
    c.new-inputs.result.symbols.now (c.new-states.ensures ∙ c.as_slice.ensures.value ∙ ap (λ (n : Names). n.states) c.names.view_is) (c.new-inputs.ensures ∙ c.as_slice-2.ensures.value ∙ ap (λ (n : Names). n.inputs) c.names.view_is) c.unfit_by.result c.unfit_by.ensures.beginning

pub returns-clause-kept : goal.returns-clause-kept
returns-clause-kept g c wide fit shape =
    source_kept wide c.args.narrow.now fit (record { shape = c.args.shape.now; names = c.args.names.now; named = c.args.named }) shape c.can_be_counted.ensures.states c.can_be_counted.ensures.inputs c.unfit_by.result (g.S.Source.to_come c.args.source.now) c.unfit_by.ensures.judged
