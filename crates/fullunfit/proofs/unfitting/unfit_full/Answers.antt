use Rattle.std.proofs.Common.{◌<◌, ◌^◌, IfSome, ap, subst, ◌∙◌, arith}
use Rattle.std.specs.Io.KnownBytes.{Appends}
use Rattle.base.specs.Device.{AppendsBeginning}
use Rattle.unfit.specs.Joined.{Names, Lined}
use Rattle.unfit.specs.Unfitted.{unfit_text_with}
use Rattle.fulljudge.specs.Kept.{words_in}
use Rattle.fullunfit.proofs.KeptLemmas.{source_judged, source_kept, titles_are}
use Rattle.fullunfit.proofs.unfitting.unfit_full.Goals as goal

pub returns-in-Ok-clause-judged : goal.returns-in-Ok-clause-judged
returns-in-Ok-clause-judged g c =
    source_judged c.args.states.now c.args.shape.now c.args.narrow.now (g.S.Source.to_come c.args.source.now) c.of_values.result c.in-Ok.judgement c.of_values.ensures c.in-Ok.ensures.judged

pub returns-in-Ok-clause-kept : goal.returns-in-Ok-clause-kept
returns-in-Ok-clause-kept g c full p wide layout celled of =
    let few_states : words_in c.args.states.now < 2 ^ 64 = omega (arith, c.words-few_states.ensures, c.words-few_states.type_inv) in
    let few_inputs : words_in c.args.inputs.now < 2 ^ 64 = omega (arith, c.words-few_inputs.ensures, c.words-few_inputs.type_inv) in
    source_kept c.args.states.now c.args.inputs.now c.args.words.now c.args.shape.now c.args.names.now c.args.named c.args.narrow.now full p wide layout celled of few_states few_inputs (g.S.Source.to_come c.args.source.now) c.of_values.result
    (source_judged c.args.states.now c.args.shape.now c.args.narrow.now (g.S.Source.to_come c.args.source.now) c.of_values.result c.in-Ok.judgement c.of_values.ensures c.in-Ok.ensures.judged)

pub returns-in-Ok-clause-written : goal.returns-in-Ok-clause-written
returns-in-Ok-clause-written g c =
    subst (λ (l : Lined). IfSome (g.S.Source.to_come c.args.source.now) (λ text. Appends (g.K.Sink.written c.args.sink.now) (g.K.Sink.written c.unfit_by.new.sink) (unfit_text_with l c.args.narrow.now text)))
    (titles_are c.args.states.now c.args.inputs.now c.args.shape.now c.args.names.now c.args.named c.args.words.now _ _ _ _ _ _ _ _ c.of_states-state_titles.ensures.values c.of_inputs-input_titles.ensures.values
    (c.of_states-state_titles.ensures.symbols ∙ c.as_slice.ensures.value ∙ ap (λ (n : Names). n.states) c.names.view_is) (c.of_inputs-input_titles.ensures.symbols ∙ c.as_slice-2.ensures.value ∙ ap (λ (n : Names). n.inputs) c.names.view_is)
    c.of_states-state_titles.ensures.leaves c.of_states-state_titles.ensures.nodes c.of_inputs-input_titles.ensures.leaves c.of_inputs-input_titles.ensures.nodes)
    c.in-Ok.ensures.written

pub returns-in-Err-clause-beginning : goal.returns-in-Err-clause-beginning
returns-in-Err-clause-beginning g c =
    subst (λ (l : Lined). IfSome (g.S.Source.to_come c.args.source.now) (λ text. AppendsBeginning (g.K.Sink.written c.args.sink.now) (g.K.Sink.written c.unfit_by.new.sink) (unfit_text_with l c.args.narrow.now text)))
    (titles_are c.args.states.now c.args.inputs.now c.args.shape.now c.args.names.now c.args.named c.args.words.now _ _ _ _ _ _ _ _ c.of_states-state_titles.ensures.values c.of_inputs-input_titles.ensures.values
    (c.of_states-state_titles.ensures.symbols ∙ c.as_slice.ensures.value ∙ ap (λ (n : Names). n.states) c.names.view_is) (c.of_inputs-input_titles.ensures.symbols ∙ c.as_slice-2.ensures.value ∙ ap (λ (n : Names). n.inputs) c.names.view_is)
    c.of_states-state_titles.ensures.leaves c.of_states-state_titles.ensures.nodes c.of_inputs-input_titles.ensures.leaves c.of_inputs-input_titles.ensures.nodes)
    c.in-Err.ensures.beginning
