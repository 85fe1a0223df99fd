use Rattle.std.proofs.Common.{ℕ, List, [], Option, ◌<◌, ◌^◌, IfSome, arith, sym, ap, subst, ◌∙◌}
use Rattle.std.proofs.lemmas.Option.{IfSome_then}
use Rattle.std.specs.Io.KnownBytes.{Appends}
use Rattle.base.specs.Device.{AppendsBeginning}
use Rattle.base.specs.Lines.{text_of_lines, whole_lines}
use Rattle.witness.specs.declared.judgement.Judgement.{Judgement}
use Rattle.witness.specs.Judgements.{Judges}
use Rattle.witness.specs.Texts.{shape_of}
use Rattle.spread.specs.Answers.{KeepsJudgement}
use Rattle.spread.specs.Made.{source_made}
use Rattle.spread.specs.Spread.{IsShort, spread_text}
use Rattle.fulljudge.specs.Compared.{OfStates, HearsFirst}
use Rattle.fulljudge.specs.Judgements.{judged_by, JudgesFull}
use Rattle.fulljudge.specs.Kept.{words_in}
use Rattle.fulljudge.specs.Lines.{line_by_part, words_text}
use Rattle.fulljudge.specs.Shapes.{full_shape}
use Rattle.fulljudge.proofs.JudgeLemmas.{judged_source}
use Rattle.fulljudge.proofs.SpreadLemmas.{made_alike, of_source, kept_source, none_begun}
use Rattle.fulljudge.proofs.spreading.spread_full.Goals as goal

pub returns-in-Ok-spread_heard-clause-judged : goal.returns-in-Ok-spread_heard-clause-judged
returns-in-Ok-spread_heard-clause-judged g c = λ full p wide layout celled of.
    let few_states : words_in c.args.states.now < 2 ^ 64 = omega (arith, c.words-few_states.ensures, c.words-few_states.type_inv) in
    let few_inputs : words_in c.args.inputs.now < 2 ^ 64 = omega (arith, c.words-few_inputs.ensures, c.words-few_inputs.type_inv) in
    let narrow = c.args.narrow.now in
    let k = c.spread_heard.new.hearer in
    let known : OfStates = record { sorts = c.args.states.now; words = c.args.words.now; count = words_in c.args.states.now } in
    let source = source_made (line_by_part c.args.states.now c.args.inputs.now) (g.S.Source.to_come c.args.source.now) in
    let all = made_alike (λ text. IsShort text → (over : OfStates) → HearsFirst over c.in-Ok.hearer (shape_of celled) narrow [] → HearsFirst over k (shape_of celled) narrow (text_of_lines (whole_lines text))) (g.S.Source.to_come c.args.source.now) c.args.states.now c.args.inputs.now c.new-lines.result.states.now c.new-lines.result.inputs.now c.new-lines.ensures.states c.new-lines.ensures.inputs (c.in-Ok-spread_heard.ensures.heard celled of.fitted) in
    let heard : IfSome source (λ text. IsShort text → HearsFirst known k (shape_of celled) narrow (text_of_lines (whole_lines text))) =
    IfSome_then source {P = λ (text : List ℕ). IsShort text → (over : OfStates) → HearsFirst over c.in-Ok.hearer (shape_of celled) narrow [] → HearsFirst over k (shape_of celled) narrow (text_of_lines (whole_lines text))}
    {Q = λ (text : List ℕ). IsShort text → HearsFirst known k (shape_of celled) narrow (text_of_lines (whole_lines text))} all (λ text all short. all short known (c.in-Ok.ensures (shape_of celled) narrow)) in
    let judged = judged_source c.args.states.now c.args.inputs.now c.args.words.now c.args.shape.now narrow full p wide layout celled of few_states few_inputs k (g.S.Source.to_come c.args.source.now) c.in-Ok-spread_heard.judgement
    (made_alike (λ text. IsShort text → Judges celled text c.in-Ok-spread_heard.judgement) (g.S.Source.to_come c.args.source.now) c.args.states.now c.args.inputs.now c.new-lines.result.states.now c.new-lines.result.inputs.now c.new-lines.ensures.states c.new-lines.ensures.inputs (c.in-Ok-spread_heard.ensures.judged celled of.fitted)) heard in
    subst (λ (j : Judgement). IfSome (g.S.Source.to_come c.args.source.now) (λ text. IsShort text → JudgesFull full text j))
    (ap (λ (d : Option ℕ). judged_by c.args.states.now d c.in-Ok-spread_heard.judgement) (sym c.found.ensures) ∙ sym c.of_values.ensures) judged

pub returns-in-Ok-spread_heard-clause-kept : goal.returns-in-Ok-spread_heard-clause-kept
returns-in-Ok-spread_heard-clause-kept g c = λ full p wide layout celled of.
    let few_states : words_in c.args.states.now < 2 ^ 64 = omega (arith, c.words-few_states.ensures, c.words-few_states.type_inv) in
    let few_inputs : words_in c.args.inputs.now < 2 ^ 64 = omega (arith, c.words-few_inputs.ensures, c.words-few_inputs.type_inv) in
    kept_source c.args.states.now c.args.inputs.now c.args.words.now c.args.shape.now c.args.narrow.now full p wide layout celled of few_states few_inputs (g.S.Source.to_come c.args.source.now) c.found.result c.of_values.result c.in-Ok-spread_heard.judgement c.of_values.ensures
    (made_alike (λ text. IsShort text → KeepsJudgement celled c.args.narrow.now text c.in-Ok-spread_heard.judgement) (g.S.Source.to_come c.args.source.now) c.args.states.now c.args.inputs.now c.new-lines.result.states.now c.new-lines.result.inputs.now c.new-lines.ensures.states c.new-lines.ensures.inputs (c.in-Ok-spread_heard.ensures.kept celled of.fitted))

pub returns-in-Ok-spread_heard-clause-written : goal.returns-in-Ok-spread_heard-clause-written
returns-in-Ok-spread_heard-clause-written g c = λ full p wide layout celled of.
    let few_states : words_in c.args.states.now < 2 ^ 64 = omega (arith, c.words-few_states.ensures, c.words-few_states.type_inv) in
    let few_inputs : words_in c.args.inputs.now < 2 ^ 64 = omega (arith, c.words-few_inputs.ensures, c.words-few_inputs.type_inv) in
    of_source c.args.states.now c.args.inputs.now c.args.words.now c.args.shape.now c.args.narrow.now full p wide layout celled of few_states few_inputs (λ (text : List ℕ). Appends (g.K.Sink.written c.args.sink.now) (g.K.Sink.written c.spread_heard.new.sink) (spread_text c.args.shape.now text)) (g.S.Source.to_come c.args.source.now)
    (made_alike (λ text. IsShort text → Appends (g.K.Sink.written c.args.sink.now) (g.K.Sink.written c.spread_heard.new.sink) (spread_text c.args.shape.now text)) (g.S.Source.to_come c.args.source.now) c.args.states.now c.args.inputs.now c.new-lines.result.states.now c.new-lines.result.inputs.now c.new-lines.ensures.states c.new-lines.ensures.inputs (c.in-Ok-spread_heard.ensures.written))

pub returns-clause-beginning : goal.returns-clause-beginning
returns-clause-beginning g c = λ full p wide layout celled of.
    let few_states : words_in c.args.states.now < 2 ^ 64 = omega (arith, c.words-few_states.ensures, c.words-few_states.type_inv) in
    let few_inputs : words_in c.args.inputs.now < 2 ^ 64 = omega (arith, c.words-few_inputs.ensures, c.words-few_inputs.type_inv) in
    of_source c.args.states.now c.args.inputs.now c.args.words.now c.args.shape.now c.args.narrow.now full p wide layout celled of few_states few_inputs (λ (text : List ℕ). AppendsBeginning (g.K.Sink.written c.args.sink.now) (g.K.Sink.written c.spread_heard.new.sink) (spread_text c.args.shape.now text)) (g.S.Source.to_come c.args.source.now)
    (made_alike (λ text. IsShort text → AppendsBeginning (g.K.Sink.written c.args.sink.now) (g.K.Sink.written c.spread_heard.new.sink) (spread_text c.args.shape.now text)) (g.S.Source.to_come c.args.source.now) c.args.states.now c.args.inputs.now c.new-lines.result.states.now c.new-lines.result.inputs.now c.new-lines.ensures.states c.new-lines.ensures.inputs (c.in-Err.ensures.beginning))

pub returns-in-Some-clause-beginning : goal.returns-in-Some-clause-beginning
returns-in-Some-clause-beginning g c = λ full p wide layout celled of. none_begun (g.S.Source.to_come c.args.source.now) (g.K.Sink.written c.args.sink.now) (λ text. spread_text c.args.shape.now (words_text (full_shape full) text))

pub returns-in_default-new-clause-beginning : goal.returns-in_default-new-clause-beginning
returns-in_default-new-clause-beginning g c = λ full p wide layout celled of. none_begun (g.S.Source.to_come c.args.source.now) (g.K.Sink.written c.args.sink.now) (λ text. spread_text c.args.shape.now (words_text (full_shape full) text))
