use Rattle.std.proofs.Common.{ℕ, [], Option, ◌<◌, ◌^◌, arith, ap, ◌∙◌}
use Rattle.base.specs.Lines.{text_of_lines, whole_lines}
use Rattle.witness.specs.Judgements.{Judges}
use Rattle.witness.specs.Texts.{shape_of}
use Rattle.spread.specs.declared.hearing.Both.{Both}
use Rattle.spread.specs.declared.rising.RiseHearer.{RiseHearer}
use Rattle.spread.specs.Spread.{IsShort}
use Rattle.fulljudge.specs.Compared.{FirstWords, OfStates}
use Rattle.fulljudge.specs.Judgements.{judged_by}
use Rattle.fulljudge.specs.Kept.{words_in}
use Rattle.fulljudge.proofs.RisingLemmas.{HearsBoth, rising_heard, judged_of}
use Rattle.fulljudge.proofs.SpreadLemmas.{made_alike}
use Rattle.fulljudge.proofs.judging.judge_full_with_rises.Goals as goal

pub returns-in-Ok-judge_spread_by-clause-rises : goal.returns-in-Ok-judge_spread_by-clause-rises
returns-in-Ok-judge_spread_by-clause-rises g c = λ full p wide layout celled of.
    let few_states : words_in c.args.states.now < 2 ^ 64 = omega (arith, c.words-few_states.ensures, c.words-few_states.type_inv) in
    let few_inputs : words_in c.args.inputs.now < 2 ^ 64 = omega (arith, c.words-few_inputs.ensures, c.words-few_inputs.type_inv) in
    let narrow = c.args.narrow.now in
    let source = g.S.Source.to_come c.args.source.now in
    let a : Both FirstWords RiseHearer = record { one = c.in-Ok.one; other = c.in-Ok-new.other } in
    let b = c.judge_spread_by.new.hearer in
    rising_heard c.args.states.now c.args.inputs.now c.args.words.now c.args.shape.now narrow full p wide layout celled of few_states few_inputs source c.in-Ok-judge_spread_by.judgement c.of_values.result a b (c.in-Ok.ensures (shape_of celled) narrow) (c.in-Ok-new.ensures (shape_of celled))
    (made_alike (λ text. IsShort text → Judges celled text c.in-Ok-judge_spread_by.judgement) source c.args.states.now c.args.inputs.now c.new-lines.result.states.now c.new-lines.result.inputs.now c.new-lines.ensures.states c.new-lines.ensures.inputs (c.in-Ok-judge_spread_by.ensures.judged celled of.fitted))
    (made_alike (λ text. IsShort text → (over : OfStates × Unit {0}) → HearsBoth over a (shape_of celled) narrow [] → HearsBoth over b (shape_of celled) narrow (text_of_lines (whole_lines text))) source c.args.states.now c.args.inputs.now c.new-lines.result.states.now c.new-lines.result.inputs.now c.new-lines.ensures.states c.new-lines.ensures.inputs (c.in-Ok-judge_spread_by.ensures.heard celled of.fitted))
    (c.of_values.ensures ∙ ap (λ (d : Option ℕ). judged_by c.args.states.now d c.in-Ok-judge_spread_by.judgement) c.found.ensures)

pub returns-in-Ok-judge_spread_by-clause-judged : goal.returns-in-Ok-judge_spread_by-clause-judged
returns-in-Ok-judge_spread_by-clause-judged g c = λ full p wide layout celled of.
    judged_of full (g.S.Source.to_come c.args.source.now) c.of_values.result c.judge_spread_by.new.hearer.other.firsts (returns-in-Ok-judge_spread_by-clause-rises g c full p wide layout celled of)
