use Rattle.std.proofs.Common.{◌≡◌, ℕ, List, [], Option, IfSome, subst}
use Rattle.std.proofs.lemmas.Option.{IfSome_then}
use Rattle.base.specs.Lines.{text_of_lines, whole_lines}
use Rattle.btor2.specs.Trace.{Frame}
use Rattle.rises.specs.FirstRises.{word_first_rises}
use Rattle.witness.specs.ClosedWords.{IsClosedTrace}
use Rattle.witness.specs.Judgements.{Judges}
use Rattle.witness.specs.Texts.{shape_of}
use Rattle.spread.specs.Rising.{HearsRises}
use Rattle.spread.specs.Spread.{IsShort}
use Rattle.spread.proofs.RisingLemmas.{told_rises}
use Rattle.spread.proofs.SourceLemmas.{same_source}
use Rattle.spread.proofs.rising.judge_spread_with_rises.Goals as goal

pub returns-in-Ok-judge_spread_by-clause-judged : goal.returns-in-Ok-judge_spread_by-clause-judged
returns-in-Ok-judge_spread_by-clause-judged g c = λ wide of.
    subst (λ (o : Option (List ℕ)). IfSome o (λ text. IsShort text → Judges wide text c.in-Ok-judge_spread_by.judgement)) (same_source (g.S.Source.to_come c.args.source.now)) (c.in-Ok-judge_spread_by.ensures.judged wide of)

pub returns-in-Ok-judge_spread_by-clause-rises : goal.returns-in-Ok-judge_spread_by-clause-rises
returns-in-Ok-judge_spread_by-clause-rises g c = λ wide of.
    let narrow = c.args.narrow.now in
    let h = c.judge_spread_by.new.hearer in
    let source = g.S.Source.to_come c.args.source.now in
    let heard = subst (λ (o : Option (List ℕ)). IfSome o (λ text. IsShort text → (over : Unit {0}) → HearsRises c.in-Ok.hearer (shape_of wide) narrow [] → HearsRises h (shape_of wide) narrow (text_of_lines (whole_lines text)))) (same_source source) (c.in-Ok-judge_spread_by.ensures.heard wide of) in
    IfSome_then source {P = λ (text : List ℕ). IsShort text → (over : Unit {0}) → HearsRises c.in-Ok.hearer (shape_of wide) narrow [] → HearsRises h (shape_of wide) narrow (text_of_lines (whole_lines text))}
    {Q = λ (text : List ℕ). IsShort text → (fs : List Frame) → IsClosedTrace wide text fs → h.firsts ≡ word_first_rises wide text fs} heard
    (λ text f short. told_rises wide narrow of.model of.fit text short h (f short tt (c.in-Ok.ensures (shape_of wide))))
