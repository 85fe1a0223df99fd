use Rattle.std.proofs.Common.{◌≡◌, ℕ, List, refl, subst, sym, ap, ◌∙◌}
use Rattle.base.specs.Lines.{whole_lines, unfinished}
use Rattle.btor2.specs.declared.item.Item.{Item}
use Rattle.witness.specs.Stands.{IsOfLines}
use Rattle.witness.specs.Readings.{is_nothing}
use Rattle.witness.specs.Admits.{is_at_end}
use Rattle.witness.specs.declared.word_reader.Place.{Place as CodePlace}
use Rattle.witness.specs.Judgements.{Judges, first_of}
use Rattle.witness.specs.WordPlays.{WordPlay}
use Rattle.witness.specs.WordStands.{WordJudge, word_judging, place_of, StandsForWitness}
use Rattle.witness.proofs.KeptLineLemmas.{nothing_kept}
use Rattle.witness.proofs.StandsLemmas.{refused_line, refused_last, whole_text}
use Rattle.witness.proofs.WordJudgeLemmas.{Says, ended_at, whole_witness}
use Rattle.witness.proofs.word_judge.WordJudge.judgement.Goals as goal

now : (items : List Item) (text : List ℕ) (j old : WordJudge) → j ≡ old → StandsForWitness items old text → IsOfLines (word_judging items) j (whole_lines text) (unfinished text)
now items text j old same stands = (subst (λ (k : WordJudge). StandsForWitness items k text) (sym same) stands).lines

pub returns-in-Some : goal.returns-in-Some
returns-in-Some c items text stands =
    refused_line (word_judging items) (Says items) text (unfinished text) _ (now items text _ _ c.self.view_is stands) c.in-Some.why c.saturating_add-line.result c.if-self.false c.in-Some.is c.saturating_add-line.ensures

pub returns-in-Some-last_refusal : goal.returns-in-Some-last_refusal
returns-in-Some-last_refusal c items text stands =
    refused_last (word_judging items) (Says items) text (unfinished text) _ (now items text _ _ c.self.view_is stands) c.in-Some-last_refusal.why c.saturating_add-line.result c.has_ended-ended.result c.is_empty.result c.if-self.false c.in_default.is
    (c.has_ended-ended.ensures ∙ (ap (λ (x : CodePlace). is_at_end (place_of x)) c.place.ensures ∙ ended_at items text _ _ c.self.view_is stands c.in_default.is))
    (c.is_empty.ensures ∙ (ap is_nothing (ap (λ (j : WordJudge). j.line) c.self.view_is ∙ stands.line) ∙ nothing_kept (unfinished text))) (sym c.in-Some-last_refusal.ensures) c.saturating_add-line.ensures

pub returns : goal.returns
returns c items text stands =
    let play : WordPlay = c.self.inside.lines.reader.play in
    let is : c.judgement.result ≡ first_of play.differs play.breach c.unreached.result play.frames =
    c.judgement.ensures ∙ rw c.play.ensures refl in
    subst (Judges items text) (sym is)
    (whole_text (word_judging items) (Says items) text (unfinished text) _ (now items text _ _ c.self.view_is stands) c.has_ended-ended.result c.is_empty.result (first_of play.differs play.breach c.unreached.result play.frames) c.if-self.false c.in_default.is
    (c.has_ended-ended.ensures ∙ (ap (λ (x : CodePlace). is_at_end (place_of x)) c.place.ensures ∙ ended_at items text _ _ c.self.view_is stands c.in_default.is))
    (c.is_empty.ensures ∙ (ap is_nothing (ap (λ (j : WordJudge). j.line) c.self.view_is ∙ stands.line) ∙ nothing_kept (unfinished text))) (sym c.in_default-last_refusal.ensures) (whole_witness items text _ _ c.self.view_is c.unreached.result stands c.in_default.is c.unreached.ensures))
