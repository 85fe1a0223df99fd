-- What is said of the text that a source becomes, of the source's text.
use Rattle.std.proofs.Common.{◌≡◌, ℕ, ◌<◌, ◌^◌, List, [], Option, Some, None, IfSome, refl, sym, ap, ap₂, subst, ◌∙◌}
use Rattle.std.proofs.KnownBytes.{Appends-nil}
use Rattle.base.specs.Device.{AppendsBeginning}
use Rattle.btor2.specs.declared.item.Item.{Item}
use Rattle.fit.specs.Fitting.{Layout}
use Rattle.full.specs.Lines.{FullLine, Sort}
use Rattle.full.specs.WrittenOut.{Places}
use Rattle.witness.specs.declared.judgement.Judgement.{Judgement}
use Rattle.witness.specs.declared.judgement.Judgement.TheVariants as judgement
use Rattle.witness.specs.Texts.{Shape}
use Rattle.witness.specs.Judgements.{unplayed, Judges}
use Rattle.rejoin.specs.Pieces.{joined_judgement}
use Rattle.spread.specs.Answers.{KeepsJudgement}
use Rattle.spread.specs.Made.{text_made, source_made}
use Rattle.spread.specs.Spread.{IsShort, spread_text}
use Rattle.fulljudge.specs.Shapes.{full_shape}
use Rattle.fulljudge.specs.Kept.{words_in}
use Rattle.fulljudge.specs.Lines.{line_by_part, words_text}
use Rattle.fulljudge.specs.Judgements.{judged_by}
use Rattle.fulljudge.specs.Judged.{IsJudgeable}
use Rattle.fulljudge.specs.Compared.{StateWords}
use Rattle.fulljudge.proofs.TextLemmas.{AreCounted}
use Rattle.fulljudge.proofs.JudgeLemmas.{short_words}
use Rattle.fulljudge.specs.Spreading.{KeepsSpread}

-- what is said of the text that lines by these sorts become
pub made_alike : (P : List ℕ → Type 0) (source : Option (List ℕ)) (states inputs made_states made_inputs : List Sort) → made_states ≡ states → made_inputs ≡ inputs
    → IfSome (source_made (line_by_part made_states made_inputs) source) P → IfSome (source_made (line_by_part states inputs) source) P
made_alike P source states inputs made_states made_inputs s i h =
    subst (λ (l : List Sort). IfSome (source_made (line_by_part states l) source) P) i (subst (λ (l : List Sort). IfSome (source_made (line_by_part l made_inputs) source) P) s h)

-- nothing written is a beginning of any text
pub none_begun : (source out : Option (List ℕ)) (said : List ℕ → List ℕ) → IfSome source (λ text. IsShort text → AppendsBeginning out out (said text))
none_begun None out said = tt
none_begun (Some text) out said = λ short. ([], (said text, refl), Appends-nil out)

unplayed_word : (sorts : List Sort) (d : Option ℕ) (j : Judgement) → unplayed (judged_by sorts d j) ≡ None → unplayed j ≡ None
unplayed_word sorts d judgement.NoClaim h = h
unplayed_word sorts d (judgement.Malformed line why) h = h
unplayed_word sorts d _ h = refl

module _ (states inputs : List Sort) (w : StateWords) (shape : Shape) (narrow : List Item) (full : List FullLine) (p : Places) (wide : List Item) (layout : Layout) (celled : List Item) (of : IsJudgeable states inputs w shape narrow full p wide layout celled) (few_states : words_in states < 2 ^ 64)
    (few_inputs : words_in inputs < 2 ^ 64) where
  counted : AreCounted (full_shape full)
  counted = record { states = subst (λ (l : List Sort). words_in l < 2 ^ 64) of.is_states few_states; inputs = subst (λ (l : List Sort). words_in l < 2 ^ 64) of.is_inputs few_inputs }

  same_words : (text : List ℕ) → text_made (line_by_part states inputs) text ≡ words_text (full_shape full) text
  same_words text = ap₂ (λ (s i : List Sort). text_made (line_by_part s i) text) of.is_states of.is_inputs

  pub of_source : (P : List ℕ → Type 0) (source : Option (List ℕ)) → IfSome (source_made (line_by_part states inputs) source) (λ text. IsShort text → P text) → IfSome source (λ text. IsShort text → P (words_text (full_shape full) text))
  of_source P None h = tt
  of_source P (Some text) h = λ short. subst (λ (t : List ℕ). IsShort t → P t) (same_words text) h (short_words (full_shape full) text counted short)

  kept_text : (text : List ℕ) (d : Option ℕ) (i k : Judgement) → i ≡ judged_by states d k → KeepsJudgement celled narrow (words_text (full_shape full) text) k → KeepsSpread states shape narrow full text i
  kept_text text d i k is h = λ played.
      let one = h (unplayed_word states d k (ap unplayed (sym is) ∙ played)) in (
        one.0,
        d,
        (subst (λ (s : Shape). Judges narrow (spread_text s (words_text (full_shape full) text)) one.0) (sym of.fitted.is_shape) one.1.0, is ∙ ap (judged_by states d) (one.1.1 ∙ ap (λ (s : Shape). joined_judgement s one.0) (sym of.fitted.is_shape))),
      )

  pub kept_source : (source : Option (List ℕ)) (d : Option ℕ) (i k : Judgement) → i ≡ judged_by states d k → IfSome (source_made (line_by_part states inputs) source) (λ text. IsShort text → KeepsJudgement celled narrow text k)
      → IfSome source (λ text. IsShort text → KeepsSpread states shape narrow full text i)
  kept_source None d i k is h = tt
  kept_source (Some text) d i k is h = λ short. kept_text text d i k is (subst (λ (t : List ℕ). IsShort t → KeepsJudgement celled narrow t k) (same_words text) h (short_words (full_shape full) text counted short))
