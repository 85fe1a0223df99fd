-- First rises that are heard beside the first words of states.
use Rattle.std.proofs.Common.{◌≡◌, ℕ, ◌<◌, ◌^◌, List, [], Option, IfSome, sym, subst}
use Rattle.std.proofs.lemmas.Option.{IfSome_then}
use Rattle.base.specs.Lines.{text_of_lines, whole_lines}
use Rattle.btor2.specs.declared.item.Item.{Item}
use Rattle.fit.specs.Fitting.{Layout}
use Rattle.full.specs.Lines.{FullLine, Sort}
use Rattle.full.specs.WrittenOut.{Places}
use Rattle.witness.specs.declared.judgement.Judgement.{Judgement}
use Rattle.witness.specs.Judgements.{Judges}
use Rattle.witness.specs.Texts.{Shape, shape_of}
use Rattle.spread.specs.declared.hearing.Both.{Both}
use Rattle.spread.specs.declared.rising.RiseHearer.{RiseHearer}
use Rattle.spread.specs.Heard.{HearsText}
use Rattle.spread.specs.Made.{source_made}
use Rattle.spread.specs.Rising.{HearsRises}
use Rattle.spread.specs.Spread.{IsShort}
use Rattle.spread.proofs.RisingLemmas.{told_rises}
use Rattle.fulljudge.specs.Compared.{StateWords, FirstWords, OfStates, HearsFirst}
use Rattle.fulljudge.specs.Judged.{IsJudgeable}
use Rattle.fulljudge.specs.Judgements.{judged_by, JudgesFull}
use Rattle.fulljudge.specs.Kept.{words_in}
use Rattle.fulljudge.specs.Lines.{line_by_part}
use Rattle.fulljudge.specs.Rises.{JudgesFullWithRises}
use Rattle.fulljudge.proofs.JudgeLemmas.{AreRises, rising_source}
use Rattle.fulljudge.proofs.LawLemmas.{without_rises}

abbrev pub HearsBoth : OfStates × Unit {0} → Both FirstWords RiseHearer → Shape → List Item → List ℕ → Type 0
HearsBoth over h shape narrow text = HearsFirst over.0 h.one shape narrow text × HearsRises h.other shape narrow text

-- without them it is judged so too
pub judged_of : (full : List FullLine) (source : Option (List ℕ)) (told : Judgement) (firsts : List (Option ℕ)) → IfSome source (λ text. IsShort text → JudgesFullWithRises full text told firsts) → IfSome source (λ text. IsShort text → JudgesFull full text told)
judged_of full source told firsts h = IfSome_then source {P = λ (text : List ℕ). IsShort text → JudgesFullWithRises full text told firsts} {Q = λ (text : List ℕ). IsShort text → JudgesFull full text told} h (λ text f short. without_rises full text told firsts (f short))

module _ (states inputs : List Sort) (w : StateWords) (shape : Shape) (narrow : List Item) (full : List FullLine) (p : Places) (wide : List Item) (layout : Layout) (celled : List Item) (of : IsJudgeable states inputs w shape narrow full p wide layout celled)
    (few_states : words_in states < 2 ^ 64) (few_inputs : words_in inputs < 2 ^ 64) where
  abbrev known : OfStates
  known = record { sorts = states; words = w; count = words_in states }

  -- what is judged of a source of which both hear all lines
  pub rising_heard : (source : Option (List ℕ)) (j told : Judgement) (a b : Both FirstWords RiseHearer) → HearsFirst known a.one (shape_of celled) narrow [] → HearsRises a.other (shape_of celled) narrow []
      → IfSome (source_made (line_by_part states inputs) source) (λ text. IsShort text → Judges celled text j) → HearsText HearsBoth a b celled narrow (source_made (line_by_part states inputs) source) → told ≡ judged_by states b.one.found j
      → IfSome source (λ text. IsShort text → JudgesFullWithRises full text told b.other.firsts)
  rising_heard source j told a b words rises judged heard is =
      subst (λ (i : Judgement). IfSome source (λ text. IsShort text → JudgesFullWithRises full text i b.other.firsts)) (sym is)
      (rising_source states inputs w shape narrow full p wide layout celled of few_states few_inputs b.one source j b.other.firsts judged
      (IfSome_then (source_made (line_by_part states inputs) source) {P = Heard} {Q = λ (text : List ℕ). IsShort text → HearsFirst known b.one (shape_of celled) narrow (text_of_lines (whole_lines text))} heard (λ text f short. (f short (known, tt) (words, rises)).0))
      (IfSome_then (source_made (line_by_part states inputs) source) {P = Heard} {Q = λ (text : List ℕ). IsShort text → AreRises celled text b.other.firsts} heard
      (λ text f short. told_rises celled narrow of.fitted.model of.fitted.fit text short b.other (f short (known, tt) (words, rises)).1)))
    where
      Heard : List ℕ → Type 0
      Heard text = IsShort text → (over : OfStates × Unit {0}) → HearsBoth over a (shape_of celled) narrow [] → HearsBoth over b (shape_of celled) narrow (text_of_lines (whole_lines text))
