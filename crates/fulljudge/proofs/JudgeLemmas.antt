-- What is judged over the words of a model's values is judged over the model.
use Rattle.std.proofs.Common.{◌≡◌, ℕ, suc, ◌<◌, ◌^◌, List, [], ◌∷◌, Option, Some, None, IfSome, length, refl, sym, ap, ap₂, subst, ◌∙◌, arith}
use Rattle.btor2.specs.declared.item.Item.{Item}
use Rattle.btor2.specs.Items.{is_input, is_state}
use Rattle.btor2.specs.Trace.{Frame}
use Rattle.base.specs.Lines.{text_of_lines, whole_lines}
use Rattle.fit.specs.Fitting.{Layout}
use Rattle.full.specs.Lines.{FullLine, Sort}
use Rattle.full.specs.WrittenOut.{Places}
use Rattle.witness.specs.declared.judgement.Judgement.{Judgement}
use Rattle.fit.proofs.ListLemmas.{distinct_ids}
use Rattle.fit.proofs.ModelLemmas.{wide_ids_fresh}
use Rattle.witness.specs.Texts.{Shape, shape_of}
use Rattle.witness.specs.Judgements.{initial_words, given_frames, Judges}
use Rattle.witness.specs.ClosedWords.{closed_words, IsClosedTrace}
use Rattle.witness.proofs.ReadLemmas.{IsSmall}
use Rattle.rises.specs.FirstRises.{word_first_rises}
use Rattle.rejoin.proofs.ShapeItemLemmas.{shape_is_small}
use Rattle.spread.specs.declared.spreader.Part.{Part}
use Rattle.spread.specs.declared.spreader.Part.TheVariants as part
use Rattle.spread.specs.Made.{lines_made, text_made, source_made}
use Rattle.spread.specs.Spread.{IsShort}
use Rattle.spread.specs.Stands.{part_behind}
use Rattle.fulljudge.specs.Shapes.{FullShape, full_shape, word_shape}
use Rattle.fulljudge.specs.Lines.{line_by_part, words_text}
use Rattle.fulljudge.specs.Judgements.{judged_by, JudgesFull}
use Rattle.fulljudge.specs.Rises.{JudgesFullWithRises}
use Rattle.fulljudge.specs.Written.{ComparesText}
use Rattle.fulljudge.specs.Cells.{CanBeCounted}
use Rattle.fulljudge.specs.Kept.{words_in}
use Rattle.fulljudge.specs.Compared.{StateWords, FirstWords, OfStates, HearsFirst}
use Rattle.fulljudge.specs.Judged.{IsJudgeable}
use Rattle.fulljudge.proofs.TextLemmas.{AreCounted, words_lines}
use Rattle.fulljudge.proofs.CompareLemmas.{compared_text}
use Rattle.fulljudge.proofs.FullLemmas.{trace_exists}
use Rattle.fulljudge.proofs.LawLemmas.{shape_is, text_is_judged, text_is_judged_with_rises}

-- ---- as many lines

made_count : (make : Part → List ℕ → List ℕ) (p : Part) (lines : List (List ℕ)) → length (lines_made make p lines) ≡ length lines
made_count make p [] = refl
made_count make p (line ∷ lines) = ap suc (made_count make (part_behind p line) lines)

pub short_words : (shape : FullShape) (text : List ℕ) → AreCounted shape → IsShort text → IsShort (words_text shape text)
short_words shape text few short = omega (arith, ap length (words_lines shape few text), made_count (line_by_part shape.states shape.inputs) part.Outside (whole_lines text), short)

-- ---- what is judged

-- the first rises of a text over a list, in any trace of its closed frames
abbrev pub AreRises : List Item → List ℕ → List (Option ℕ) → Type 0
AreRises items text firsts = (fs : List Frame) → IsClosedTrace items text fs → firsts ≡ word_first_rises items text fs

module _ (states inputs : List Sort) (w : StateWords) (shape : Shape) (narrow : List Item) (full : List FullLine) (p : Places) (wide : List Item) (layout : Layout) (celled : List Item) (of : IsJudgeable states inputs w shape narrow full p wide layout celled)
    (few_states : words_in states < 2 ^ 64) (few_inputs : words_in inputs < 2 ^ 64) (k : FirstWords) where
  counted : AreCounted (full_shape full)
  counted = record { states = subst (λ (l : List Sort). words_in l < 2 ^ 64) of.is_states few_states; inputs = subst (λ (l : List Sort). words_in l < 2 ^ 64) of.is_inputs few_inputs }

  same_text : (text : List ℕ) → text_made (line_by_part states inputs) text ≡ words_text (full_shape full) text
  same_text text = ap₂ (λ (s i : List Sort). text_made (line_by_part s i) text) of.is_states of.is_inputs

  abbrev known : OfStates
  known = record { sorts = states; words = w; count = words_in states }

  abbrev Heard : List ℕ → Type 0
  Heard text = HearsFirst known k (shape_of celled) narrow (text_of_lines (whole_lines text))

  abbrev made : List ℕ → List ℕ
  made text = text_made (line_by_part states inputs) text

  module _ (text : List ℕ) (short : IsShort text) where
    abbrev over : List ℕ
    over = words_text (full_shape full) text

    of_made : (P : List ℕ → Type 0) → (IsShort (made text) → P (made text)) → P over
    of_made P h = subst (λ (t : List ℕ). IsShort t → P t) (same_text text) h (short_words (full_shape full) text counted short)

    few : CanBeCounted celled
    few = let small = shape_is_small celled of.fitted.model in record { bads = small.bads; states = small.states; inputs = small.inputs }

    compares : Heard over → ComparesText full p wide layout celled text k.found
    compares hears =
        let fresh = wide_ids_fresh celled of.fitted.model in
        let inputs' = distinct_ids (λ x. is_input x.body) celled fresh in
        let states' = distinct_ids (λ x. is_state x.body) celled fresh in
        let own_bads : (word_shape (full_shape full)).bads < 2 ^ 64 = subst (λ (n : ℕ). n < 2 ^ 64) (ap (λ (s : Shape). s.bads) (shape_is full p wide layout celled of.written of.words of.fitted.model inputs' states')) few.bads in
        let own_small : IsSmall (word_shape (full_shape full)) = record { bads = own_bads; states = counted.states; inputs = counted.inputs } in
        compared_text full p wide layout celled of.written of.words of.fitted.model inputs' states' narrow of.fitted.fit w of.state_words text counted (record { bads = few.bads; states = few.states; inputs = few.inputs }) own_small k (hears.0.sorts ∙ of.is_states) hears.0.words
        (hears.0.count ∙ ap words_in of.is_states) hears.1

    judged_text : (j : Judgement) → (IsShort (made text) → Judges celled (made text) j) → (IsShort (made text) → Heard (made text)) → JudgesFull full text (judged_by states k.found j)
    judged_text j h heard =
        subst (λ (l : List Sort). JudgesFull full text (judged_by l k.found j)) (sym of.is_states)
        (text_is_judged full p wide layout celled text k.found j of.written of.words of.fitted.model few (compares (of_made Heard heard)) (of_made (λ t. Judges celled t j) h))

    -- the same beside first rises over the list
    rising_text : (j : Judgement) (firsts : List (Option ℕ)) → (IsShort (made text) → Judges celled (made text) j) → (IsShort (made text) → Heard (made text)) → (IsShort (made text) → AreRises celled (made text) firsts)
        → JudgesFullWithRises full text (judged_by states k.found j) firsts
    rising_text j firsts h heard are =
        let model = of.fitted.model in
        let trace = trace_exists celled (initial_words celled (closed_words celled over)) (given_frames celled (closed_words celled over)) model in
        subst (λ (l : List Sort). JudgesFullWithRises full text (judged_by l k.found j) firsts) (sym of.is_states)
        (text_is_judged_with_rises full p wide layout celled text k.found j firsts of.written of.words model few (compares (of_made Heard heard)) (of_made (λ t. AreRises celled t firsts) are trace.0 trace.1)
        (of_made (λ t. Judges celled t j) h))

  pub judged_source : (source : Option (List ℕ)) (j : Judgement) → IfSome (source_made (line_by_part states inputs) source) (λ text. IsShort text → Judges celled text j) → IfSome (source_made (line_by_part states inputs) source) (λ text. IsShort text → Heard text)
      → IfSome source (λ text. IsShort text → JudgesFull full text (judged_by states k.found j))
  judged_source None j h heard = tt
  judged_source (Some text) j h heard = λ short. judged_text text short j h heard

  pub rising_source : (source : Option (List ℕ)) (j : Judgement) (firsts : List (Option ℕ)) → IfSome (source_made (line_by_part states inputs) source) (λ text. IsShort text → Judges celled text j)
      → IfSome (source_made (line_by_part states inputs) source) (λ text. IsShort text → Heard text) → IfSome (source_made (line_by_part states inputs) source) (λ text. IsShort text → AreRises celled text firsts)
      → IfSome source (λ text. IsShort text → JudgesFullWithRises full text (judged_by states k.found j) firsts)
  rising_source None j firsts h heard are = tt
  rising_source (Some text) j firsts h heard are = λ short. rising_text text short j firsts h heard are
