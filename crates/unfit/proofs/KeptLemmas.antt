-- What is judged of a text over the fitted model is judged of what it is joined to over the list.
use Rattle.std.proofs.Common.{◌≡◌, ℕ, ◌^◌, ◌<◌, ◌≤◌, Bool, true, false, List, [], Option, Some, None, IfSome, Result, Ok, Err, IfOk, length, refl, sym, ap, subst, ◌∙◌, arith}
use Rattle.std.proofs.lemmas.Bool.{false_from_ne_true}
use Rattle.std.proofs.lemmas.List.Elements.{All-nil}
use Rattle.base.specs.Lines.{IsLine, text_of_lines, whole_lines}
use Rattle.btor2.specs.declared.item.Item.{Item}
use Rattle.fitting.specs.Models.{IsFit}
use Rattle.witness.specs.declared.judgement.Judgement.{Judgement}
use Rattle.witness.specs.Texts.{Shape, Witness, IsWitness, Says, is_comment, most_lines, shape_of, witness_lines}
use Rattle.witness.specs.Readings.{Fault}
use Rattle.witness.specs.Admits.{Place, AtEnd, Read, nothing_read, is_at_end, word_reader, read_text, witness_of}
use Rattle.witness.specs.ClosedWords.{said_in}
use Rattle.witness.specs.Judgements.{words_of, makes_no_claim, JudgesWords, JudgesAs, Judges}
use Rattle.witness.proofs.FitLemmas.{shape_is_small}
use Rattle.witness.proofs.JudgedLemmas.{read_judged}
use Rattle.witness.proofs.ReadLemmas.{IsSmall, all_read, says_read}
use Rattle.witness.proofs.ReadTextLemmas.{ended, read_says}
use Rattle.witness.proofs.ReadingLemmas.{text_was_read, was_all_read}
use Rattle.witness.proofs.WordJudgeLemmas.{nothing_is_said}
use Rattle.rejoin.specs.Pieces.{joined_judgement}
use Rattle.rejoin.proofs.AlikeLemmas.{shapes_cut, alike_judged}
use Rattle.unfit.specs.Joined.{Wide, Lined, join_witness}
use Rattle.unfit.specs.Unfitted.{said_lines, said_lines_with, join_read, unfit_lines, unfit_lines_with, unfit_text, unfit_text_with, IsOfWitness, KeepsJudgement}
use Rattle.unfit.proofs.CountLemmas.{lines_counted}
use Rattle.unfit.proofs.StepLemmas.{unfit_by_lines}
use Rattle.unfit.proofs.WitnessLemmas.{joined_alike, joined_valid}

plain_by_lines : (w : Wide) (narrow : List Item) (text : List ℕ) → unfit_text w narrow text ≡ text_of_lines (unfit_lines w narrow (said_in narrow text))
unfolding unfit_text
plain_by_lines w narrow text = refl

-- ---- a text that is read

-- it makes a claim
pub makes_claim : (shape : Shape) (text : List ℕ) (r : Read) → read_text shape text ≡ Ok r → makes_no_claim 0 (whole_lines text) ≡ false
makes_claim shape text r read =
    false_from_ne_true (makes_no_claim 0 (whole_lines text)) (λ none.
    let done = (text_was_read (word_reader shape) text r read).done in
    let is : nothing_read ≡ r = sym (nothing_is_said shape text none) ∙ was_all_read (word_reader shape) text r read in
    absurd (cc (ap (λ (s : Read). is_at_end s.place) is, done)))

-- what is judged of what it says
judged_by_words : (items : List Item) (text : List ℕ) (w : Witness) (j : Judgement) → IsSmall (shape_of items) → Says (shape_of items) text w → JudgesWords items (words_of w) j → Judges items text j
judged_by_words items text w j small says judged =
    let read = says_read (shape_of items) text w small says in
    read_judged (λ (s : Read). JudgesWords items (words_of (witness_of s))) (makes_no_claim 0 (whole_lines text)) (read_text (shape_of items) text) (Ok (all_read w)) j (makes_claim (shape_of items) text (all_read w) read) read judged

module _ (wide narrow : List Item) (fit : IsFit wide narrow) (w : Wide) (shape : w.shape ≡ shape_of wide) (small : IsSmall (shape_of wide)) (text : List ℕ) where
  -- what is written are the lines of the joined witness
  pub written_is : (r : Read) → read_text (shape_of narrow) text ≡ Ok r → unfit_text w narrow text ≡ text_of_lines (witness_lines (shape_of wide) [] (join_witness w narrow (witness_of r)))
  written_is r read =
      let were = text_was_read (word_reader (shape_of narrow)) text r read in
      plain_by_lines w narrow text
      ∙ ap (λ (s : Read). text_of_lines (unfit_lines w narrow s)) (was_all_read (word_reader (shape_of narrow)) text r read)
      ∙ ap (λ (p : Place). text_of_lines (said_lines w.shape (join_read w narrow r) p)) (ended r.place were.done)
      ∙ ap (λ (s : Shape). text_of_lines (said_lines s (join_read w narrow r) AtEnd)) shape

  -- they are few, and it is a witness
  pub written_few : (r : Read) → read_text (shape_of narrow) text ≡ Ok r → length (witness_lines (shape_of wide) [] (join_witness w narrow (witness_of r))) ≤ most_lines
  written_few r read =
      let says = read_says (shape_of narrow) text r (shape_is_small narrow fit.well_formed) read in
      let fewer = lines_counted w narrow (shape_of narrow) says.comments (witness_of r) in
      let same = ap (λ (s : Shape). length (witness_lines s [] (join_witness w narrow (witness_of r)))) shape in
      omega (arith, says.few, fewer, same)

  pub written_valid : (r : Read) → read_text (shape_of narrow) text ≡ Ok r → IsWitness (shape_of wide) (join_witness w narrow (witness_of r))
  written_valid r read = joined_valid wide narrow fit w shape (witness_of r) (read_says (shape_of narrow) text r (shape_is_small narrow fit.well_formed) read).valid

  written_says : (r : Read) → read_text (shape_of narrow) text ≡ Ok r → Says (shape_of wide) (unfit_text w narrow text) (join_witness w narrow (witness_of r))
  written_says r read = record {
    comments = [];
    lines = All-nil IsLine;
    marked = All-nil (λ (line : List ℕ). is_comment line ≡ true);
    whole = written_is r read;
    valid = written_valid r read;
    few = written_few r read;
  }

  words_kept : (r : Read) (j : Judgement) → read_text (shape_of narrow) text ≡ Ok r → JudgesWords narrow (words_of (witness_of r)) j → Judges wide (unfit_text w narrow text) (joined_judgement (shape_of wide) j)
  words_kept r j read judged =
      let says = read_says (shape_of narrow) text r (shape_is_small narrow fit.well_formed) read in
      judged_by_words wide (unfit_text w narrow text) (join_witness w narrow (witness_of r)) (joined_judgement (shape_of wide) j) small (written_says r read)
      (alike_judged wide narrow fit (words_of (join_witness w narrow (witness_of r))) (words_of (witness_of r)) j (joined_alike wide narrow fit w shape (witness_of r) says.valid) judged)

  pub judgement_kept : (j : Judgement) → Judges narrow text j → KeepsJudgement wide (unfit_text w narrow text) (joined_judgement (shape_of wide) j)
  judgement_kept j judges = by (makes_no_claim 0 (whole_lines text)) (read_text (shape_of narrow) text) refl judges
    where
      by : (none : Bool) (o : Result Read Fault) → read_text (shape_of narrow) text ≡ o → JudgesAs (λ (r : Read). JudgesWords narrow (words_of (witness_of r))) none o j → KeepsJudgement wide (unfit_text w narrow text) (joined_judgement (shape_of wide) j)
      by true o read is = λ of. absurd (subst (λ (i : Judgement). IsOfWitness (joined_judgement (shape_of wide) i)) is of)
      by false (Err e) read is = λ of. absurd (subst (λ (i : Judgement). IsOfWitness (joined_judgement (shape_of wide) i)) is of)
      by false (Ok r) read is = λ of. words_kept r j read is

-- ---- of a witness

-- what is judged of a witness is of a text that is read
pub read_of_witness : (narrow : List Item) (text : List ℕ) (j : Judgement) → Judges narrow text j → IsOfWitness j → (r : Read) × (read_text (shape_of narrow) text ≡ Ok r)
read_of_witness narrow text j judges of = by (makes_no_claim 0 (whole_lines text)) (read_text (shape_of narrow) text) refl judges
  where
    by : (none : Bool) (o : Result Read Fault) → read_text (shape_of narrow) text ≡ o → JudgesAs (λ (r : Read). JudgesWords narrow (words_of (witness_of r))) none o j → (r : Read) × (read_text (shape_of narrow) text ≡ Ok r)
    by true o read is = absurd (subst IsOfWitness is of)
    by false (Err e) read is = absurd (subst IsOfWitness is of)
    by false (Ok r) read is = (r, read)

-- and the text that says it has the lines of all frames
pub written_with : (l : Lined) (narrow : List Item) (text : List ℕ) (r : Read) → read_text (shape_of narrow) text ≡ Ok r → unfit_text_with l narrow text ≡ text_of_lines (said_lines_with l (join_read l.wide narrow r) AtEnd)
written_with l narrow text r read =
    let were = text_was_read (word_reader (shape_of narrow)) text r read in
    unfit_by_lines l narrow text
    ∙ ap (λ (s : Read). text_of_lines (unfit_lines_with l narrow s)) (was_all_read (word_reader (shape_of narrow)) text r read)
    ∙ ap (λ (p : Place). text_of_lines (said_lines_with l (join_read l.wide narrow r) p)) (ended r.place were.done)

-- indices over a list that a model is fitted to can be read
pub small_shape : (wide narrow : List Item) → IsFit wide narrow → (s : Shape) → s ≡ shape_of wide → length s.states < 2 ^ 64 → length s.inputs < 2 ^ 64 → IsSmall (shape_of wide)
small_shape wide narrow fit s is states inputs = record {
  bads = subst (λ (n : ℕ). n < 2 ^ 64) (ap (λ (t : Shape). t.bads) (shapes_cut wide narrow fit)) (shape_is_small narrow fit.well_formed).bads;
  states = subst (λ (t : Shape). length t.states < 2 ^ 64) is states;
  inputs = subst (λ (t : Shape). length t.inputs < 2 ^ 64) is inputs;
}

-- what is answered is that judgement
pub kept_as : (wide : List Item) (written : List ℕ) (s : Shape) (i j : Judgement) → s ≡ shape_of wide → j ≡ joined_judgement s i → KeepsJudgement wide written (joined_judgement (shape_of wide) i) → KeepsJudgement wide written j
kept_as wide written s i j is e h = subst (KeepsJudgement wide written) (sym (e ∙ ap (λ (t : Shape). joined_judgement t i) is)) h

-- ---- of a source

module _ (wide narrow : List Item) (fit : IsFit wide narrow) (w : Wide) (shape : w.shape ≡ shape_of wide) (states : length w.shape.states < 2 ^ 64) (inputs : length w.shape.inputs < 2 ^ 64) where
  pub text_kept : (text : List ℕ) (i j : Judgement) → Judges narrow text j → i ≡ joined_judgement w.shape j → KeepsJudgement wide (unfit_text w narrow text) i
  text_kept text i j judges is = kept_as wide (unfit_text w narrow text) w.shape j i shape is (judgement_kept wide narrow fit w shape (small_shape wide narrow fit w.shape shape states inputs) text j judges)

  pub source_kept : {E : Type 0} (r : Result Judgement E) (source : Option (List ℕ)) → IfOk r (λ i. IfSome source (λ text. (j : Judgement) × (Judges narrow text j × (i ≡ joined_judgement w.shape j))))
      → IfOk r (λ i. IfSome source (λ text. KeepsJudgement wide (unfit_text w narrow text) i))
  source_kept (Err e) source h = tt
  source_kept (Ok i) None h = tt
  source_kept (Ok i) (Some text) h = text_kept text i h.0 h.1.0 h.1.1
