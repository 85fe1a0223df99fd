-- What is judged over the fitted model is judged over the model of the whole language of the text that says the same.
use Rattle.std.proofs.Common.{◌≡◌, ℕ, ◌<◌, ◌≤◌, ◌^◌, ◌⊎◌, Bool, true, List, [], ◌∷◌, Option, Some, None, IfSome, Ok, length, map, refl, sym, ap, ap₂, subst, ◌∙◌, inl, inr, arith}
use Rattle.std.proofs.lemmas.Bool.{cases_lt}
use Rattle.std.proofs.lemmas.List.Elements.{All-nil}
use Rattle.base.specs.Lines.{IsLine, text_of_lines, whole_lines}
use Rattle.btor2.specs.declared.item.Item.{Item}
use Rattle.btor2.specs.Items.{is_input, is_state, is_free}
use Rattle.btor2.specs.Trace.{bits_of}
use Rattle.fit.specs.Fitting.{Layout, ids_of}
use Rattle.fit.proofs.ListLemmas.{AreDistinct, distinct_ids}
use Rattle.fit.proofs.ModelLemmas.{wide_ids_fresh}
use Rattle.fitting.specs.Models.{IsFit}
use Rattle.full.specs.Lines.{FullLine, Sort}
use Rattle.full.specs.WrittenOut.{Places}
use Rattle.witness.specs.declared.judgement.Judgement.{Judgement}
use Rattle.witness.specs.declared.judgement.Judgement.TheVariants as judgement
use Rattle.witness.specs.Texts.{Shape, Parts, Witness, AreFrames, IsWitness, Says, is_comment, is_free_index, most_lines, shape_of, witness_lines}
use Rattle.witness.specs.Readings.{text_read}
use Rattle.witness.specs.Admits.{Read, read_text, witness_of, word_reader}
use Rattle.witness.specs.Judgements.{frame_words, words_of, given, initial_part, initial_words, first_different, makes_no_claim, JudgesWords, Judges}
use Rattle.witness.proofs.FitLemmas.{shape_is_small}
use Rattle.witness.proofs.JudgedLemmas.{read_judged, judged_says}
use Rattle.witness.proofs.ReadLemmas.{IsSmall, all_read, says_read}
use Rattle.witness.proofs.ReadTextLemmas.{read_says}
use Rattle.rejoin.specs.Pieces.{joined_judgement}
use Rattle.rejoin.proofs.AlikeLemmas.{alike_judged}
use Rattle.rejoin.proofs.ShapeItemLemmas.{shape_is_small as wide_is_small}
use Rattle.unfit.specs.Joined.{Names, Wide, Lined, listed, lined, join_witness}
use Rattle.unfit.specs.Unfitted.{IsOfWitness}
use Rattle.unfit.proofs.KeptLemmas.{makes_claim, small_shape, read_of_witness, written_with, written_few, written_valid}
use Rattle.unfit.proofs.WitnessLemmas.{joined_alike}
use Rattle.fulljudge.specs.Shapes.{FullShape, full_shape, value_of_word, word_shape}
use Rattle.fulljudge.specs.Compared.{StateWords}
use Rattle.fulljudge.specs.Judged.{HasNoFirst, IsJudgeable}
use Rattle.fulljudge.specs.Kept.{words_in}
use Rattle.fulljudge.specs.Lines.{words_text}
use Rattle.fulljudge.specs.Judgements.{judged_by, IsJudged, JudgesFull}
use Rattle.fulljudge.proofs.DifferLemmas.{word_differs}
use Rattle.fulljudge.proofs.ExtraLemmas.{with_states}
use Rattle.fulljudge.proofs.FullLemmas.{given_here}
use Rattle.fulljudge.proofs.LawLemmas.{shape_is, text_judged_by}
use Rattle.fulljudge.proofs.LeftOutLemmas.{less_judged, valid_said}
use Rattle.fulljudge.proofs.OwnerLemmas.{owner_past}
use Rattle.fulljudge.proofs.ShapeLemmas.{input_widths, none_more_free, as_many}
use Rattle.fulljudge.proofs.TextLemmas.{AreCounted}
use Rattle.fulljudge.proofs.ValidLemmas.{had, all_had, given_within}
use Rattle.fullunfit.specs.Titles.{first_fronts, word_fronts, word_symbols}
use Rattle.fullunfit.specs.Unfitted.{by_values, unfit_full_text, told_witness, NamesOwnState, KeepsFullJudgement}
use Rattle.fullunfit.proofs.LessLemmas.{free_front, stays_valid, stays_few, frames_less}
use Rattle.fullunfit.proofs.TextLemmas.{text_goes}

-- ---- judgements of witnesses

of_joined : (shape : Shape) (sorts : List Sort) (j : Judgement) → IsOfWitness (judged_by sorts None (joined_judgement shape j)) → IsOfWitness j
of_joined shape sorts judgement.NoClaim h = h
of_joined shape sorts (judgement.Malformed line why) h = h
of_joined shape sorts (judgement.InitDiffers k) h = tt
of_joined shape sorts _ h = h

-- ---- a text

module _ (states inputs : List Sort) (places : StateWords) (shape : Shape) (names : Names) (named : Bool) (narrow : List Item) (full : List FullLine) (p : Places) (wide : List Item) (layout : Layout) (celled : List Item)
    (of : IsJudgeable states inputs places shape narrow full p wide layout celled) (few_states : words_in states < 2 ^ 64) (few_inputs : words_in inputs < 2 ^ 64) where
  abbrev sorts : FullShape
  sorts = full_shape full

  -- by the sorts of the model
  abbrev lined_by : Lined
  lined_by = by_values sorts.states sorts.inputs shape names named places

  abbrev written : List ℕ → List ℕ
  written text = unfit_full_text sorts.states sorts.inputs shape names named places narrow text

  same_text : (text : List ℕ) → unfit_full_text states inputs shape names named places narrow text ≡ written text
  same_text text = ap₂ (λ (s i : List Sort). unfit_full_text s i shape names named places narrow text) of.is_states of.is_inputs

  is_shape : shape ≡ shape_of celled
  is_shape = of.fitted.is_shape

  fit : IsFit celled narrow
  fit = of.fitted.fit

  small_celled : IsSmall (shape_of celled)
  small_celled = let small = wide_is_small celled of.fitted.model in record { bads = small.bads; states = small.states; inputs = small.inputs }

  long_states : length shape.states < 2 ^ 64
  long_states = subst (λ (s : Shape). length s.states < 2 ^ 64) (sym is_shape) small_celled.states

  long_inputs : length shape.inputs < 2 ^ 64
  long_inputs = subst (λ (s : Shape). length s.inputs < 2 ^ 64) (sym is_shape) small_celled.inputs

  own_states : words_in sorts.states < 2 ^ 64
  own_states = subst (λ (l : List Sort). words_in l < 2 ^ 64) of.is_states few_states

  own_inputs : words_in sorts.inputs < 2 ^ 64
  own_inputs = subst (λ (l : List Sort). words_in l < 2 ^ 64) of.is_inputs few_inputs

  distinct_inputs : AreDistinct (ids_of (λ x. is_input x.body) celled)
  distinct_inputs = distinct_ids (λ x. is_input x.body) celled (wide_ids_fresh celled of.fitted.model)

  distinct_states : AreDistinct (ids_of (λ x. is_state x.body) celled)
  distinct_states = distinct_ids (λ x. is_state x.body) celled (wide_ids_fresh celled of.fitted.model)

  many_inputs : length (shape_of celled).inputs ≡ words_in sorts.inputs
  many_inputs = ap length (input_widths full p wide layout celled of.written of.words of.fitted.model)

  is_with : shape_of celled ≡ with_states (word_shape sorts) (map (bits_of celled) of.words.more) (map (is_free celled) of.words.more)
  is_with = shape_is full p wide layout celled of.written of.words of.fitted.model distinct_inputs distinct_states

  free_words : (i : ℕ) → is_free_index (shape_of celled) i ≡ true → i < words_in sorts.states
  free_words i free =
      let flags = map (is_free celled) of.words.more in
      let front = free_front (word_shape sorts).free flags i (none_more_free full p wide layout celled of.written of.words of.fitted.model) (ap (λ (s : Shape). is_free_index s i) (sym is_with) ∙ free) in
      subst (λ (n : ℕ). i < n) (as_many full p wide layout celled of.written of.words of.fitted.model) front

  module _ (text : List ℕ) (r : Read) (read : read_text (shape_of narrow) text ≡ Ok r) where
    abbrev w : Wide
    w = lined_by.wide

    abbrev v : Witness
    v = join_witness w narrow (witness_of r)

    abbrev less : Witness
    less = told_witness lined_by v

    small : IsSmall (shape_of celled)
    small = small_shape celled narrow fit shape is_shape long_states long_inputs

    valid : IsWitness (shape_of celled) v
    valid = written_valid celled narrow fit w is_shape small text r read

    few : length (witness_lines (shape_of celled) [] v) ≤ most_lines
    few = written_few celled narrow fit w is_shape small text r read

    -- the text of words of what is written has the lines of the words that are told
    words_written : words_text sorts (written text) ≡ text_of_lines (witness_lines (shape_of celled) [] less)
    words_written =
        ap (words_text sorts) (written_with lined_by narrow text r read)
        ∙ text_goes sorts lined_by places.leaves places.nodes refl refl long_states long_inputs own_states own_inputs v (subst (λ (s : Shape). s.bads < 2 ^ 64) (sym is_shape) small.bads) (subst (λ (s : Shape). IsWitness s v) (sym is_shape) valid)
        (subst (λ (s : Shape). length (witness_lines s [] v) ≤ most_lines) (sym is_shape) few)
        ∙ ap (λ (s : Shape). text_of_lines (witness_lines s [] less)) is_shape

    less_says : Says (shape_of celled) (words_text sorts (written text)) less
    less_says =
        let fewer = stays_few (shape_of celled) lined_by sorts.states sorts.inputs places.leaves places.nodes refl refl own_states own_inputs many_inputs free_words v in
        record {
          comments = [];
          lines = All-nil IsLine;
          marked = All-nil (λ (line : List ℕ). is_comment line ≡ true);
          whole = words_written;
          valid = stays_valid (shape_of celled) lined_by sorts.states sorts.inputs places.leaves places.nodes refl refl own_states own_inputs many_inputs free_words v valid;
          few = omega (arith, few, fewer);
        }

    words_read : text_read (word_reader (shape_of celled)) (words_text sorts (written text)) ≡ Ok (all_read less)
    words_read = says_read (shape_of celled) (words_text sorts (written text)) less small less_says

    -- the judgement over the list
    joined_judged : (j : Judgement) → JudgesWords narrow (words_of (witness_of r)) j → JudgesWords celled (words_of v) (joined_judgement (shape_of celled) j)
    joined_judged j judged =
        let says = read_says (shape_of narrow) text r (shape_is_small narrow fit.well_formed) read in
        alike_judged celled narrow fit (words_of v) (words_of (witness_of r)) j (joined_alike celled narrow fit w is_shape (witness_of r) says.valid) judged

    -- a first word that differs is one of a state
    told_there : (frames : List Parts) → AreFrames (shape_of celled) frames → (k x : ℕ) → given (initial_part (map frame_words frames)) k ≡ Some x → k < length (shape_of celled).states
    told_there [] h k x e = absurd h
    told_there (first ∷ later) h k x e = given_within (shape_of celled).states (had first.states) k x (all_had (shape_of celled) (first ∷ later) h).0.0 e

    of_state : (j : Judgement) → HasNoFirst full celled ⊎ NamesOwnState full (judged_by sorts.states None j) → (k : ℕ) → j ≡ judgement.InitDiffers k → first_different celled (initial_words celled (words_of v)) ≡ Some k → k < words_in sorts.states
    of_state j (inl none) k is differs =
        let d = word_differs celled (words_of v) k differs in
        subst (λ (n : ℕ). k < n) none
        (told_there v.frames valid.frames k d.told (given_here full p wide layout celled of.written of.words of.fitted.model distinct_inputs distinct_states (words_of v) k d))
    of_state j (inr own) k is differs = by (cases_lt k (words_in sorts.states))
      where
        below : value_of_word sorts.states k < length sorts.states
        below = subst (NamesOwnState full) (ap (judged_by sorts.states None) is) own

        by : (k < words_in sorts.states) ⊎ (words_in sorts.states ≤ k) → k < words_in sorts.states
        by (inl h) = h
        by (inr past) = absurd (omega (arith, below, owner_past sorts.states k past))

    counted : AreCounted sorts
    counted = record { states = own_states; inputs = own_inputs }

    own_small : IsSmall (word_shape sorts)
    own_small = record { bads = subst (λ (n : ℕ). n < 2 ^ 64) (ap (λ (s : Shape). s.bads) is_with) small.bads; states = own_states; inputs = own_inputs }

    -- what is judged of it over the list is judged of what is written over the model
    written_judged : (j : Judgement) → JudgesWords celled (words_of v) j → HasNoFirst full celled ⊎ NamesOwnState full (judged_by sorts.states None j) → JudgesFull full (written text) (judged_by sorts.states None j)
    written_judged j judges own =
        let less_frames = frames_less (shape_of celled) lined_by sorts.states sorts.inputs places.leaves places.nodes refl refl own_states own_inputs many_inputs free_words v.frames valid.frames in
        let nodes = of.state_words.state_nodes in
        let said = valid_said full p wide layout celled of.written of.words of.fitted.model distinct_inputs distinct_states places.leaves places.nodes nodes v (words_of less) valid refl less_frames in
        let judged = less_judged full p wide layout celled of.written of.words of.fitted.model distinct_inputs distinct_states places.leaves places.nodes nodes (words_of v) (words_of less) j said judges (of_state j own) in
        text_judged_by full p wide layout celled of.written of.words of.fitted.model distinct_inputs distinct_states (written text) counted small own_small (λ (q : Read) (i : Judgement). q ≡ all_read less) None j
        (λ q e is. subst (λ (s : Read). IsJudged full (words_of (witness_of s)) (judged_by sorts.states None j)) (sym is) judged)
        (read_judged (λ (q : Read) (i : Judgement). q ≡ all_read less) (makes_no_claim 0 (whole_lines (words_text sorts (written text)))) (text_read (word_reader (shape_of celled)) (words_text sorts (written text))) (Ok (all_read less)) j
        (makes_claim (shape_of celled) (words_text sorts (written text)) (all_read less) words_read) words_read refl)

  text_judged : (text : List ℕ) (i j : Judgement) → Judges narrow text j → i ≡ judged_by states None (joined_judgement shape j) → KeepsFullJudgement full celled (unfit_full_text states inputs shape names named places narrow text) i
  text_judged text i j judges is = λ of_i own.
      let of_one : IsOfWitness j = of_joined shape states j (subst IsOfWitness is of_i) in
      let r = read_of_witness narrow text j judges of_one in
      let words = judged_says (λ (s : Read). JudgesWords narrow (words_of (witness_of s))) (makes_no_claim 0 (whole_lines text)) (read_text (shape_of narrow) text) r.0 j (makes_claim (shape_of narrow) text r.0 r.1) r.1 judges in
      let same : i ≡ judged_by sorts.states None (joined_judgement (shape_of celled) j) = is ∙ ap₂ (λ (l : List Sort) (s : Shape). judged_by l None (joined_judgement s j)) of.is_states is_shape in
      subst (λ (t : List ℕ). JudgesFull full t i) (sym (same_text text))
      (subst (JudgesFull full (written text)) (sym same)
      (written_judged text r.0 r.1 (joined_judgement (shape_of celled) j) (joined_judged text r.0 r.1 j words) (narrowed own same)))
    where
      narrowed : HasNoFirst full celled ⊎ NamesOwnState full i → i ≡ judged_by sorts.states None (joined_judgement (shape_of celled) j) → HasNoFirst full celled ⊎ NamesOwnState full (judged_by sorts.states None (joined_judgement (shape_of celled) j))
      narrowed (inl none) same = inl none
      narrowed (inr own) same = inr (subst (NamesOwnState full) same own)

  -- of a witness the text of words is what tells words by their indices
  pub told_by_words : (text : List ℕ) (r : Read) → read_text (shape_of narrow) text ≡ Ok r → words_text sorts (unfit_full_text states inputs shape names named places narrow text)
      ≡ text_of_lines (witness_lines (shape_of celled) [] (told_witness (by_values states inputs shape names named places) (join_witness (by_values states inputs shape names named places).wide narrow (witness_of r))))
  told_by_words text r read =
      ap (words_text sorts) (same_text text) ∙ words_written text r read
      ∙ ap₂ (λ (s i : List Sort). text_of_lines (witness_lines (shape_of celled) [] (told_witness (by_values s i shape names named places) (join_witness (by_values s i shape names named places).wide narrow (witness_of r))))) (sym of.is_states) (sym of.is_inputs)

  -- of a source
  pub source_kept : (source : Option (List ℕ)) (i : Judgement) → IfSome source (λ text. (j : Judgement) × (Judges narrow text j × (i ≡ judged_by states None (joined_judgement shape j))))
      → IfSome source (λ text. KeepsFullJudgement full celled (unfit_full_text states inputs shape names named places narrow text) i)
  source_kept None i h = tt
  source_kept (Some text) i h = text_judged text i h.0 h.1.0 h.1.1

-- what is answered is the judgement over the model
pub source_judged : (states : List Sort) (shape : Shape) (narrow : List Item) (source : Option (List ℕ)) (i k : Judgement) → i ≡ judged_by states None k → IfSome source (λ text. (j : Judgement) × (Judges narrow text j × (k ≡ joined_judgement shape j)))
    → IfSome source (λ text. (j : Judgement) × (Judges narrow text j × (i ≡ judged_by states None (joined_judgement shape j))))
source_judged states shape narrow None i k is h = tt
source_judged states shape narrow (Some text) i k is h = (h.0, (h.1.0, is ∙ ap (judged_by states None) h.1.1))

-- what stands beside the digits of words is as the names, the sorts and the nodes are
pub titles_are : (states inputs : List Sort) (shape : Shape) (names : Names) (named : Bool) (w : StateWords) (s i : List Sort) (of_states of_inputs : List (Option (List ℕ))) (leaves nodes none nothing : List ℕ) → s ≡ states → i ≡ inputs → of_states ≡ names.states
    → of_inputs ≡ names.inputs → leaves ≡ w.leaves → nodes ≡ w.nodes → none ≡ [] → nothing ≡ []
    → lined shape (word_symbols s of_states) (word_symbols i of_inputs) named (listed (first_fronts s leaves nodes) (word_fronts s)) (listed (first_fronts i none nothing) (word_fronts i)) ≡ by_values states inputs shape names named w
titles_are states inputs shape names named w s i of_states of_inputs leaves nodes none nothing es ei ss is l n a b = rw (es, ei, ss, is, l, n, a, b) refl
