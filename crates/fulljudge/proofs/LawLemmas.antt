-- A text is judged over a model of the whole language by what is judged of the text of words that says the same.
use Rattle.std.proofs.Common.{◌≡◌, ℕ, ◌+◌, ◌<◌, ◌^◌, Bool, true, false, List, [], ◌∷◌, ◌++◌, map, flat_map, length, Option, IfSome, Result, Ok, Err, refl, sym, ap, ap₂, subst, ◌∙◌, append-nil, arith}
use Rattle.std.specs.List.{AllByRecursion}
use Rattle.base.specs.Lines.{whole_lines}
use Rattle.btor2.specs.declared.item.Item.{Item}
use Rattle.btor2.specs.Items.{is_input, is_state, is_bad, is_free}
use Rattle.btor2.specs.Reachability.{nodes_of, model_shows}
use Rattle.btor2.specs.Trace.{Frame, bits_of, IsTrace, IsInput}
use Rattle.wide.specs.WideModels.{greatest_width, IsWideModel}
use Rattle.full.specs.Lines.{FullLine, Sort}
use Rattle.full.specs.WrittenOut.{Places, read_by, IsWrittenOut}
use Rattle.fit.specs.Fitting.{Layout, joined, ids_of}
use Rattle.fit.proofs.ListLemmas.{AreDistinct, distinct_ids}
use Rattle.fit.proofs.ModelLemmas.{wide_ids_fresh}
use Rattle.std.proofs.lemmas.List.{length-append}
use Rattle.witness.specs.declared.judgement.Judgement.{Judgement}
use Rattle.witness.specs.Texts.{Shape, Parts, Witness, AreFrames, shape_of, widths_of, free_of}
use Rattle.witness.specs.Readings.{Fault, text_read}
use Rattle.witness.specs.Admits.{Read, word_reader, witness_of}
use Rattle.witness.specs.ClosedWords.{said_in, closed_words}
use Rattle.witness.specs.Judgements.{Words, frame_words, words_of, given, initial_part, initial_words, given_words, given_frames, makes_no_claim, JudgesWords, JudgesAs, Judges}
use Rattle.witness.proofs.ReadLemmas.{IsSmall}
use Rattle.witness.proofs.ReadTextLemmas.{read_says}
use Rattle.witness.proofs.ReadingLemmas.{was_all_read}
use Rattle.rises.specs.FirstRises.{word_first_rises}
use Rattle.rejoin.proofs.AlikeLemmas.{bad_nodes}
use Rattle.fulljudge.specs.Shapes.{Leaf, leaves_of, full_shape, word_count, word_width, word_widths, word_shape}
use Rattle.fulljudge.specs.Told.{ByIndex}
use Rattle.fulljudge.specs.Lines.{full_reader, words_text}
use Rattle.fulljudge.specs.Judgements.{judged_by, IsJudged, JudgesFull}
use Rattle.fulljudge.specs.Rises.{IsJudgedWithRises, JudgesFullWithRises}
use Rattle.fulljudge.specs.Written.{IsCompared, ComparesText}
use Rattle.fulljudge.specs.Cells.{HasWordsOf, TellsWords, CanBeCounted}
use Rattle.fulljudge.proofs.ReadingLemmas.{AdmitsWords}
use Rattle.fulljudge.proofs.TextLemmas.{AreCounted, reads_alike, claims_alike}
use Rattle.fulljudge.proofs.ExtraLemmas.{with_states, admits_alike}
use Rattle.fulljudge.proofs.JudgedLemmas.{bads_alike, rises_of}
use Rattle.fulljudge.proofs.FullLemmas.{trace_exists, bads_count, judged}
use Rattle.fulljudge.proofs.ShapeLemmas.{shape_by, flat_fused, state_widths, input_widths, state_flags, none_more_free, as_many}
use Rattle.fulljudge.proofs.ValidLemmas.{had, all_had, state_fits, all_inputs_fit, words_fit, given_within}

-- the frames of a trace of what the lines of a text say
abbrev pub said_frames : (items : List Item) → IsWideModel greatest_width items → List ℕ → List Frame
said_frames items model text = (trace_exists items (initial_words items (closed_words items text)) (given_frames items (closed_words items text)) model).0

module _ (full : List FullLine) (p : Places) (wide : List Item) (layout : Layout) (celled : List Item) (h : IsWrittenOut full p wide) (c : HasWordsOf full p wide layout celled) (model : IsWideModel greatest_width celled)
    (distinct_inputs : AreDistinct (ids_of (λ x. is_input x.body) celled)) (distinct_states : AreDistinct (ids_of (λ x. is_state x.body) celled)) where
  abbrev base : Shape
  base = word_shape (full_shape full)

  abbrev more : List ℕ
  more = map (bits_of celled) c.more

  abbrev flags : List Bool
  flags = map (is_free celled) c.more

  pub shape_is : shape_of celled ≡ with_states base more flags
  shape_is =
      let bads : (shape_of celled).bads ≡ base.bads = sym (bad_nodes celled) ∙ bads_count full p wide layout celled h c model distinct_inputs distinct_states ∙ bads_alike full p wide h in
      ap (λ (n : ℕ). shape_by n (widths_of is_state celled) (free_of celled) (widths_of is_input celled)) bads
      ∙ ap (λ (l : List ℕ). shape_by base.bads l (free_of celled) (widths_of is_input celled)) (state_widths full p wide layout celled h c model)
      ∙ ap₂ (shape_by base.bads (base.states ++ more)) (state_flags full p wide layout celled h c model) (input_widths full p wide layout celled h c model)

  -- what a valid witness tells fits
  tells : (w : Witness) (frames : List Parts) → w.frames ≡ frames → AreFrames (shape_of celled) frames → AreFrames base frames → TellsWords full celled (words_of w)
  tells w [] e valid own = absurd valid
  tells w (first ∷ later) e valid own =
      let over = all_had (shape_of celled) (first ∷ later) valid in
      let below = all_had base (first ∷ later) own in
      let part = ap (λ (l : List Parts). initial_part (map frame_words l)) e in
      let fused = flat_fused word_widths (λ (l : Leaf). l.sort) (leaves_of is_state full) in
      record {
        state = state_fits celled w model (had first.states) part over.0.0;
        inputs = subst (λ (l : List Parts). AllByRecursion (IsInput celled) (map (given_words celled) (map frame_words l))) (sym e) (all_inputs_fit celled (shape_of celled) (first ∷ later) refl refl over);
        words = subst (λ (list : List (ℕ × ℕ)). ByIndex (λ i l. (k : ℕ) → k < word_count l.sort → IfSome (given list (i + k)) (λ v. v < 2 ^ word_width l.sort)) 0 (leaves_of is_state full)) (sym part)
            (words_fit (had first.states) base.states [] [] (leaves_of is_state full) 0 (fused ∙ sym (append-nil (flat_map (λ (l : Leaf). word_widths l.sort) (leaves_of is_state full)))) refl below.0.0);
        few = λ k v told. subst (λ (l : List ℕ). k < length l) fused (given_within base.states (had first.states) k v below.0.0 (ap (λ (list : List (ℕ × ℕ)). given list k) (sym part) ∙ told));
      }

  module _ (text : List ℕ) (few : AreCounted (full_shape full)) (small : IsSmall (shape_of celled)) (own_small : IsSmall base) where
    admits : AdmitsWords (full_shape full) (shape_of celled)
    admits = subst (AdmitsWords (full_shape full)) (sym shape_is) (admits_alike (full_shape full) few more flags (as_many full p wide layout celled h c model) (none_more_free full p wide layout celled h c model))

    pub over_read : text_read (word_reader (shape_of celled)) (words_text (full_shape full) text) ≡ text_read (full_reader (full_shape full)) text
    over_read = reads_alike (full_shape full) few own_small.bads text (shape_of celled) admits

    own_read : text_read (word_reader base) (words_text (full_shape full) text) ≡ text_read (full_reader (full_shape full)) text
    own_read = reads_alike (full_shape full) few own_small.bads text base (λ r line. refl)

    pub read_tells : (r : Read) → text_read (full_reader (full_shape full)) text ≡ Ok r → TellsWords full celled (words_of (witness_of r))
    read_tells r e =
        tells (witness_of r) (witness_of r).frames refl (read_says (shape_of celled) (words_text (full_shape full) text) r small (over_read ∙ e)).valid.frames
        (read_says base (words_text (full_shape full) text) r own_small (own_read ∙ e)).valid.frames

    -- what is found of a witness where first words are compared
    abbrev Compares : Words → Option ℕ → Type 0
    Compares w d = (gs : List Frame) → IsTrace celled (initial_words celled w) (given_frames celled w) gs → IsCompared full p wide w.frames (map (read_by p) (map (joined celled layout) gs)) d

    abbrev sorts : List Sort
    sorts = map (λ (l : Leaf). l.sort) (leaves_of is_state full)

    by_read : (Says Is : Read → Judgement → Type 0) (d : Option ℕ) (j : Judgement) (none : Bool) (read : Result Read Fault) → ((r : Read) → read ≡ Ok r → Says r j → Is r (judged_by sorts d j)) → JudgesAs Says none read j → JudgesAs Is none read (judged_by sorts d j)
    by_read Says Is d j true read is judges = ap (judged_by sorts d) judges
    by_read Says Is d j false (Err fault) is judges = ap (judged_by sorts d) judges
    by_read Says Is d j false (Ok r) is judges = is r refl judges

    -- by what is said of what the text of words reads as
    said_by : (Says Is : Read → Judgement → Type 0) (d : Option ℕ) (j : Judgement) → ((r : Read) → text_read (full_reader (full_shape full)) text ≡ Ok r → Says r j → Is r (judged_by sorts d j))
        → JudgesAs Says (makes_no_claim 0 (whole_lines (words_text (full_shape full) text))) (text_read (word_reader (shape_of celled)) (words_text (full_shape full) text)) j
        → JudgesAs Is (makes_no_claim 0 (whole_lines text)) (text_read (full_reader (full_shape full)) text) (judged_by sorts d j)
    said_by Says Is d j is judges =
        by_read Says Is d j (makes_no_claim 0 (whole_lines text)) (text_read (full_reader (full_shape full)) text) is
        (subst (λ (b : Bool). JudgesAs Says b (text_read (full_reader (full_shape full)) text) j) (claims_alike (full_shape full) text few own_small.bads)
        (subst (λ (read : Result Read Fault). JudgesAs Says (makes_no_claim 0 (whole_lines (words_text (full_shape full) text))) read j) over_read judges))

    pub text_judged_by : (Says : Read → Judgement → Type 0) (d : Option ℕ) (j : Judgement) → ((r : Read) → text_read (full_reader (full_shape full)) text ≡ Ok r → Says r j → IsJudged full (words_of (witness_of r)) (judged_by sorts d j))
        → JudgesAs Says (makes_no_claim 0 (whole_lines (words_text (full_shape full) text))) (text_read (word_reader (shape_of celled)) (words_text (full_shape full) text)) j → JudgesFull full text (judged_by sorts d j)
    text_judged_by Says d j is judges = said_by Says (λ r. IsJudged full (words_of (witness_of r))) d j is judges

    -- what is read of the text of words is what is read of the text
    is_read : (r : Read) → text_read (full_reader (full_shape full)) text ≡ Ok r → said_in celled (words_text (full_shape full) text) ≡ r
    is_read r e = was_all_read (word_reader (shape_of celled)) (words_text (full_shape full) text) r (over_read ∙ e)

    pub text_judged : (d : Option ℕ) (j : Judgement) (firsts : List (Option ℕ)) → ((r : Read) → text_read (full_reader (full_shape full)) text ≡ Ok r → Compares (words_of (witness_of r)) d)
        → firsts ≡ word_first_rises celled (words_text (full_shape full) text) (said_frames celled model (words_text (full_shape full) text)) → Judges celled (words_text (full_shape full) text) j → JudgesFullWithRises full text (judged_by sorts d j) firsts
    text_judged d j firsts compares are judges =
        said_by (λ r. JudgesWords celled (words_of (witness_of r))) (λ r i. IsJudgedWithRises full (words_of (witness_of r)) i firsts) d j
        (λ r e says.
        judged full p wide layout celled h c model distinct_inputs distinct_states (words_of (witness_of r)) (read_tells r e) j d firsts says (compares r e)
        (are
        ∙ ap (λ (s : Read). rises_of s.claims (map (model_shows celled) (trace_exists celled (initial_words celled (words_of (witness_of s))) (given_frames celled (words_of (witness_of s))) model).0) (length (nodes_of is_bad celled)))
        (is_read r e))) judges

-- what is judged beside first rises is judged without them
weaker : (Says Is : Read → Judgement → Type 0) (none : Bool) (read : Result Read Fault) (j : Judgement) → ((r : Read) → Says r j → Is r j) → JudgesAs Says none read j → JudgesAs Is none read j
weaker Says Is true read j is judges = judges
weaker Says Is false (Err fault) j is judges = judges
weaker Says Is false (Ok r) j is judges = is r judges

pub without_rises : (full : List FullLine) (text : List ℕ) (j : Judgement) (firsts : List (Option ℕ)) → JudgesFullWithRises full text j firsts → JudgesFull full text j
without_rises full text j firsts judges =
    weaker (λ r i. IsJudgedWithRises full (words_of (witness_of r)) i firsts) (λ r. IsJudged full (words_of (witness_of r))) (makes_no_claim 0 (whole_lines text)) (text_read (full_reader (full_shape full)) text) j
    (λ r judged. judged.judged) judges

-- the same of any such list
pub text_is_judged_with_rises : (full : List FullLine) (p : Places) (wide : List Item) (layout : Layout) (celled : List Item) (text : List ℕ) (d : Option ℕ) (j : Judgement) (firsts : List (Option ℕ)) → IsWrittenOut full p wide → HasWordsOf full p wide layout celled
    → (model : IsWideModel greatest_width celled) → CanBeCounted celled → ComparesText full p wide layout celled text d
    → firsts ≡ word_first_rises celled (words_text (full_shape full) text) (said_frames celled model (words_text (full_shape full) text)) → Judges celled (words_text (full_shape full) text) j
    → JudgesFullWithRises full text (judged_by (map (λ (l : Leaf). l.sort) (leaves_of is_state full)) d j) firsts
text_is_judged_with_rises full p wide layout celled text d j firsts h c model few compares are judges =
    let fresh = wide_ids_fresh celled model in
    let inputs = distinct_ids (λ x. is_input x.body) celled fresh in
    let states = distinct_ids (λ x. is_state x.body) celled fresh in
    let shape = shape_is full p wide layout celled h c model inputs states in
    let more = ap (λ (s : Shape). length s.states) shape ∙ length-append (word_shape (full_shape full)).states (map (bits_of celled) c.more) in
    let own_states : length (word_shape (full_shape full)).states < 2 ^ 64 = omega (arith, few.states, more) in
    let own_inputs : length (word_shape (full_shape full)).inputs < 2 ^ 64 = subst (λ (n : ℕ). n < 2 ^ 64) (ap (λ (s : Shape). length s.inputs) shape) few.inputs in
    let own_bads : (word_shape (full_shape full)).bads < 2 ^ 64 = subst (λ (n : ℕ). n < 2 ^ 64) (ap (λ (s : Shape). s.bads) shape) few.bads in
    text_judged full p wide layout celled h c model inputs states text (record { states = own_states; inputs = own_inputs }) (record { bads = few.bads; states = few.states; inputs = few.inputs })
    (record { bads = own_bads; states = own_states; inputs = own_inputs }) d j firsts (λ r e gs trace. compares r gs e trace) are judges

pub text_is_judged : (full : List FullLine) (p : Places) (wide : List Item) (layout : Layout) (celled : List Item) (text : List ℕ) (d : Option ℕ) (j : Judgement) → IsWrittenOut full p wide → HasWordsOf full p wide layout celled
    → IsWideModel greatest_width celled → CanBeCounted celled → ComparesText full p wide layout celled text d → Judges celled (words_text (full_shape full) text) j
    → JudgesFull full text (judged_by (map (λ (l : Leaf). l.sort) (leaves_of is_state full)) d j)
text_is_judged full p wide layout celled text d j h c model few compares judges =
    without_rises full text (judged_by (map (λ (l : Leaf). l.sort) (leaves_of is_state full)) d j) _ (text_is_judged_with_rises full p wide layout celled text d j _ h c model few compares refl judges)
