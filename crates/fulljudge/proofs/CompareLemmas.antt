-- What is heard of the first frame of a text is what its run says.
use Rattle.std.proofs.Common.{◌≡◌, ℕ, suc, ◌+◌, Bool, true, false, List, [], ◌∷◌, map, length, slice_get, Option, Some, None, Result, Ok, is_some, unwrap_or, inl, inr, refl, sym, ap, subst, ◌∙◌, arith}
use Rattle.std.specs.List.{AllByRecursion, AllZip}
use Rattle.std.proofs.lemmas.Option.{none-some, same_Some}
use Rattle.base.specs.Lines.{text_of_lines, unfinished, whole_lines}
use Rattle.witness.specs.declared.why.Why.{Why}
use Rattle.base.proofs.LineLemmas.{lines_are_lines, lines_of_text}
use Rattle.btor2.specs.declared.item.Item.{Item}
use Rattle.btor2.specs.Items.{is_input, is_state, init_word}
use Rattle.btor2.specs.Trace.{Frame, IsFrame, IsTrace, IsInput, IsState}
use Rattle.wide.specs.WideModels.{greatest_width, IsWideModel}
use Rattle.full.specs.Lines.{FullLine, Sort, Operand, init_of}
use Rattle.full.specs.Agreement.{names_full_state}
use Rattle.full.specs.WrittenOut.{Places, read_by, InitIsWritten, IsWrittenOut}
use Rattle.full.proofs.FullLookUps.{init_said}
use Rattle.full.proofs.WideLemmas.{wide_frame_exists}
use Rattle.fit.specs.Fitting.{Layout, joined, carried_ids, ids_of}
use Rattle.fit.proofs.ListLemmas.{AreDistinct}
use Rattle.fitting.specs.Models.{IsFit}
use Rattle.witness.specs.Texts.{Shape, Parts, Witness, AreFrames, IsWitness, shape_of}
use Rattle.witness.specs.Readings.{Reading, Fault, reading, read_or_fault, text_read, last_refusal, refused_for, is_nothing, so_far, lines_behind}
use Rattle.witness.specs.Admits.{Read, nothing_read, word_reader, is_at_end, witness_of}
use Rattle.witness.specs.ClosedWords.{word_reading, word_at}
use Rattle.witness.specs.Judgements.{FrameWords, Words, frame_words, words_of, pairs_of, initial_part, initial_words, given_words, given_frames}
use Rattle.witness.proofs.ReadLemmas.{IsSmall}
use Rattle.witness.proofs.ReadTextLemmas.{read_says}
use Rattle.rejoin.specs.Alike.{FrameAlike, AreAlike}
use Rattle.rejoin.specs.Pieces.{split_parts, split_witness}
use Rattle.rejoin.proofs.SplitLemmas.{split_alike}
use Rattle.fulljudge.specs.Shapes.{Leaf, leaves_of, full_shape, word_count, first_index, word_shape}
use Rattle.fulljudge.specs.Told.{told, ByIndex, DiffersAt}
use Rattle.fulljudge.specs.Lines.{full_reader, words_text}
use Rattle.fulljudge.specs.Written.{OtherTold, IsCompared, ComparesText}
use Rattle.fulljudge.specs.Kept.{words_in}
use Rattle.fulljudge.specs.Cells.{HasWordsOf, TellsWords}
use Rattle.fulljudge.specs.Compared.{StateWords, FirstWords, Flag, HoldsFirst, HeardFirst, IsFound, DiffersFirst, IsToldOtherwise, BeginsRun}
use Rattle.fulljudge.specs.Judged.{HasStateWords}
use Rattle.fulljudge.proofs.CelledLemmas.{by_part, begins_with_given}
use Rattle.fulljudge.proofs.JudgedLemmas.{all_get, at_first}
use Rattle.fulljudge.proofs.LawLemmas.{over_read, read_tells}
use Rattle.fulljudge.proofs.PlacedLemmas.{leaf_places, state_places, none_found, one_found}
use Rattle.fulljudge.proofs.StateNodeLemmas.{from_map}
use Rattle.fulljudge.proofs.RunLemmas.{states_named}
use Rattle.fulljudge.proofs.TextLemmas.{AreCounted}
use Rattle.fulljudge.proofs.ToldLemmas.{WordsFit}

-- ---- a text that reads

same_Ok : (x y : Read) → (◌≡◌ {A = Result Read Fault} (Ok x) (Ok y)) → x ≡ y
same_Ok x y e = cc e

-- no line of it is refused
pub read_parts : (shape : Shape) (text : List ℕ) (r : Read) → text_read (word_reader shape) text ≡ Ok r → ((word_reading shape text).refused ≡ None) × ((word_reading shape text).read ≡ r)
unfolding reading
read_parts shape text r e = by (word_reading shape text).refused refl e
  where
    last : (o : Option Why) → refused_for (word_reading shape text) o ≡ Ok r → (word_reading shape text).read ≡ r
    last None e = same_Ok (word_reading shape text).read r e
    last (Some w) e = absurd (cc e)

    by : (o : Option Why) → (word_reading shape text).refused ≡ o → read_or_fault (λ (s : Read). is_at_end s.place) (word_reading shape text) (unfinished text) o ≡ Ok r → ((word_reading shape text).refused ≡ None) × ((word_reading shape text).read ≡ r)
    by None none e = (none, last (last_refusal (is_at_end (word_reading shape text).read.place) (word_reading shape text).admitted (is_nothing (unfinished text))) e)
    by (Some w) some e = absurd (cc e)

same_reading : (shape : Shape) (text : List ℕ) → word_reading shape (text_of_lines (whole_lines text)) ≡ word_reading shape text
unfolding reading
same_reading shape text = ap (lines_behind (word_reader shape) (so_far 0 nothing_read)) (lines_of_text (whole_lines text) (lines_are_lines text))

-- ---- leaves by their places

pub from_places : (Of : ℕ → Leaf → Type 0) (k : ℕ) (leaves : List Leaf) → ((i : ℕ) (l : Leaf) → slice_get leaves i ≡ Some l → Of (k + first_index (map (λ (m : Leaf). m.sort) leaves) i) l) → ByIndex Of k leaves
from_places Of k [] h = tt
from_places Of k (l ∷ leaves) h =
    let none : k + 0 ≡ k = omega arith in (
      subst (λ (n : ℕ). Of n l) none (h 0 l refl),
      from_places Of (k + word_count l.sort) leaves (λ i m e.
          let behind : k + (word_count l.sort + first_index (map (λ (m : Leaf). m.sort) leaves) i) ≡ k + word_count l.sort + first_index (map (λ (m : Leaf). m.sort) leaves) i = omega arith in
          subst (λ (n : ℕ). Of n m) behind (h (suc i) m e)),
    )

-- ---- the first frame of a witness

module _ (full : List FullLine) (p : Places) (wide : List Item) (layout : Layout) (celled : List Item) (h : IsWrittenOut full p wide) (c : HasWordsOf full p wide layout celled) (model : IsWideModel greatest_width celled)
    (distinct_inputs : AreDistinct (ids_of (λ x. is_input x.body) celled)) (distinct_states : AreDistinct (ids_of (λ x. is_state x.body) celled)) (narrow : List Item) (fit : IsFit celled narrow) (w : StateWords) (placed_words : HasStateWords full p wide layout celled narrow fit w) where
  abbrev sorts : List Sort
  sorts = map (λ (m : Leaf). m.sort) (leaves_of is_state full)

  abbrev leaves : List Leaf
  leaves = leaves_of is_state full

  module _ (v : Witness) (valid : IsWitness (shape_of celled) v) (tells : TellsWords full celled (words_of v)) (first : Parts) (more : List Parts) (is : v.frames ≡ first ∷ more) (flags : List Bool) (d : Option ℕ) (many : length flags ≡ words_in sorts)
      (flag : Flag flags (pairs_of (unwrap_or first.states []))) (found : (g : Frame) → BeginsRun narrow (split_parts (shape_of celled) first) g → IsFound (word_at narrow g) flags sorts w d) where
    abbrev f : FrameWords
    f = frame_words first

    abbrev q : FrameWords
    q = frame_words (split_parts (shape_of celled) first)

    -- words by frames alone
    abbrev by_frames : List FrameWords → Words
    by_frames ws = record { claims = []; frames = ws }

    abbrev begin : Frame
    begin = initial_words celled (by_frames (f ∷ []))

    abbrev t : Frame
    t = initial_words narrow (by_frames (q ∷ []))

    frames_are : map frame_words v.frames ≡ f ∷ map frame_words more
    frames_are = ap (map frame_words) is

    pieces_are : map frame_words (split_witness (shape_of celled) v).frames ≡ q ∷ map frame_words (map (split_parts (shape_of celled)) more)
    pieces_are = ap (λ (l : List Parts). map frame_words (map (split_parts (shape_of celled)) l)) is

    alike : AreAlike celled fit.layout narrow (words_of v) (words_of (split_witness (shape_of celled) v))
    alike = split_alike celled narrow fit v valid

    narrow_state : IsState narrow t
    narrow_state = subst (λ (ws : List FrameWords). IsState narrow (initial_words narrow (by_frames ws))) pieces_are alike.fits

    states_make : AllByRecursion (λ id. joined narrow fit.layout t id ≡ begin id) (carried_ids celled)
    states_make =
        subst (λ (ws : List FrameWords). AllByRecursion (λ id. joined narrow fit.layout t id ≡ initial_words celled (by_frames ws) id) (carried_ids celled)) frames_are
        (subst (λ (ws : List FrameWords). AllByRecursion (λ id. joined narrow fit.layout (initial_words narrow (by_frames ws)) id ≡ initial_words celled (by_frames (map frame_words v.frames)) id) (carried_ids celled)) pieces_are alike.makes)

    first_alike : FrameAlike celled fit.layout narrow f q
    first_alike =
        (subst (λ (ws : List FrameWords). AllZip (FrameAlike celled fit.layout narrow) ws (q ∷ map frame_words (map (split_parts (shape_of celled)) more))) frames_are
        (subst (AllZip (FrameAlike celled fit.layout narrow) (map frame_words v.frames)) pieces_are alike.frames)).0

    state : IsState celled begin
    state = subst (λ (ws : List FrameWords). IsState celled (initial_words celled (by_frames ws))) frames_are tells.state

    input : IsInput celled (given_words celled f)
    input = (subst (λ (ws : List FrameWords). AllByRecursion (IsInput celled) (map (given_words celled) ws)) frames_are tells.inputs).0

    begins : (a : ℕ) → init_word celled a ≡ None → begin a ≡ by_part is_state celled f.states a
    begins a none = begins_with_given celled (by_frames (f ∷ [])) a none

    words_fit : ByIndex (λ i l. WordsFit f.states l.sort i) 0 leaves
    words_fit = subst (λ (ws : List FrameWords). ByIndex (λ i l. WordsFit (initial_part ws) l.sort i) 0 leaves) frames_are tells.words

    -- the first frame of the fitted model
    run : (n : Frame) × IsFrame narrow t (given_words narrow q) n
    run = wide_frame_exists greatest_width narrow t (given_words narrow q) fit.fits.well_formed

    module _ (g : Frame) (frame : IsFrame celled begin (given_words celled f) g) where
      abbrev Compared : Option ℕ → Type 0
      Compared d = IsCompared full p wide (f ∷ map frame_words more) (read_by p (joined celled layout g) ∷ []) d

      told_at : IsFound (word_at narrow run.0) flags sorts w None → (i : ℕ) (l : Leaf) → slice_get leaves i ≡ Some l → OtherTold full p wide f.states (read_by p (joined celled layout g)) (first_index sorts i) l
      told_at none i l there has open' = by (init_of full l.id) refl
        where
          names : names_full_state full l.id ≡ true
          names = all_get (λ (m : Leaf). names_full_state full m.id ≡ true) leaves i l (states_named full p wide h) there

          goal : Type 0
          goal = told f.states l.sort (first_index sorts i) (read_by p (joined celled layout g) l.id) ≡ read_by p (joined celled layout g) l.id

          written : (o : Operand) → InitIsWritten full p wide l.id o → told f.states l.sort (first_index sorts i) (read_by p (joined celled layout g) l.id) ≡ read_by p (joined celled layout g) l.id
          written o (inl same) = absurd (none-some same.word (sym open' ∙ same.begins))
          written o (inr choice) =
              none_found full p wide layout celled h c model distinct_inputs distinct_states narrow fit w placed_words f begin begins state input g frame t (given_words narrow q) run.0 narrow_state first_alike.fits states_make first_alike.makes run.1 i l there flags
              flag many (at_first (λ i l. WordsFit f.states l.sort i) i leaves l words_fit there) none choice.begins_open

          by : (o : Option Operand) → init_of full l.id ≡ o → told f.states l.sort (first_index sorts i) (read_by p (joined celled layout g) l.id) ≡ read_by p (joined celled layout g) l.id
          by (Some o) e = written o (init_said (InitIsWritten full p wide) full l.id o h.inits e)
          by None e = absurd (cc (sym has ∙ ap is_some e))

      differs_at : (i : ℕ) → DiffersFirst (word_at narrow run.0) flags sorts w i → DiffersAt full f.states (read_by p (joined celled layout g)) i
      differs_at i differs =
          let leaf = from_map (λ (m : Leaf). m.sort) leaves i differs.sort differs.is_sort in
          let l : Leaf = leaf.0 in
          let own = leaf_places full p wide layout celled h c model distinct_inputs distinct_states narrow fit w placed_words f begin begins state input g frame t (given_words narrow q) run.0 narrow_state first_alike.fits states_make first_alike.makes run.1 i l leaf.1 in
          let begun = state_places full p wide layout celled h c model distinct_inputs distinct_states narrow fit w placed_words f begin begins state input g frame t (given_words narrow q) run.0 narrow_state first_alike.fits states_make first_alike.makes run.1 i l leaf.1 in
          let one : differs.leaf ≡ own.0 = same_Some differs.leaf own.0 (sym differs.is_leaf ∙ own.1) in
          let other : differs.node ≡ begun.0 = same_Some differs.node begun.0 (sym differs.is_node ∙ begun.1) in
          one_found full p wide layout celled h c model distinct_inputs distinct_states narrow fit w placed_words f begin begins state input g frame t (given_words narrow q) run.0 narrow_state first_alike.fits states_make first_alike.makes run.1 i l leaf.1 flags
          flag many (at_first (λ i l. WordsFit f.states l.sort i) i leaves l words_fit leaf.1)
          (subst (λ (s : Sort). IsToldOtherwise (word_at narrow run.0) flags s (first_index sorts i) own.0 begun.0) (sym leaf.2)
          (subst (λ (places : List ℕ). IsToldOtherwise (word_at narrow run.0) flags differs.sort (first_index sorts i) places begun.0) one
          (subst (IsToldOtherwise (word_at narrow run.0) flags differs.sort (first_index sorts i) differs.leaf) other differs.otherwise)))

      compared : (o : Option ℕ) → IsFound (word_at narrow run.0) flags sorts w o → (gs : List Frame) → IsCompared full p wide (f ∷ map frame_words more) (read_by p (joined celled layout g) ∷ gs) o
      compared None none gs =
          from_places (OtherTold full p wide f.states (read_by p (joined celled layout g))) 0 leaves
          (λ i l there.
          let zero : first_index sorts i ≡ 0 + first_index sorts i = omega arith in
          subst (λ (n : ℕ). OtherTold full p wide f.states (read_by p (joined celled layout g)) n l) zero (told_at none i l there))
      compared (Some i) differs gs = differs_at i differs

    -- what is found is so in each trace of what is told
    pub compared_frames : (gs : List Frame) → IsTrace celled (initial_words celled (words_of v)) (given_frames celled (words_of v)) gs → IsCompared full p wide (words_of v).frames (map (read_by p) (map (joined celled layout) gs)) d
    compared_frames gs trace =
        subst (λ (ws : List FrameWords). IsCompared full p wide ws (map (read_by p) (map (joined celled layout) gs)) d) (sym frames_are)
        (by gs (subst (λ (ws : List FrameWords). IsTrace celled (initial_words celled (by_frames ws)) (map (given_words celled) ws) gs) frames_are trace))
      where
        by : (gs : List Frame) → IsTrace celled begin (given_words celled f ∷ map (given_words celled) (map frame_words more)) gs → IsCompared full p wide (f ∷ map frame_words more) (map (read_by p) (map (joined celled layout) gs)) d
        by [] trace = absurd trace
        by (g ∷ gs) trace = compared g trace.0 d (found run.0 (run.1, tt)) (map (read_by p) (map (joined celled layout) gs))

  -- ---- a text

  module _ (text : List ℕ) (few : AreCounted (full_shape full)) (small : IsSmall (shape_of celled)) (own_small : IsSmall (word_shape (full_shape full))) (k : FirstWords) (same_sorts : k.states ≡ sorts) (same_words : k.words ≡ w)
      (many : length k.flags ≡ words_in sorts) (heard : HeardFirst k (shape_of celled) narrow (text_of_lines (whole_lines (words_text (full_shape full) text)))) where
    abbrev made : List ℕ
    made = words_text (full_shape full) text

    holds : (r : Read) → text_read (full_reader (full_shape full)) text ≡ Ok r → HoldsFirst k k.closed (shape_of celled) narrow r
    holds r e =
        let parts = read_parts (shape_of celled) made r (over_read full p wide layout celled h c model distinct_inputs distinct_states text few small own_small ∙ e) in
        let same = same_reading (shape_of celled) made in
        subst (HoldsFirst k k.closed (shape_of celled) narrow) (ap (λ (g : Reading Read). g.read) same ∙ parts.1) (heard (ap (λ (g : Reading Read). g.refused) same ∙ parts.0))

    pub compared_text : ComparesText full p wide layout celled text k.found
    compared_text r gs e trace = by k.closed (holds r e)
      where
        valid : IsWitness (shape_of celled) (witness_of r)
        valid = (read_says (shape_of celled) made r small (over_read full p wide layout celled h c model distinct_inputs distinct_states text few small own_small ∙ e)).valid

        none : AreFrames (shape_of celled) [] → ⊥
        none valid = valid

        by : (b : Bool) → HoldsFirst k b (shape_of celled) narrow r → IsCompared full p wide (words_of (witness_of r)).frames (map (read_by p) (map (joined celled layout) gs)) k.found
        by false awaits = absurd (none (subst (AreFrames (shape_of celled)) awaits.none valid.frames))
        by true has =
            compared_frames (witness_of r) valid (read_tells full p wide layout celled h c model distinct_inputs distinct_states text few small own_small r e) has.first has.more has.is k.flags k.found many has.flags
            (λ g runs. subst (λ (a : List Sort). IsFound (word_at narrow g) k.flags a w k.found) same_sorts (subst (λ (b : StateWords). IsFound (word_at narrow g) k.flags k.states b k.found) same_words (has.found g runs))) gs trace
