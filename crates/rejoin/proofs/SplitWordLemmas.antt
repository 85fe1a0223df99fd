-- The words that a witness cut into pieces gives make those that the witness gives.
use Rattle.std.proofs.Common.{◌≡◌, ℕ, ◌^◌, ◌<◌, Bool, true, false, cond, List, length, slice_index, Option, Some, None, IfSome, unwrap_or, sym, ap, subst, ◌∙◌, pow_pos}
use Rattle.std.specs.List.{AllByRecursion}
use Rattle.std.specs.Option.{option_or}
use Rattle.btor2.specs.declared.item.Item.{Item}
use Rattle.btor2.specs.Items.{is_input, is_state, is_free, names_state, init_word}
use Rattle.wide.specs.WideModels.{greatest_width, IsWideModel}
use Rattle.btor2.specs.Trace.{Frame, bits_of}
use Rattle.btor2.proofs.IdLemmas.{ids_fresh}
use Rattle.fit.specs.Fitting.{Layout, init_words, given_ids, carried_ids}
use Rattle.fit.proofs.ListLemmas.{all_with, all_both, distinct_ids}
use Rattle.fit.proofs.PieceLemmas.{word_same, word_zero}
use Rattle.fit.proofs.LawLemmas.{all_of}
use Rattle.fit.proofs.ModelLemmas.{init_words_fit}
use Rattle.witness.specs.Texts.{Assignment, IsAssignment, widths_of}
use Rattle.witness.specs.Judgements.{pairs_of, given_to, FrameWords, given_words}
use Rattle.rejoin.specs.Pieces.{split_part}
use Rattle.fitting.specs.Models.{input_ids, state_ids, IsFit}
use Rattle.rejoin.proofs.CutWordLemmas.{Make, pieces_make}
use Rattle.rejoin.proofs.LeafLemmas.{IsCutTo, states_cut_to, inputs_cut_to, given_from, carried_from, states_named, inputs_named, PiecesName, state_pieces_name, input_pieces_name}
use Rattle.rejoin.proofs.ShapeLemmas.{state_counts, input_counts}
use Rattle.rejoin.proofs.BeginLemmas.{InitsAgree, inits_agree, begins_alike}
use Rattle.rejoin.proofs.SplitPartLemmas.{HavePieces, have_none, have_word, SplitsAt, part_splits, given_fits}

-- ---- the word of a leaf

-- words that fit the pieces of a leaf make a word of it
abbrev MakesAt : List Item → Layout → Frame → (ℕ → ℕ) → ℕ → Type 0
MakesAt narrow layout f word k = Make (bits_of narrow) f (word k) (layout k)

make_zero : (width : ℕ → ℕ) (f : Frame) (ps : List ℕ) → AllByRecursion (λ p. f p ≡ 0) ps → Make width f 0 ps
make_zero width f ps h = (word_zero width f ps h, all_with (λ p. f p ≡ 0) (λ p. f p < 2 ^ width p) ps (λ p e. subst (λ (x : ℕ). x < 2 ^ width p) (sym e) (pow_pos (width p))) h)

-- what is told of a word
make_told : (wide narrow : List Item) (layout : Layout) (has : ℕ → Option ℕ) (f : Frame) (k x : ℕ) → IsCutTo wide layout narrow k → x < 2 ^ bits_of wide k → HavePieces has (Some x) 0 (layout k)
    → ((p v : ℕ) → has p ≡ Some v → f p ≡ v) → Make (bits_of narrow) f x (layout k)
make_told wide narrow layout has f k x cut fits pieces says =
    pieces_make (bits_of narrow) f (layout k) (bits_of wide k) x cut fits (have_word has f x (layout k) pieces (all_of (λ p. (v : ℕ) → has p ≡ Some v → f p ≡ v) (layout k) says))

-- ---- the words that states begin with

-- where a part gives words to states
abbrev pub beginning : List Item → List (ℕ × ℕ) → Frame
beginning items part k = unwrap_or (option_or (given_to is_state items part k) (init_word items k)) 0

begin_by : (wide narrow : List Item) (layout : Layout) (has : ℕ → Option ℕ) (o : Option ℕ) (k : ℕ) → IsWideModel greatest_width narrow → InitsAgree wide layout narrow k → IsCutTo wide layout narrow k → IfSome o (λ x. x < 2 ^ bits_of wide k) → HavePieces has o 0 (layout k)
    → Make (bits_of narrow) (λ p. unwrap_or (option_or (has p) (init_word narrow p)) 0) (unwrap_or (option_or o (init_word wide k)) 0) (layout k)
begin_by wide narrow layout has (Some x) k w agree cut fits pieces =
    make_told wide narrow layout has (λ p. unwrap_or (option_or (has p) (init_word narrow p)) 0) k x cut fits pieces (λ p v e. ap (λ (q : Option ℕ). unwrap_or (option_or q (init_word narrow p)) 0) e)
begin_by wide narrow layout has None k w agree cut fits pieces =
    let t : Frame = λ p. unwrap_or (option_or (has p) (init_word narrow p)) 0 in
    let same = all_with (λ p. has p ≡ None) (λ p. t p ≡ init_words narrow p) (layout k) (λ p e. ap (λ (q : Option ℕ). unwrap_or (option_or q (init_word narrow p)) 0) e) (have_none has 0 (layout k) pieces) in (
      word_same (bits_of narrow) t (init_words narrow) (layout k) same ∙ begins_alike wide narrow layout k agree,
      all_with (λ p. t p ≡ init_words narrow p) (λ p. t p < 2 ^ bits_of narrow p) (layout k) (λ p e. subst (λ (x : ℕ). x < 2 ^ bits_of narrow p) (sym e) (init_words_fit narrow p w)) same,
    )

-- the assignments of a part are of nodes that are there, by words of their widths
abbrev pub AreOf : List ℕ → List Assignment → Type 0
AreOf widths list = AllByRecursion (IsAssignment widths) list

inside : (widths : List ℕ) (list : List Assignment) → AreOf widths list → AllByRecursion (λ (a : Assignment). a.index < length widths) list
inside widths list h = all_with (IsAssignment widths) (λ (a : Assignment). a.index < length widths) list (λ a says. says.index) h

below : (widths : List ℕ) (list : List Assignment) → AreOf widths list → AllByRecursion (λ (a : Assignment). a.word < 2 ^ slice_index widths a.index) list
below widths list h = all_with (IsAssignment widths) (λ (a : Assignment). a.word < 2 ^ slice_index widths a.index) list (λ a says. says.word) h

state_part : (wide narrow : List Item) (fit : IsFit wide narrow) (list : List Assignment) → AreOf (widths_of is_state wide) list → AllByRecursion (SplitsAt is_state wide fit.layout narrow list) (state_ids wide)
state_part wide narrow fit list h =
    part_splits is_state wide narrow fit.layout list (state_counts wide narrow fit) fit.states (distinct_ids (λ x. is_state x.body) narrow (ids_fresh narrow fit.well_formed)) (states_cut_to wide narrow fit)
    (inside (widths_of is_state wide) list h)

input_part : (wide narrow : List Item) (fit : IsFit wide narrow) (list : List Assignment) → AreOf (widths_of is_input wide) list → AllByRecursion (SplitsAt is_input wide fit.layout narrow list) (input_ids wide)
input_part wide narrow fit list h =
    part_splits is_input wide narrow fit.layout list (input_counts wide narrow fit) fit.inputs (distinct_ids (λ x. is_input x.body) narrow (ids_fresh narrow fit.well_formed)) (inputs_cut_to wide narrow fit)
    (inside (widths_of is_input wide) list h)

-- The words that states begin with by a part that is split make those that they begin with by the part.
pub begin_made : (wide narrow : List Item) (fit : IsFit wide narrow) (list : List Assignment) → AreOf (widths_of is_state wide) list
    → AllByRecursion (MakesAt narrow fit.layout (beginning narrow (pairs_of (split_part (widths_of is_state wide) list))) (beginning wide (pairs_of list))) (carried_ids wide)
begin_made wide narrow fit list h =
    let states : List ℕ = widths_of is_state wide in
    all_with (λ k. InitsAgree wide fit.layout narrow k × (IsCutTo wide fit.layout narrow k × SplitsAt is_state wide fit.layout narrow list k))
    (MakesAt narrow fit.layout (beginning narrow (pairs_of (split_part states list))) (beginning wide (pairs_of list))) (carried_ids wide)
    (λ k says. begin_by wide narrow fit.layout (given_to is_state narrow (pairs_of (split_part states list))) (given_to is_state wide (pairs_of list) k) k fit.fits.well_formed says.0 says.1.0
    (given_fits is_state wide list k (below states list h)) says.1.1)
    (all_both (InitsAgree wide fit.layout narrow) (λ k. IsCutTo wide fit.layout narrow k × SplitsAt is_state wide fit.layout narrow list k) (carried_ids wide) (inits_agree wide narrow fit.layout fit.fits)
    (carried_from wide (λ k. IsCutTo wide fit.layout narrow k × SplitsAt is_state wide fit.layout narrow list k)
    (all_both (IsCutTo wide fit.layout narrow) (SplitsAt is_state wide fit.layout narrow list) (state_ids wide) (states_cut_to wide narrow fit) (state_part wide narrow fit list h))))

-- ---- the words that are given in a frame

-- by parts of states and of inputs
abbrev pub frame_of : List (ℕ × ℕ) → List (ℕ × ℕ) → FrameWords
frame_of states inputs = record { states = states; inputs = inputs }

give_by : (wide narrow : List Item) (layout : Layout) (states inputs states' inputs' : List (ℕ × ℕ)) (b : Bool) (k : ℕ) → names_state wide k ≡ b → PiecesName layout narrow b k → IsCutTo wide layout narrow k
    → IfSome (cond b (given_to is_state wide states k) (given_to is_input wide inputs k)) (λ x. x < 2 ^ bits_of wide k)
    → HavePieces (λ p. cond b (given_to is_state narrow states' p) (given_to is_input narrow inputs' p)) (cond b (given_to is_state wide states k) (given_to is_input wide inputs k)) 0 (layout k)
    → MakesAt narrow layout (given_words narrow (frame_of states' inputs')) (given_words wide (frame_of states inputs)) k
give_by wide narrow layout states inputs states' inputs' b k named names cut fits pieces =
    subst (λ (c : Bool). Make (bits_of narrow) f (unwrap_or (cond c (given_to is_state wide states k) (given_to is_input wide inputs k)) 0) (layout k)) (sym named) (make (cond b (given_to is_state wide states k) (given_to is_input wide inputs k)) fits pieces)
  where
    f : Frame
    f = given_words narrow (frame_of states' inputs')

    has : ℕ → Option ℕ
    has p = cond b (given_to is_state narrow states' p) (given_to is_input narrow inputs' p)

    words : AllByRecursion (λ p. f p ≡ unwrap_or (has p) 0) (layout k)
    words = all_with (λ p. names_state narrow p ≡ b) (λ p. f p ≡ unwrap_or (has p) 0) (layout k) (λ p e. ap (λ (c : Bool). unwrap_or (cond c (given_to is_state narrow states' p) (given_to is_input narrow inputs' p)) 0) e) names

    make : (o : Option ℕ) → IfSome o (λ x. x < 2 ^ bits_of wide k) → HavePieces has o 0 (layout k) → Make (bits_of narrow) f (unwrap_or o 0) (layout k)
    make None fits h =
        make_zero (bits_of narrow) f (layout k) (all_with (λ p. (f p ≡ unwrap_or (has p) 0) × (has p ≡ None)) (λ p. f p ≡ 0) (layout k) (λ p both. both.0 ∙ ap (λ (q : Option ℕ). unwrap_or q 0) both.1)
        (all_both (λ p. f p ≡ unwrap_or (has p) 0) (λ p. has p ≡ None) (layout k) words (have_none has 0 (layout k) h)))
    make (Some x) fits h =
        pieces_make (bits_of narrow) f (layout k) (bits_of wide k) x cut fits
        (have_word has f x (layout k) h (all_with (λ p. f p ≡ unwrap_or (has p) 0) (λ p. (v : ℕ) → has p ≡ Some v → f p ≡ v) (layout k) (λ p e v some. e ∙ ap (λ (q : Option ℕ). unwrap_or q 0) some) words))

-- The words that are given by parts that are split make those that are given by the parts.
pub give_made : (wide narrow : List Item) (fit : IsFit wide narrow) (states inputs : List Assignment) → AreOf (widths_of is_state wide) states → AreOf (widths_of is_input wide) inputs
    → AllByRecursion (MakesAt narrow fit.layout (given_words narrow (frame_of (pairs_of (split_part (widths_of is_state wide) states)) (pairs_of (split_part (widths_of is_input wide) inputs)))) (given_words wide (frame_of (pairs_of states) (pairs_of inputs)))) (given_ids wide)
give_made wide narrow fit states inputs of_states of_inputs = given_from wide Makes of_input of_state
  where
    state_pairs : List (ℕ × ℕ)
    state_pairs = pairs_of (split_part (widths_of is_state wide) states)

    input_pairs : List (ℕ × ℕ)
    input_pairs = pairs_of (split_part (widths_of is_input wide) inputs)

    Makes : ℕ → Type 0
    Makes = MakesAt narrow fit.layout (given_words narrow (frame_of state_pairs input_pairs)) (given_words wide (frame_of (pairs_of states) (pairs_of inputs)))

    of_input : AllByRecursion Makes (input_ids wide)
    of_input =
        all_with (λ k. ((names_state wide k ≡ false) × PiecesName fit.layout narrow false k) × (IsCutTo wide fit.layout narrow k × SplitsAt is_input wide fit.layout narrow inputs k)) Makes (input_ids wide)
        (λ k h. give_by wide narrow fit.layout (pairs_of states) (pairs_of inputs) state_pairs input_pairs false k h.0.0 h.0.1 h.1.0 (given_fits is_input wide inputs k (below (widths_of is_input wide) inputs of_inputs)) h.1.1)
        (all_both (λ k. (names_state wide k ≡ false) × PiecesName fit.layout narrow false k) (λ k. IsCutTo wide fit.layout narrow k × SplitsAt is_input wide fit.layout narrow inputs k) (input_ids wide)
        (all_both (λ k. names_state wide k ≡ false) (PiecesName fit.layout narrow false) (input_ids wide) (inputs_named wide narrow fit) (input_pieces_name wide narrow fit))
        (all_both (IsCutTo wide fit.layout narrow) (SplitsAt is_input wide fit.layout narrow inputs) (input_ids wide) (inputs_cut_to wide narrow fit) (input_part wide narrow fit inputs of_inputs)))

    of_state : AllByRecursion (λ k. is_free wide k ≡ true → Makes k) (state_ids wide)
    of_state =
        all_with (λ k. ((names_state wide k ≡ true) × PiecesName fit.layout narrow true k) × (IsCutTo wide fit.layout narrow k × SplitsAt is_state wide fit.layout narrow states k)) (λ k. is_free wide k ≡ true → Makes k) (state_ids wide)
        (λ k h free. give_by wide narrow fit.layout (pairs_of states) (pairs_of inputs) state_pairs input_pairs true k h.0.0 h.0.1 h.1.0 (given_fits is_state wide states k (below (widths_of is_state wide) states of_states)) h.1.1)
        (all_both (λ k. (names_state wide k ≡ true) × PiecesName fit.layout narrow true k) (λ k. IsCutTo wide fit.layout narrow k × SplitsAt is_state wide fit.layout narrow states k) (state_ids wide)
        (all_both (λ k. names_state wide k ≡ true) (PiecesName fit.layout narrow true) (state_ids wide) (states_named wide narrow fit) (state_pieces_name wide narrow fit))
        (all_both (IsCutTo wide fit.layout narrow) (SplitsAt is_state wide fit.layout narrow states) (state_ids wide) (states_cut_to wide narrow fit) (state_part wide narrow fit states of_states)))
