-- A witness over the fitted model that is joined is a witness over the list, and says the same.
use Rattle.std.proofs.Common.{◌≡◌, ℕ, suc, ◌^◌, ◌<◌, Bool, true, false, cond, List, [], ◌∷◌, ◌++◌, map, slice_index, take, drop, Option, Some, None, IfSome, All, unwrap_or, option_map, option_and_then, refl, sym, ap, ap₂, subst, ◌∙◌}
use Rattle.std.specs.Prelude.{slice_index_or}
use Rattle.std.specs.List.{AllByRecursion, AllZip}
use Rattle.std.proofs.lemmas.List.{take-map, drop-map}
use Rattle.std.proofs.lemmas.List.Elements.{All-from_recursion, recursion_from_All}
use Rattle.btor2.specs.declared.item.Item.{Item}
use Rattle.btor2.specs.Items.{is_input, is_state}
use Rattle.btor2.specs.Lists.{of_kind}
use Rattle.btor2.specs.Symbols.{is_symbol}
use Rattle.btor2.specs.Trace.{Frame, IsState}
use Rattle.fit.specs.Fitting.{joined, init_words, given_ids, carried_ids}
use Rattle.fit.proofs.ListLemmas.{all_with}
use Rattle.fitting.specs.Models.{IsFit}
use Rattle.witness.specs.Texts.{Shape, Assignment, IsAssignment, Parts, Witness, IsPart, IsFreePart, AreParts, AreFrames, IsWitness, is_free_index, shape_of, widths_of}
use Rattle.witness.specs.Judgements.{pairs_of, frame_words, words_of, initial_words, given_words}
use Rattle.rejoin.specs.Pieces.{piece_count}
use Rattle.lift.specs.Lifted.{at_frame, name_in_frame}
use Rattle.rejoin.specs.Alike.{FrameAlike, AreAlike}
use Rattle.rejoin.proofs.AlikeLemmas.{shapes_cut}
use Rattle.rejoin.proofs.ShapeLemmas.{map_ids}
use Rattle.rejoin.proofs.SplitWordLemmas.{beginning, frame_of}
use Rattle.unfit.specs.declared.told_pieces.Piece.{Piece}
use Rattle.unfit.specs.Joined.{Wide, any_told, join_word, join_from, join_part, name_at, state_words, join_states, join_inputs, join_parts, join_frames, join_witness}
use Rattle.unfit.proofs.PieceLemmas.{fresh, pieces_fresh}
use Rattle.unfit.proofs.AlikeLemmas.{part, joined_states, begin_joined, given_joined, AreBelow, beginning_fits, given_words_fit}
use Rattle.unfit.proofs.ValidLemmas.{states_valid, inputs_valid, free_valid}

-- ---- names are symbols

pub names_are : (named : Bool) (symbols : List (Option (List ℕ))) (k i : ℕ) → IfSome (name_at named symbols k i) (λ bytes. is_symbol bytes ≡ true)
names_are false symbols k i = tt
names_are true symbols k i = by (slice_index_or symbols i None)
  where
    kept : (name : List ℕ) (b : Bool) → is_symbol name ≡ b → IfSome (cond b (Some name) None) (λ bytes. is_symbol bytes ≡ true)
    kept name true e = e
    kept name false e = tt

    by : (o : Option (List ℕ)) → IfSome (option_and_then (name_in_frame k) o) (λ bytes. is_symbol bytes ≡ true)
    by None = tt
    by (Some symbol) = kept (at_frame symbol k) (is_symbol (at_frame symbol k)) refl

-- ---- of nothing nothing is said

none_fresh : (xs : List ℕ) → any_told (map fresh xs) ≡ false
none_fresh [] = refl
none_fresh (x ∷ xs) = none_fresh xs

nothing_from : (name : ℕ → Option (List ℕ)) (k : ℕ) (widths xs : List ℕ) → join_from name k widths (map fresh xs) ≡ []
nothing_from name k [] xs = refl
nothing_from name k (n ∷ ns) xs =
    ap₂ (λ (a b : List Piece). join_word (name k) k a ++ join_from name (suc k) ns b) (take-map fresh (piece_count n) xs) (drop-map fresh (piece_count n) xs)
    ∙ rw (none_fresh (take (piece_count n) xs)) (nothing_from name (suc k) ns (drop (piece_count n) xs))

nothing_joined : (name : ℕ → Option (List ℕ)) (widths words : List ℕ) → join_part name widths words [] ≡ []
nothing_joined name widths words = ap (join_from name 0 widths) (pieces_fresh 0 words) ∙ nothing_from name 0 widths words

-- ---- the parts of frames

-- the words of the parts of a frame fit
abbrev AreTold : List Item → Parts → Type 0
AreTold narrow parts = AreBelow (widths_of is_state narrow) (unwrap_or parts.states []) × AreBelow (widths_of is_input narrow) parts.inputs

below : (widths : List ℕ) (list : List Assignment) → IsPart widths list → AreBelow widths list
below widths list h = all_with (IsAssignment widths) (λ (a : Assignment). a.word < 2 ^ slice_index widths a.index) list (λ a is. is.word) (recursion_from_All (IsAssignment widths) list h.each)

told_by : (narrow : List Item) (MayBe : List Assignment → Type 0) (parts : Parts) → ((list : List Assignment) → MayBe list → IsPart (widths_of is_state narrow) list) → AreParts (shape_of narrow) MayBe parts → AreTold narrow parts
told_by narrow MayBe parts is h = (by parts.states h.states, below (widths_of is_input narrow) parts.inputs h.inputs)
  where
    by : (o : Option (List Assignment)) → IfSome o MayBe → AreBelow (widths_of is_state narrow) (unwrap_or o [])
    by None may = tt
    by (Some list) may = below (widths_of is_state narrow) list (is list may)

all_told : (narrow : List Item) (frames : List Parts) → AreFrames (shape_of narrow) frames → AllByRecursion (AreTold narrow) frames
all_told narrow [] h = absurd h
all_told narrow (first ∷ later) h = (
  told_by narrow (IsPart (widths_of is_state narrow)) first (λ list is. is) h.0,
  all_with (AreParts (shape_of narrow) (IsFreePart (shape_of narrow))) (AreTold narrow) later (λ parts are. told_by narrow (IsFreePart (shape_of narrow)) parts (λ list is. is.part) are)
      (recursion_from_All (AreParts (shape_of narrow) (IsFreePart (shape_of narrow))) later h.1),
)

module _ (wide narrow : List Item) (fit : IsFit wide narrow) (w : Wide) (shape : w.shape ≡ shape_of wide) where
  abbrev state_name : ℕ → ℕ → Option (List ℕ)
  state_name k = name_at w.named w.names.states k

  abbrev input_name : ℕ → ℕ → Option (List ℕ)
  input_name k = name_at w.named w.names.inputs k

  states_are : (k : ℕ) (list : List Assignment) → join_states w narrow k list ≡ joined_states wide narrow fit list (state_name k)
  states_are k list = ap₂ (λ (widths words : List ℕ). join_part (state_name k) widths words list) (ap (λ (s : Shape). s.states) shape) (map_ids (init_words narrow) (of_kind is_state narrow))

  inputs_are : (k : ℕ) (list : List Assignment) → join_inputs w narrow k list ≡ part is_input wide narrow fit.layout (λ p. 0) list (input_name k)
  inputs_are k list = ap₂ (λ (widths words : List ℕ). join_part (input_name k) widths words list) (ap (λ (s : Shape). s.inputs) shape) (map_ids (λ p. 0) (of_kind is_input narrow))

  -- what a part of states says, where there is one
  told_are : (k : ℕ) (o : Option (List Assignment)) → unwrap_or (option_map (join_states w narrow k) o) [] ≡ joined_states wide narrow fit (unwrap_or o []) (state_name k)
  told_are k None = sym (nothing_joined (state_name k) w.shape.states (state_words narrow)) ∙ states_are k []
  told_are k (Some list) = states_are k list

  -- ---- words

  frame_alike : (k : ℕ) (parts : Parts) → AreTold narrow parts → FrameAlike wide fit.layout narrow (frame_words (join_parts w narrow k parts)) (frame_words parts)
  frame_alike k parts h =
      let list : List Assignment = unwrap_or parts.states [] in
      record {
        fits = given_words_fit narrow list parts.inputs h.0 h.1;
        makes = subst (λ (x : List Assignment × List Assignment). AllByRecursion (λ id. joined narrow fit.layout (given_words narrow (frame_words parts)) id ≡ given_words wide (frame_of (pairs_of x.0) (pairs_of x.1)) id) (given_ids wide))
            (ap₂ (λ (a b : List Assignment). (a, b)) (sym (told_are k parts.states)) (sym (inputs_are k parts.inputs))) (given_joined wide narrow fit list parts.inputs (state_name k) (input_name k));
      }

  frames_alike : (k : ℕ) (frames : List Parts) → AllByRecursion (AreTold narrow) frames → AllZip (FrameAlike wide fit.layout narrow) (map frame_words (join_frames w narrow k frames)) (map frame_words frames)
  frames_alike k [] h = tt
  frames_alike k (parts ∷ frames) h = (frame_alike k parts h.0, frames_alike (suc k) frames h.1)

  abbrev BeginsAlike : Frame → Frame → Type 0
  BeginsAlike s t = IsState narrow t × AllByRecursion (λ id. joined narrow fit.layout t id ≡ s id) (carried_ids wide)

  first_alike : (first : Parts) → AreTold narrow first → BeginsAlike (beginning wide (pairs_of (unwrap_or (option_map (join_states w narrow 0) first.states) []))) (beginning narrow (pairs_of (unwrap_or first.states [])))
  first_alike first h =
      let list : List Assignment = unwrap_or first.states [] in (
        beginning_fits narrow list fit.fits.well_formed h.0,
        subst (λ (x : List Assignment). AllByRecursion (λ id. joined narrow fit.layout (beginning narrow (pairs_of list)) id ≡ beginning wide (pairs_of x) id) (carried_ids wide)) (sym (told_are 0 first.states)) (begin_joined wide narrow fit list (state_name 0)),
      )

  begins_alike : (claims : List ℕ) (frames : List Parts) → AreFrames (shape_of narrow) frames
      → let v : Witness = record { claims = claims; frames = frames } in BeginsAlike (initial_words wide (words_of (join_witness w narrow v))) (initial_words narrow (words_of v))
  begins_alike claims [] h = absurd h
  begins_alike claims (first ∷ later) h = first_alike first (all_told narrow (first ∷ later) h).0

  pub joined_alike : (v : Witness) → IsWitness (shape_of narrow) v → AreAlike wide fit.layout narrow (words_of (join_witness w narrow v)) (words_of v)
  joined_alike v valid =
      let begins = begins_alike v.claims v.frames valid.frames in
      record { claims = refl; fits = begins.0; makes = begins.1; frames = frames_alike 0 v.frames (all_told narrow v.frames valid.frames) }

  -- ---- it is a witness

  parts_valid : (k : ℕ) (MayBe MayBe' : List Assignment → Type 0) (parts : Parts) → ((list : List Assignment) → MayBe list → MayBe' (join_states w narrow k list)) → AreParts (shape_of narrow) MayBe parts → AreParts (shape_of wide) MayBe' (join_parts w narrow k parts)
  parts_valid k MayBe MayBe' parts states h = record {
    states = by parts.states h.states;
    inputs = subst (IsPart (widths_of is_input wide)) (sym (inputs_are k parts.inputs)) (inputs_valid wide narrow fit parts.inputs (input_name k) (names_are w.named w.names.inputs k) (below (widths_of is_input narrow) parts.inputs h.inputs));
  }
    where
      by : (o : Option (List Assignment)) → IfSome o MayBe → IfSome (option_map (join_states w narrow k) o) MayBe'
      by None may = tt
      by (Some list) may = states list may

  first_valid : (first : Parts) → AreParts (shape_of narrow) (IsPart (widths_of is_state narrow)) first → AreParts (shape_of wide) (IsPart (widths_of is_state wide)) (join_parts w narrow 0 first)
  first_valid first h =
      parts_valid 0 (IsPart (widths_of is_state narrow)) (IsPart (widths_of is_state wide)) first
      (λ list is. subst (IsPart (widths_of is_state wide)) (sym (states_are 0 list)) (states_valid wide narrow fit list (state_name 0) (names_are w.named w.names.states 0) (below (widths_of is_state narrow) list is))) h

  later_valid : (k : ℕ) (parts : Parts) → AreParts (shape_of narrow) (IsFreePart (shape_of narrow)) parts → AreParts (shape_of wide) (IsFreePart (shape_of wide)) (join_parts w narrow k parts)
  later_valid k parts h =
      parts_valid k (IsFreePart (shape_of narrow)) (IsFreePart (shape_of wide)) parts
      (λ list is. subst (IsFreePart (shape_of wide)) (sym (states_are k list))
      (free_valid wide narrow fit list (state_name k) (names_are w.named w.names.states k) (below (widths_of is_state narrow) list is.part) is.some (recursion_from_All (λ (a : Assignment). is_free_index (shape_of narrow) a.index ≡ true) list is.free))) h

  all_valid : (k : ℕ) (later : List Parts) → AllByRecursion (AreParts (shape_of narrow) (IsFreePart (shape_of narrow))) later → AllByRecursion (AreParts (shape_of wide) (IsFreePart (shape_of wide))) (join_frames w narrow k later)
  all_valid k [] h = tt
  all_valid k (parts ∷ later) h = (later_valid k parts h.0, all_valid (suc k) later h.1)

  frames_valid : (frames : List Parts) → AreFrames (shape_of narrow) frames → AreFrames (shape_of wide) (join_frames w narrow 0 frames)
  frames_valid [] h = absurd h
  frames_valid (first ∷ later) h = (
    first_valid first h.0,
    All-from_recursion (AreParts (shape_of wide) (IsFreePart (shape_of wide))) (join_frames w narrow 1 later) (all_valid 1 later (recursion_from_All (AreParts (shape_of narrow) (IsFreePart (shape_of narrow))) later h.1)),
  )

  pub joined_valid : (v : Witness) → IsWitness (shape_of narrow) v → IsWitness (shape_of wide) (join_witness w narrow v)
  joined_valid v valid = record {
    some_claim = valid.some_claim;
    claims = subst (λ (n : ℕ). All (λ i. i < n) v.claims) (ap (λ (s : Shape). s.bads) (shapes_cut wide narrow fit)) valid.claims;
    distinct = valid.distinct;
    frames = frames_valid v.frames valid.frames;
  }
