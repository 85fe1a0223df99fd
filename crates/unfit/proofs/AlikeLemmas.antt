-- A witness over the fitted model that is joined says over the list what it says over that.
use Rattle.std.proofs.Common.{◌≡◌, ℕ, ◌^◌, ◌<◌, Bool, true, false, cond, nat_eq, List, [], ◌∷◌, map, filter, flat_map, length, slice_index, Option, Some, None, IfSome, unwrap_or, option_and_then, refl, sym, ap, ap₂, ◌∙◌, pow_pos}
use Rattle.std.specs.List.{AllByRecursion, position_from}
use Rattle.std.specs.Option.{option_or}
use Rattle.std.proofs.lemmas.Bool.{both_ways}
use Rattle.btor2.specs.declared.item.Item.{Item}
use Rattle.btor2.specs.declared.item.Body.{Body}
use Rattle.btor2.specs.Items.{is_input, is_state, is_free, names_state, find_item, constant_of, init_value, init_word}
use Rattle.wide.specs.WideModels.{greatest_width, IsWideModel}
use Rattle.btor2.specs.Trace.{Frame, bits_of, IsState, IsInput}
use Rattle.btor2.proofs.IdLemmas.{ids_fresh, input_is_no_state}
use Rattle.btor2.proofs.InitLemmas.{init_not_free}
use Rattle.fit.specs.Fitting.{Layout, joined, init_words, given_ids, carried_ids, ids_of}
use Rattle.fit.proofs.FrameLemmas.{state_from_ids, input_from_ids}
use Rattle.fit.proofs.LawLemmas.{all_of}
use Rattle.fit.proofs.ModelLemmas.{init_words_fit}
use Rattle.fit.proofs.ListLemmas.{AreDistinct, all_with, all_both, distinct_ids, to_ids}
use Rattle.fit.proofs.PieceLemmas.{word_same, word_zero}
use Rattle.fitting.specs.Models.{input_ids, state_ids, IsCutBy, IsFit}
use Rattle.witness.specs.Texts.{Assignment, widths_of}
use Rattle.witness.specs.Judgements.{pairs_of, given, given_to, given_words}
use Rattle.witness.proofs.GivenWordLemmas.{named_state}
use Rattle.rejoin.specs.Pieces.{piece_count}
use Rattle.rejoin.proofs.BeginLemmas.{InitsAgree, inits_agree, begins_alike}
use Rattle.rejoin.proofs.CutWordLemmas.{count_of_cut}
use Rattle.rejoin.proofs.LeafLemmas.{IsCutTo, states_cut_to, inputs_cut_to, given_from, carried_from, FreeAlike, free_alike, state_pieces_name, input_pieces_name}
use Rattle.rejoin.proofs.PlaceLemmas.{Stands, all_stand}
use Rattle.rejoin.proofs.ShapeLemmas.{map_ids}
use Rattle.rejoin.proofs.SplitPartLemmas.{index_by_ids, given_fits}
use Rattle.rejoin.proofs.SplitWordLemmas.{beginning, frame_of}
use Rattle.unfit.specs.declared.told_pieces.Piece.{Piece}
use Rattle.unfit.specs.Joined.{any_told, joined_word, join_from, join_part}
use Rattle.unfit.proofs.JoinLemmas.{pieces_at, words_with, by_id, words_at, joined_by_id, told_word, given_at, word_of_ids, none_told}

-- ---- the words of a part

-- of the leaves of a kind, by what is told of their pieces and what these have otherwise
module _ (kind : Body → Bool) (wide narrow : List Item) (layout : Layout) (other : ℕ → ℕ) (list : List Assignment) (name : ℕ → Option (List ℕ)) where
  abbrev pub ids : List ℕ
  ids = ids_of (λ x. kind x.body) wide

  abbrev pub has : ℕ → Option ℕ
  has p = given_to kind narrow (pairs_of list) p

  abbrev pub of : ℕ → List Piece
  of id = pieces_at has other (layout id)

  abbrev pub words : List ℕ
  words = map other (ids_of (λ x. kind x.body) narrow)

  abbrev pub part : List Assignment
  part = join_part name (widths_of kind wide) words list

  has_by_place : (p : ℕ) → option_and_then (given (pairs_of list)) (position_from (nat_eq p) 0 (ids_of (λ x. kind x.body) narrow)) ≡ has p
  has_by_place p = ap (option_and_then (given (pairs_of list))) (sym (index_by_ids kind narrow p))

  all_same : (f g : ℕ → Option ℕ) (ps : List ℕ) → ((p : ℕ) → f p ≡ g p) → pieces_at f other ps ≡ pieces_at g other ps
  all_same f g [] same = refl
  all_same f g (p ∷ ps) same = ap₂ (λ (o : Option ℕ) (qs : List Piece). let q : Piece = record { told = o; otherwise = other p } in q ∷ qs) (same p) (all_same f g ps same)

  module _ (same : flat_map layout ids ≡ ids_of (λ x. kind x.body) narrow) (distinct : AreDistinct (ids_of (λ x. kind x.body) narrow)) (cuts : AllByRecursion (IsCutTo wide layout narrow) ids) where
    -- it is joined leaf by leaf
    pub part_by_id : part ≡ words_at name of 0 ids
    part_by_id =
        ap₂ (join_from name 0) (map_ids (bits_of wide) (filter (λ x. kind x.body) wide)) (by_id (pairs_of list) other (ids_of (λ x. kind x.body) narrow) distinct ∙ all_same _ has (ids_of (λ x. kind x.body) narrow) has_by_place ∙ ap (pieces_at has other) (sym same))
        ∙ joined_by_id name layout (bits_of wide) has other 0 ids (all_with (IsCutTo wide layout narrow) (λ id. length (layout id) ≡ piece_count (bits_of wide id)) ids (λ id e. count_of_cut (bits_of narrow) (layout id) (bits_of wide id) e) cuts)

    -- what it gives to each
    pub part_gives : AllByRecursion (λ id. given_to kind wide (pairs_of part) id ≡ told_word (of id)) ids
    part_gives =
        all_with (Stands ids) (λ id. given_to kind wide (pairs_of part) id ≡ told_word (of id)) ids
        (λ id at. ap₂ (λ (o : Option ℕ) (l : List Assignment). option_and_then (given (pairs_of l)) o) (index_by_ids kind wide id ∙ at.2) part_by_id ∙ given_at name of at.0 id ids at.2) (all_stand ids)

-- ---- the words that states begin with

or_words : (o p : Option ℕ) → unwrap_or (option_or o p) 0 ≡ unwrap_or o (unwrap_or p 0)
or_words None p = refl
or_words (Some x) p = refl

module _ (wide narrow : List Item) (fit : IsFit wide narrow) (list : List Assignment) (name : ℕ → Option (List ℕ)) where
  abbrev layout : Layout
  layout = fit.layout

  abbrev told : ℕ → Option ℕ
  told = has is_state wide narrow layout (init_words narrow) list name

  abbrev pieces : ℕ → List Piece
  pieces = of is_state wide narrow layout (init_words narrow) list name

  abbrev pub joined_states : List Assignment
  joined_states = part is_state wide narrow layout (init_words narrow) list name

  -- the pieces of states are cut
  pub states_give : AllByRecursion (λ id. given_to is_state wide (pairs_of joined_states) id ≡ told_word (pieces id)) (state_ids wide)
  states_give =
      part_gives is_state wide narrow layout (init_words narrow) list name fit.states (distinct_ids (λ x. is_state x.body) narrow (ids_fresh narrow fit.well_formed)) (states_cut_to wide narrow fit)

  begin_by : (id : ℕ) (b : Bool) → any_told (pieces id) ≡ b → IsCutBy layout narrow id → InitsAgree wide layout narrow id → given_to is_state wide (pairs_of joined_states) id ≡ told_word (pieces id)
      → joined narrow layout (beginning narrow (pairs_of list)) id ≡ beginning wide (pairs_of joined_states) id
  begin_by id true some cut agree gives =
      word_same (bits_of narrow) (beginning narrow (pairs_of list)) (words_with told (init_words narrow)) (layout id) (all_of (λ p. beginning narrow (pairs_of list) p ≡ words_with told (init_words narrow) p) (layout id) (λ p. or_words (told p) (init_word narrow p)))
      ∙ sym (word_of_ids (bits_of narrow) told (init_words narrow) (layout id) cut)
      ∙ sym (ap (λ (o : Option ℕ). unwrap_or (option_or o (init_word wide id)) 0) (gives ∙ ap (λ (b : Bool). cond b (Some (joined_word (pieces id))) None) some))
  begin_by id false none cut agree gives =
      word_same (bits_of narrow) (beginning narrow (pairs_of list)) (init_words narrow) (layout id)
      (all_with (λ p. told p ≡ None) (λ p. beginning narrow (pairs_of list) p ≡ init_words narrow p) (layout id) (λ p e. ap (λ (o : Option ℕ). unwrap_or (option_or o (init_word narrow p)) 0) e) (none_told told (init_words narrow) (layout id) none))
      ∙ begins_alike wide narrow layout id agree
      ∙ sym (ap (λ (o : Option ℕ). unwrap_or (option_or o (init_word wide id)) 0) (gives ∙ ap (λ (b : Bool). cond b (Some (joined_word (pieces id))) None) none))

  pub begin_joined : AllByRecursion (λ id. joined narrow layout (beginning narrow (pairs_of list)) id ≡ beginning wide (pairs_of joined_states) id) (carried_ids wide)
  begin_joined =
      all_with (λ id. InitsAgree wide layout narrow id × (IsCutBy layout narrow id × (given_to is_state wide (pairs_of joined_states) id ≡ told_word (pieces id)))) (λ id. joined narrow layout (beginning narrow (pairs_of list)) id ≡ beginning wide (pairs_of joined_states) id) (carried_ids wide)
      (λ id h. begin_by id (any_told (pieces id)) refl h.1.0 h.0 h.1.1)
      (all_both (InitsAgree wide layout narrow) (λ id. IsCutBy layout narrow id × (given_to is_state wide (pairs_of joined_states) id ≡ told_word (pieces id))) (carried_ids wide) (inits_agree wide narrow layout fit.fits)
      (carried_from wide (λ id. IsCutBy layout narrow id × (given_to is_state wide (pairs_of joined_states) id ≡ told_word (pieces id)))
      (all_both (IsCutBy layout narrow) (λ id. given_to is_state wide (pairs_of joined_states) id ≡ told_word (pieces id)) (state_ids wide) fit.state_cuts states_give)))

-- ---- the words that are given in a frame

-- a leaf whose pieces have 0 otherwise
give_by : (wide narrow : List Item) (layout : Layout) (told : ℕ → Option ℕ) (other : ℕ → ℕ) (f : Frame) (o : Option ℕ) (id : ℕ) (b : Bool) → any_told (pieces_at told other (layout id)) ≡ b → IsCutBy layout narrow id → AllByRecursion (λ p. f p ≡ unwrap_or (told p) 0) (layout id)
    → AllByRecursion (λ p. other p ≡ 0) (layout id) → o ≡ told_word (pieces_at told other (layout id)) → joined narrow layout f id ≡ unwrap_or o 0
give_by wide narrow layout told other f o id true some cut words none gives =
    word_same (bits_of narrow) f (words_with told other) (layout id)
    (all_with (λ p. (f p ≡ unwrap_or (told p) 0) × (other p ≡ 0)) (λ p. f p ≡ words_with told other p) (layout id) (λ p h. h.0 ∙ ap (unwrap_or (told p)) (sym h.1)) (all_both (λ p. f p ≡ unwrap_or (told p) 0) (λ p. other p ≡ 0) (layout id) words none))
    ∙ sym (word_of_ids (bits_of narrow) told other (layout id) cut)
    ∙ sym (ap (λ (q : Option ℕ). unwrap_or q 0) (gives ∙ ap (λ (b : Bool). cond b (Some (joined_word (pieces_at told other (layout id)))) None) some))
give_by wide narrow layout told other f o id false nothing cut words none gives =
    word_zero (bits_of narrow) f (layout id)
    (all_with (λ p. (f p ≡ unwrap_or (told p) 0) × (told p ≡ None)) (λ p. f p ≡ 0) (layout id) (λ p h. h.0 ∙ ap (λ (q : Option ℕ). unwrap_or q 0) h.1) (all_both (λ p. f p ≡ unwrap_or (told p) 0) (λ p. told p ≡ None) (layout id) words (none_told told other (layout id) nothing)))
    ∙ sym (ap (λ (q : Option ℕ). unwrap_or q 0) (gives ∙ ap (λ (b : Bool). cond b (Some (joined_word (pieces_at told other (layout id)))) None) nothing))

-- a free state has no init line
free_begins_with_0 : (items : List Item) (k : ℕ) → is_free items k ≡ true → init_words items k ≡ 0
free_begins_with_0 items k h = by (init_value items k) refl
  where
    by : (o : Option ℕ) → init_value items k ≡ o → init_words items k ≡ 0
    by None e = ap (λ (o : Option ℕ). unwrap_or (option_and_then (constant_of items) o) 0) e
    by (Some v) e = absurd (both_ways (is_free items k) (init_not_free items k v e) h)

-- what the ids of leaves name
states_name : (wide narrow : List Item) → IsFit wide narrow → AllByRecursion (λ id. names_state wide id ≡ true) (state_ids wide)
states_name wide narrow fit =
    to_ids (λ id. names_state wide id ≡ true) (λ (x : Item). is_state x.body) wide (all_with (λ (x : Item). find_item wide x.id ≡ Some x) (λ (x : Item). is_state x.body ≡ true → names_state wide x.id ≡ true) wide (λ x found is. named_state wide x.id x found is) fit.found)

inputs_name : (wide narrow : List Item) → IsFit wide narrow → AllByRecursion (λ id. names_state wide id ≡ false) (input_ids wide)
inputs_name wide narrow fit =
    to_ids (λ id. names_state wide id ≡ false) (λ (x : Item). is_input x.body) wide
    (all_with (λ (x : Item). find_item wide x.id ≡ Some x) (λ (x : Item). is_input x.body ≡ true → names_state wide x.id ≡ false) wide (λ x found is. rw (found, input_is_no_state x.body is) refl) fit.found)

module _ (wide narrow : List Item) (fit : IsFit wide narrow) (list ins : List Assignment) (name input_name : ℕ → Option (List ℕ)) where
  abbrev pub joined_inputs : List Assignment
  joined_inputs = part is_input wide narrow fit.layout (λ p. 0) ins input_name

  abbrev given_narrow : Frame
  given_narrow = given_words narrow (frame_of (pairs_of list) (pairs_of ins))

  abbrev given_wide : Frame
  given_wide = given_words wide (frame_of (pairs_of (joined_states wide narrow fit list name)) (pairs_of joined_inputs))

  abbrev Makes : ℕ → Type 0
  Makes id = joined narrow fit.layout given_narrow id ≡ given_wide id

  abbrev state_told : ℕ → Option ℕ
  state_told = has is_state wide narrow fit.layout (init_words narrow) list name

  abbrev input_told : ℕ → Option ℕ
  input_told = has is_input wide narrow fit.layout (λ p. 0) ins input_name

  zeroes : (ps : List ℕ) → let zero_word : ℕ → ℕ = λ p. 0 in AllByRecursion (λ p. zero_word p ≡ 0) ps
  zeroes [] = tt
  zeroes (p ∷ ps) = (refl, zeroes ps)

  inputs_give : AllByRecursion (λ id. given_to is_input wide (pairs_of joined_inputs) id ≡ told_word (of is_input wide narrow fit.layout (λ p. 0) ins input_name id)) (input_ids wide)
  inputs_give =
      part_gives is_input wide narrow fit.layout (λ p. 0) ins input_name fit.inputs (distinct_ids (λ x. is_input x.body) narrow (ids_fresh narrow fit.well_formed)) (inputs_cut_to wide narrow fit)

  of_input : AllByRecursion Makes (input_ids wide)
  of_input =
      all_with
      (λ id. ((names_state wide id ≡ false) × AllByRecursion (λ p. names_state narrow p ≡ false) (fit.layout id)) × (IsCutBy fit.layout narrow id × (given_to is_input wide (pairs_of joined_inputs) id ≡ told_word (of is_input wide narrow fit.layout (λ p. 0) ins input_name id))))
      Makes (input_ids wide)
      (λ id h. give_by wide narrow fit.layout input_told (λ p. 0) given_narrow (given_to is_input wide (pairs_of joined_inputs) id) id (any_told (pieces_at input_told (λ p. 0) (fit.layout id))) refl h.1.0
      (all_with (λ p. names_state narrow p ≡ false) (λ p. given_narrow p ≡ unwrap_or (input_told p) 0) (fit.layout id) (λ p e. ap (λ (b : Bool). unwrap_or (cond b (given_to is_state narrow (pairs_of list) p) (input_told p)) 0) e) h.0.1) (zeroes (fit.layout id)) h.1.1
      ∙ sym (ap (λ (b : Bool). unwrap_or (cond b (given_to is_state wide (pairs_of (joined_states wide narrow fit list name)) id) (given_to is_input wide (pairs_of joined_inputs) id)) 0) h.0.0))
      (all_both (λ id. (names_state wide id ≡ false) × AllByRecursion (λ p. names_state narrow p ≡ false) (fit.layout id)) (λ id. IsCutBy fit.layout narrow id × (given_to is_input wide (pairs_of joined_inputs) id ≡ told_word (of is_input wide narrow fit.layout (λ p. 0) ins input_name id))) (input_ids wide)
      (all_both (λ id. names_state wide id ≡ false) (λ id. AllByRecursion (λ p. names_state narrow p ≡ false) (fit.layout id)) (input_ids wide) (inputs_name wide narrow fit) (input_pieces_name wide narrow fit))
      (all_both (IsCutBy fit.layout narrow) (λ id. given_to is_input wide (pairs_of joined_inputs) id ≡ told_word (of is_input wide narrow fit.layout (λ p. 0) ins input_name id)) (input_ids wide) fit.input_cuts inputs_give))

  abbrev StateKnown : ℕ → Type 0
  StateKnown id = ((names_state wide id ≡ true) × AllByRecursion (λ p. names_state narrow p ≡ true) (fit.layout id)) × (IsCutBy fit.layout narrow id × FreeAlike wide fit.layout narrow id × (given_to is_state wide (pairs_of (joined_states wide narrow fit list name)) id ≡ told_word (of is_state wide narrow fit.layout (init_words narrow) list name id)))

  of_state : AllByRecursion (λ id. is_free wide id ≡ true → Makes id) (state_ids wide)
  of_state =
      all_with StateKnown (λ id. is_free wide id ≡ true → Makes id) (state_ids wide)
      (λ id h free. give_by wide narrow fit.layout state_told (init_words narrow) given_narrow (given_to is_state wide (pairs_of (joined_states wide narrow fit list name)) id) id (any_told (pieces_at state_told (init_words narrow) (fit.layout id))) refl h.1.0
      (all_with (λ p. names_state narrow p ≡ true) (λ p. given_narrow p ≡ unwrap_or (state_told p) 0) (fit.layout id) (λ p e. ap (λ (b : Bool). unwrap_or (cond b (state_told p) (given_to is_input narrow (pairs_of ins) p)) 0) e) h.0.1)
      (all_with (λ p. is_free narrow p ≡ is_free wide id) (λ p. init_words narrow p ≡ 0) (fit.layout id) (λ p e. free_begins_with_0 narrow p (e ∙ free)) h.1.1) h.1.2
      ∙ sym (ap (λ (b : Bool). unwrap_or (cond b (given_to is_state wide (pairs_of (joined_states wide narrow fit list name)) id) (given_to is_input wide (pairs_of joined_inputs) id)) 0) h.0.0))
      (all_both (λ id. (names_state wide id ≡ true) × AllByRecursion (λ p. names_state narrow p ≡ true) (fit.layout id)) (λ id. IsCutBy fit.layout narrow id × FreeAlike wide fit.layout narrow id × (given_to is_state wide (pairs_of (joined_states wide narrow fit list name)) id ≡ told_word (of is_state wide narrow fit.layout (init_words narrow) list name id))) (state_ids wide)
      (all_both (λ id. names_state wide id ≡ true) (λ id. AllByRecursion (λ p. names_state narrow p ≡ true) (fit.layout id)) (state_ids wide) (states_name wide narrow fit) (state_pieces_name wide narrow fit))
      (three (state_ids wide) fit.state_cuts (free_alike wide narrow fit.layout fit.fits) (states_give wide narrow fit list name)))
    where
      three : (xs : List ℕ) → AllByRecursion (IsCutBy fit.layout narrow) xs → AllByRecursion (FreeAlike wide fit.layout narrow) xs → AllByRecursion (λ id. given_to is_state wide (pairs_of (joined_states wide narrow fit list name)) id ≡ told_word (of is_state wide narrow fit.layout (init_words narrow) list name id)) xs
          → AllByRecursion (λ id. IsCutBy fit.layout narrow id × FreeAlike wide fit.layout narrow id × (given_to is_state wide (pairs_of (joined_states wide narrow fit list name)) id ≡ told_word (of is_state wide narrow fit.layout (init_words narrow) list name id))) xs
      three [] a b c = tt
      three (x ∷ xs) a b c = ((a.0, b.0, c.0), three xs a.1 b.1 c.1)

  pub given_joined : AllByRecursion Makes (given_ids wide)
  given_joined = given_from wide Makes of_input of_state

-- ---- words fit

word_fits : (narrow : List Item) (p : ℕ) (o : Option ℕ) → IsWideModel greatest_width narrow → IfSome o (λ x. x < 2 ^ bits_of narrow p) → unwrap_or (option_or o (init_word narrow p)) 0 < 2 ^ bits_of narrow p
word_fits narrow p None well h = init_words_fit narrow p well
word_fits narrow p (Some x) well h = h

given_word_fits : (n : ℕ) (o : Option ℕ) → IfSome o (λ x. x < 2 ^ n) → unwrap_or o 0 < 2 ^ n
given_word_fits n None h = pow_pos n
given_word_fits n (Some x) h = h

-- the words of assignments that may be there
abbrev pub AreBelow : List ℕ → List Assignment → Type 0
AreBelow widths list = AllByRecursion (λ (a : Assignment). a.word < 2 ^ slice_index widths a.index) list

pub beginning_fits : (narrow : List Item) (list : List Assignment) → IsWideModel greatest_width narrow → AreBelow (widths_of is_state narrow) list → IsState narrow (beginning narrow (pairs_of list))
beginning_fits narrow list well below =
    state_from_ids narrow (beginning narrow (pairs_of list)) (all_of (λ p. beginning narrow (pairs_of list) p < 2 ^ bits_of narrow p) (carried_ids narrow) (λ p. word_fits narrow p (given_to is_state narrow (pairs_of list) p) well (given_fits is_state narrow list p below)))

pub given_words_fit : (narrow : List Item) (list ins : List Assignment) → AreBelow (widths_of is_state narrow) list → AreBelow (widths_of is_input narrow) ins → IsInput narrow (given_words narrow (frame_of (pairs_of list) (pairs_of ins)))
given_words_fit narrow list ins states inputs =
    input_from_ids narrow (given_words narrow (frame_of (pairs_of list) (pairs_of ins))) (all_of (λ p. given_words narrow (frame_of (pairs_of list) (pairs_of ins)) p < 2 ^ bits_of narrow p) (given_ids narrow) (λ p. by p (names_state narrow p)))
  where
    by : (p : ℕ) (b : Bool) → unwrap_or (cond b (given_to is_state narrow (pairs_of list) p) (given_to is_input narrow (pairs_of ins) p)) 0 < 2 ^ bits_of narrow p
    by p true = given_word_fits (bits_of narrow p) (given_to is_state narrow (pairs_of list) p) (given_fits is_state narrow list p states)
    by p false = given_word_fits (bits_of narrow p) (given_to is_input narrow (pairs_of ins) p) (given_fits is_input narrow ins p inputs)
