-- The words of states in the first frame, by the places of their pieces.
use Rattle.std.proofs.Common.{◌≡◌, ℕ, ◌+◌, ◌*◌, ◌^◌, ◌<◌, Bool, true, List, [], ◌∷◌, ◌++◌, map, length, slice_get, Option, Some, None, is_some, option_and_then, eqb-true, eq-eqb, ◌==◌, inl, inr, refl, sym, ap, ◌∙◌, arith}
use Rattle.std.specs.List.{AllByRecursion, AllZip}
use Rattle.std.proofs.lemmas.Bool.{true≢false, cases_Bool, false_from_ne_true}
use Rattle.std.proofs.lemmas.Option.{same_Some}
use Rattle.btor2.specs.declared.item.Item.{Item}
use Rattle.btor2.specs.Items.{find_item, is_input, is_state, node_width, width_of_body, init_value, init_word}
use Rattle.base.specs.Word.{bit}
use Rattle.btor2.specs.Trace.{Frame, bits_of, IsFrame, SameFrame, IsInput, IsState}
use Rattle.wide.specs.WideModels.{greatest_width, IsWideModel}
use Rattle.full.specs.Lines.{FullLine, Sort, Operand, init_of}
use Rattle.full.specs.WrittenOut.{Places, read_by, InitIsWritten, IsWrittenOut}
use Rattle.full.proofs.FullLookUps.{init_said}
use Rattle.full.proofs.PlainLaw.{wide_words_fit}
use Rattle.full.proofs.WideLemmas.{found_by_id}
use Rattle.fit.specs.Fitting.{Layout, joined, given_ids, carried_ids, ids_of}
use Rattle.fit.proofs.FrameLemmas.{frame_by_leaves, frame_same}
use Rattle.fit.proofs.LawLemmas.{wide_frame}
use Rattle.fit.proofs.ListLemmas.{AreDistinct}
use Rattle.celled.specs.Whole.{IsWhole}
use Rattle.fitting.specs.Laid.{HasPlace, IsLaid}
use Rattle.fitting.specs.Models.{IsFit}
use Rattle.witness.specs.ClosedWords.{word_at}
use Rattle.witness.specs.Judgements.{FrameWords, given_words}
use Rattle.fulljudge.specs.Shapes.{Leaf, leaves_of, word_count, word_width, first_index}
use Rattle.fulljudge.specs.Kept.{words_in}
use Rattle.fulljudge.specs.Told.{told, DiffersAt}
use Rattle.fulljudge.specs.Cells.{HasWordsOf}
use Rattle.fulljudge.specs.Compared.{StateWords, Flag, IsToldOtherwise, DiffersFirst, IsFound}
use Rattle.fulljudge.specs.Judged.{HasStateWords}
use Rattle.fulljudge.proofs.CelledLemmas.{by_part}
use Rattle.fulljudge.proofs.JudgedLemmas.{all_get}
use Rattle.fulljudge.proofs.DigitLemmas.{bit_is}
use Rattle.fulljudge.proofs.OtherwiseLemmas.{get_below, IsRead, none_otherwise, otherwise_differs, same_word}
use Rattle.fulljudge.proofs.ToldLemmas.{WordsFit}
use Rattle.fulljudge.proofs.StateNodeLemmas.{StateAt, state_at, zip_get, get_front, get_behind, get_map, index_within}

-- ---- the first frame

module _ (full : List FullLine) (p : Places) (wide : List Item) (layout : Layout) (celled : List Item) (h : IsWrittenOut full p wide) (c : HasWordsOf full p wide layout celled) (model : IsWideModel greatest_width celled)
    (distinct_inputs : AreDistinct (ids_of (λ x. is_input x.body) celled)) (distinct_states : AreDistinct (ids_of (λ x. is_state x.body) celled)) (narrow : List Item) (fit : IsFit celled narrow) (w : StateWords) (placed_words : HasStateWords full p wide layout celled narrow fit w)
    (f : FrameWords) (begin : Frame) (begins : (q : ℕ) → init_word celled q ≡ None → begin q ≡ by_part is_state celled f.states q) (state : IsState celled begin) (input : IsInput celled (given_words celled f)) (g : Frame) (frame : IsFrame celled begin (given_words celled f) g)
    (t j n : Frame) (narrow_state : IsState narrow t) (narrow_input : IsInput narrow j) (states_make : AllByRecursion (λ k. joined narrow fit.layout t k ≡ begin k) (carried_ids celled)) (inputs_make : AllByRecursion (λ k. joined narrow fit.layout j k ≡ given_words celled f k) (given_ids celled))
    (runs : IsFrame narrow t j n) where
  same : SameFrame celled g (joined narrow fit.layout n)
  same =
      frame_same celled begin (given_words celled f) g (joined narrow fit.layout n) fit.fits.ordered frame
      (frame_by_leaves celled (joined narrow fit.layout t) begin (joined narrow fit.layout j) (given_words celled f) (joined narrow fit.layout n) states_make inputs_make (wide_frame celled narrow fit.layout fit.fits t j n narrow_state narrow_input runs))

  -- a place has the word of the node that stands there, which fits it
  word_there : (q place : ℕ) → HasPlace narrow q place → word_at narrow n place ≡ Some (n q)
  word_there q place has = rw (has.3, has.1) (ap (λ (k : ℕ). Some (n k)) has.2)

  width_there : (q place : ℕ) → HasPlace narrow q place → is_some (node_width narrow q) ≡ true
  width_there q place has =
      let found : find_item narrow (has.0).id ≡ Some has.0 = all_get (λ (x : Item). find_item narrow x.id ≡ Some x) narrow place has.0 (found_by_id greatest_width narrow fit.fits.well_formed) has.1 in
      ap (λ (k : ℕ). is_some (node_width narrow k)) (sym has.2)
      ∙ ap (λ (o : Option Item). is_some (option_and_then (λ (x : Item). width_of_body narrow x.body) o)) (found ∙ sym has.1) ∙ has.3

  each_there : (qs places : List ℕ) → AllZip (HasPlace narrow) qs places → AllZip (λ q place. word_at narrow n place ≡ Some (n q)) qs places × AllByRecursion (λ q. n q < 2 ^ bits_of narrow q) qs
  each_there [] [] has = (tt, tt)
  each_there [] (place ∷ places) has = absurd has
  each_there (q ∷ qs) [] has = absurd has
  each_there (q ∷ qs) (place ∷ places) has =
      let more = each_there qs places has.1 in
      ((word_there q place has.0, more.0), (wide_words_fit narrow t j n fit.fits.well_formed narrow_state narrow_input runs q (width_there q place has.0), more.1))

  -- the word of a node is read at its places
  read_of : (id k : ℕ) (places : List ℕ) → IsWhole wide layout celled id k → IsLaid celled narrow fit.layout k places → IsRead (word_at narrow n) (bits_of narrow) n (fit.layout k) places (joined celled layout g id)
  read_of id k places whole laid =
      let each = each_there (fit.layout k) places laid.at in
      record {
        at = each.0;
        cut = laid.cut;
        fit = each.1;
        is = sym (whole.word begin (given_words celled f) g state input frame) ∙ same k (ap is_some whole.width);
      }

  -- ---- a state

  module _ (i : ℕ) (l : Leaf) (there : slice_get (leaves_of is_state full) i ≡ Some l) where
    abbrev sorts : List Sort
    sorts = map (λ (m : Leaf). m.sort) (leaves_of is_state full)

    pub at : StateAt full p wide layout celled w.leaves w.nodes f g i l
    at = state_at full p wide layout celled h c model distinct_inputs distinct_states w.leaves w.nodes placed_words.state_nodes f begin begins state input g frame i l there

    pub leaf_places : (places : List ℕ) × (slice_get w.places i ≡ Some places) × IsLaid celled narrow fit.layout at.leaf places
    leaf_places = zip_get (IsLaid celled narrow fit.layout) (w.leaves ++ w.nodes) w.places i at.leaf placed_words.places (get_front w.leaves w.nodes i at.leaf at.is_leaf)

    pub state_places : (places : List ℕ) × (slice_get w.places (length w.leaves + i) ≡ Some places) × IsLaid celled narrow fit.layout at.node places
    state_places = zip_get (IsLaid celled narrow fit.layout) (w.leaves ++ w.nodes) w.places (length w.leaves + i) at.node placed_words.places (get_behind w.leaves w.nodes i ∙ at.is_node)

    pub own : IsRead (word_at narrow n) (bits_of narrow) n (fit.layout at.leaf) leaf_places.0 (joined celled layout g (p.leaf l.id))
    own = read_of (p.leaf l.id) at.leaf leaf_places.0 at.leaf_whole leaf_places.2

    pub begun : IsRead (word_at narrow n) (bits_of narrow) n (fit.layout at.node) state_places.0 (read_by p (joined celled layout g) l.id)
    begun = read_of (p.node l.id) at.node state_places.0 at.node_whole state_places.2

    module _ (flags : List Bool) (flag : Flag flags f.states) (many : length flags ≡ words_in sorts) (fit_words : WordsFit f.states l.sort (first_index sorts i)) where
      room : first_index sorts i + word_count l.sort < length flags + 1
      room = omega (arith, many, index_within sorts i l.sort (get_map (λ (m : Leaf). m.sort) (leaves_of is_state full) i l there))

      -- a state that begins with no constant is as is told where none is found to be told otherwise
      pub none_found : IsFound (word_at narrow n) flags sorts w None → init_value wide (p.leaf l.id) ≡ None → told f.states l.sort (first_index sorts i) (read_by p (joined celled layout g) l.id) ≡ read_by p (joined celled layout g) l.id
      none_found found none = by (slice_get w.leaves i) (slice_get w.nodes i) refl refl
        where
          differs : (IsToldOtherwise (word_at narrow n) flags l.sort (first_index sorts i) leaf_places.0 state_places.0) → DiffersFirst (word_at narrow n) flags sorts w i
          differs o =
              record {
                sort = l.sort;
                leaf = leaf_places.0;
                node = state_places.0;
                within = get_below w.leaves i at.leaf at.is_leaf;
                is_sort = get_map (λ (m : Leaf). m.sort) (leaves_of is_state full) i l there;
                is_leaf = leaf_places.1;
                is_node = state_places.1;
                otherwise = o;
              }

          other : (at.leaf ≡ at.node → ⊥) → told f.states l.sort (first_index sorts i) (read_by p (joined celled layout g) l.id) ≡ read_by p (joined celled layout g) l.id
          other apart =
              none_otherwise (word_at narrow n) (bits_of narrow) n (fit.layout at.leaf) (fit.layout at.node) leaf_places.0 state_places.0 (joined celled layout g (p.leaf l.id)) (read_by p (joined celled layout g) l.id) own begun f.states flags l.sort
              (first_index sorts i) flag room fit_words (at.own_told none) at.own_below at.begun_below
              (λ o. found i (λ e. apart (same_Some at.leaf at.node (sym at.is_leaf ∙ e ∙ at.is_node))) (differs o))

          alike : at.leaf ≡ at.node → told f.states l.sort (first_index sorts i) (read_by p (joined celled layout g) l.id) ≡ read_by p (joined celled layout g) l.id
          alike e =
              same_word (word_at narrow n) (bits_of narrow) n (fit.layout at.leaf) (fit.layout at.node) leaf_places.0 state_places.0 (joined celled layout g (p.leaf l.id)) (read_by p (joined celled layout g) l.id) own begun f.states flags l.sort
              (first_index sorts i) flag room fit_words (at.own_told none) at.own_below at.begun_below
              (sym (at.leaf_whole.word begin (given_words celled f) g state input frame) ∙ ap g e ∙ at.node_whole.word begin (given_words celled f) g state input frame)

          by : (a b : Option ℕ) → slice_get w.leaves i ≡ a → slice_get w.nodes i ≡ b → told f.states l.sort (first_index sorts i) (read_by p (joined celled layout g) l.id) ≡ read_by p (joined celled layout g) l.id
          by a b is_a is_b =
              elim (cases_Bool (at.leaf == at.node)) [
                | inl e ↦ alike (eqb-true at.leaf at.node e)
                | inr e ↦ other (λ same. true≢false (sym (eq-eqb _ _ same) ∙ e))
              ]

      -- and one that is found to be told otherwise differs
      pub one_found : IsToldOtherwise (word_at narrow n) flags l.sort (first_index sorts i) leaf_places.0 state_places.0 → DiffersAt full f.states (read_by p (joined celled layout g)) i
      one_found o = by (init_of full l.id) refl
        where
          -- the leaf is not the state's node
          apart : p.node l.id ≡ p.leaf l.id → ⊥
          apart e =
              let same_words : joined celled layout g (p.leaf l.id) ≡ read_by p (joined celled layout g) l.id = ap (joined celled layout g) (sym e) in
              let c : ℕ = o.cell in
              let b : ℕ = o.differ.place in
              o.differ.differs
              (bit_is (word_at narrow n) (bits_of narrow) n (fit.layout at.leaf) leaf_places.0 (c * word_width l.sort + b) own.at own.cut own.fit
              ∙ ap (λ (x : ℕ). bit x (c * word_width l.sort + b) == 1) (sym own.is ∙ same_words ∙ begun.is)
              ∙ sym (bit_is (word_at narrow n) (bits_of narrow) n (fit.layout at.node) state_places.0 (c * word_width l.sort + b) begun.at begun.cut begun.fit))

          written : (a : Operand) → init_of full l.id ≡ Some a → InitIsWritten full p wide l.id a → DiffersAt full f.states (read_by p (joined celled layout g)) i
          written a e (inl same) = absurd (apart same.same)
          written a e (inr choice) =
              record {
                leaf = l;
                there = there;
                has_init = ap is_some e;
                other = false_from_ne_true (told f.states l.sort (first_index sorts i) (read_by p (joined celled layout g) l.id) == read_by p (joined celled layout g) l.id)
                    (λ yes.
                    otherwise_differs (word_at narrow n) (bits_of narrow) n (fit.layout at.leaf) (fit.layout at.node) leaf_places.0 state_places.0 (joined celled layout g (p.leaf l.id)) (read_by p (joined celled layout g) l.id) own begun f.states flags l.sort
                    (first_index sorts i) flag room fit_words (at.own_told choice.begins_open) at.own_below at.begun_below o (eqb-true _ _ yes));
              }

          by : (a : Option Operand) → init_of full l.id ≡ a → DiffersAt full f.states (read_by p (joined celled layout g)) i
          by (Some a) e = written a e (init_said (InitIsWritten full p wide) full l.id a h.inits e)
          by None e = absurd (apart (at.place.no_init e).0)
