-- A run of a model, by a trace of the list that it is written out as, is as is told where the words of that are.
use Rattle.std.proofs.Common.{◌≡◌, ℕ, ◌+◌, Bool, true, false, cond, List, [], ◌∷◌, map, Option, Some, None, unwrap_or, option_map, refl, ap, subst, ◌∙◌, ⊎_elim}
use Rattle.std.specs.List.{AllByRecursion, AllZip}
use Rattle.btor2.specs.declared.item.Item.{Item}
use Rattle.btor2.specs.declared.item.Body.{Body}
use Rattle.btor2.specs.declared.item.Body.TheVariants as body
use Rattle.btor2.specs.Items.{is_input, is_state, is_free, init_value}
use Rattle.btor2.specs.Trace.{Frame, LineHolds, IsFrame, next_state, IsTrace}
use Rattle.btor2.proofs.StateWords.{state_has_word, free_word}
use Rattle.full.specs.Lines.{Operand, Says, form, FullLine, find_line, is_form, lines_of, init_of, next_of}
use Rattle.full.specs.Agreement.{names_full_state}
use Rattle.full.specs.WrittenOut.{Places, read_by, InputIsWritten, LeafIsWritten, StateIsWritten, IsAsItIs, IsByFirstWord, InitIsWritten, IsWrittenOut}
use Rattle.full.proofs.ListLemmas.{all_with}
use Rattle.full.proofs.FullLookUps.{each_found, init_said}
use Rattle.full.proofs.WideLemmas.{line_found}
use Rattle.full.proofs.PlaceLemmas.{placed, later_word}
use Rattle.full.proofs.UpLemmas.{is_later}
use Rattle.witness.specs.Judgements.{FrameWords}
use Rattle.fulljudge.specs.Shapes.{Leaf, leaf_of, leaves_of, word_count}
use Rattle.fulljudge.specs.Told.{ByIndex, InputTold, FirstTold, LaterTold, IsFirst, IsLater, AreTold}
use Rattle.fulljudge.specs.Written.{InputGiven, FirstGiven, LaterGiven, IsFirstGiven, IsLaterGiven, AreGiven}

-- ---- the leaves of a kind

pub by_index : (Known : Leaf → Type 0) (P Q : ℕ → Leaf → Type 0) (i : ℕ) (leaves : List Leaf) → ((i : ℕ) (l : Leaf) → Known l → P i l → Q i l) → AllByRecursion Known leaves → ByIndex P i leaves → ByIndex Q i leaves
by_index Known P Q i [] step known h = tt
by_index Known P Q i (l ∷ leaves) step known h = (step i l known.0 h.0, by_index Known P Q (i + word_count l.sort) leaves step known.1 h.1)

-- what holds of each line, and of those of a kind more, holds of the leaves
of_leaves : (full : List FullLine) (kind : Body → Bool) (P : ℕ → Type 0) (xs : List FullLine) → AllByRecursion (λ (x : FullLine). is_form kind x.says ≡ true → P x.id) xs
    → AllByRecursion (λ (l : Leaf). P l.id) (map (leaf_of full) (lines_of kind xs))
of_leaves full kind P [] h = tt
of_leaves full kind P (x ∷ xs) h = by (is_form kind x.says) refl (of_leaves full kind P xs h.1)
  where
    by : (b : Bool) → is_form kind x.says ≡ b → AllByRecursion (λ (l : Leaf). P l.id) (map (leaf_of full) (lines_of kind xs))
        → AllByRecursion (λ (l : Leaf). P l.id) (map (leaf_of full) (cond b (x ∷ lines_of kind xs) (lines_of kind xs)))
    by true e rest = (h.0 e, rest)
    by false e rest = rest

-- a state is named
named_by : (o : Option FullLine) (x : FullLine) → o ≡ Some x → is_form is_state x.says ≡ true → unwrap_or (option_map (λ (y : FullLine). is_form is_state y.says) o) false ≡ true
named_by o x e is = ap (λ (o : Option FullLine). unwrap_or (option_map (λ (y : FullLine). is_form is_state y.says) o) false) e ∙ is

pub states_named : (full : List FullLine) (p : Places) (wide : List Item) → IsWrittenOut full p wide → AllByRecursion (λ (l : Leaf). names_full_state full l.id ≡ true) (leaves_of is_state full)
states_named full p wide h =
    of_leaves full is_state (λ id. names_full_state full id ≡ true) full
    (all_with (λ (x : FullLine). find_line full x.id ≡ Some x) (λ (x : FullLine). is_form is_state x.says ≡ true → names_full_state full x.id ≡ true) full
    (λ x found is. named_by (find_line full x.id) x found is) (each_found full h.agrees))

input_at : (full : List FullLine) (p : Places) (wide : List Item) (id : ℕ) (b : Says) → is_form is_input b ≡ true → LeafIsWritten full p wide id b → InputIsWritten full p wide id
input_at full p wide id (form (body.Input s) minuses) is h = h
input_at full p wide id (form _ minuses) is h = absurd (cc)
input_at full p wide id _ is h = absurd (cc)

inputs_placed : (full : List FullLine) (p : Places) (wide : List Item) → IsWrittenOut full p wide → AllByRecursion (λ (l : Leaf). InputIsWritten full p wide l.id) (leaves_of is_input full)
inputs_placed full p wide h =
    of_leaves full is_input (InputIsWritten full p wide) full
    (all_with (λ (x : FullLine). LeafIsWritten full p wide x.id x.says) (λ (x : FullLine). is_form is_input x.says ≡ true → InputIsWritten full p wide x.id) full
    (λ x written is. input_at full p wide x.id x.says is written) h.leaves)

-- ---- words of a frame

input_word : (full : List FullLine) (p : Places) (wide : List Item) (state input g : Frame) (id : ℕ) → InputIsWritten full p wide id → IsFrame wide state input g → g (p.node id) ≡ input (p.node id)
input_word full p wide state input g id is frame =
    let stands = is.0.1 in
    subst (λ (b : Body). LineHolds wide state input g (p.node id) b) stands.2 (line_found wide state input g (p.node id) stands.0 stands.1 frame)

-- the state of a state without a next line is given its words
pub open_state : (full : List FullLine) (p : Places) (wide : List Item) (id : ℕ) → IsWrittenOut full p wide → names_full_state full id ≡ true → next_of full id ≡ None → is_free wide (p.leaf id) ≡ true
open_state full p wide id h names none = by (init_of full id) refl
  where
    place : StateIsWritten full p wide id
    place = placed full p wide id h names

    free : init_value wide (p.leaf id) ≡ None → is_free wide (p.leaf id) ≡ true
    free e = cc (e, place.no_next none)

    by : (o : Option Operand) → init_of full id ≡ o → is_free wide (p.leaf id) ≡ true
    by None e = free (place.no_init e).1
    by (Some o) e =
        ⊎_elim (λ (same : IsAsItIs full p wide id o). absurd (cc (same.goes_on, place.no_next none)))
        (λ (choice : IsByFirstWord full p wide id o). free choice.begins_open) (init_said (InitIsWritten full p wide) full id o h.inits e)

module _ (full : List FullLine) (p : Places) (wide : List Item) (h : IsWrittenOut full p wide) where
  inputs_told : (list : List (ℕ × ℕ)) (state input g : Frame) → IsFrame wide state input g → ByIndex (InputGiven p list input) 0 (leaves_of is_input full) → ByIndex (InputTold list (read_by p g)) 0 (leaves_of is_input full)
  inputs_told list state input g frame given =
      by_index (λ (l : Leaf). InputIsWritten full p wide l.id) (InputGiven p list input) (InputTold list (read_by p g)) 0 (leaves_of is_input full)
      (λ i l is e. input_word full p wide state input g l.id is frame ∙ e) (inputs_placed full p wide h) given

  first_told : (w : FrameWords) (state input g : Frame) → IsFrame wide state input g → IsFirstGiven full p wide state w input → IsFirst full w (read_by p g)
  first_told w state input g frame given =
      record {
        states =
            by_index (λ (l : Leaf). names_full_state full l.id ≡ true) (FirstGiven full p wide w.states state input) (FirstTold full w.states (read_by p g)) 0 (leaves_of is_state full)
            (λ i l names e none.
            let place = placed full p wide l.id h names in
            ap g (place.no_init none).0 ∙ state_has_word wide state input g (p.leaf l.id) frame place.state ∙ e none)
            (states_named full p wide h) given.states;
        inputs = inputs_told w.inputs state input g frame given.inputs;
      }

  later_told : (w : FrameWords) (state input g i g' : Frame) → IsFrame wide state input g → IsFrame wide (next_state wide g) i g' → IsLaterGiven full p w i → IsLater full w (read_by p g')
  later_told w state input g i g' before frame given =
      record {
        states =
            by_index (λ (l : Leaf). names_full_state full l.id ≡ true) (LaterGiven full p w.states i) (LaterTold full w.states (read_by p g')) 0 (leaves_of is_state full)
            (λ k l names e none.
            later_word full p wide l.id (next_state wide g) i g' h names frame (is_later full p wide state input g i g' h before frame)
            ∙ free_word wide (next_state wide g) i g' (p.leaf l.id) frame (placed full p wide l.id h names).state (open_state full p wide l.id h names none) ∙ e none)
            (states_named full p wide h) given.states;
        inputs = inputs_told w.inputs (next_state wide g) i g' frame given.inputs;
      }

  rest_told : (ws : List FrameWords) (state input g : Frame) (inputs gs : List Frame) → IsFrame wide state input g → IsTrace wide (next_state wide g) inputs gs → AllZip (IsLaterGiven full p) ws inputs
      → AllZip (IsLater full) ws (map (read_by p) gs)
  rest_told [] state input g [] [] frame trace given = tt
  rest_told [] state input g [] (g' ∷ gs) frame trace given = absurd trace
  rest_told [] state input g (i ∷ inputs) gs frame trace given = absurd given
  rest_told (w ∷ ws) state input g [] gs frame trace given = absurd given
  rest_told (w ∷ ws) state input g (i ∷ inputs) [] frame trace given = absurd trace
  rest_told (w ∷ ws) state input g (i ∷ inputs) (g' ∷ gs) frame trace given =
      (later_told w state input g i g' frame trace.0 given.0, rest_told ws (next_state wide g) i g' inputs gs trace.0 trace.1 given.1)

  pub are_told : (ws : List FrameWords) (state : Frame) (inputs gs : List Frame) → IsTrace wide state inputs gs → AreGiven full p wide state ws inputs → AreTold full ws (map (read_by p) gs)
  are_told [] state [] [] trace given = tt
  are_told [] state [] (g ∷ gs) trace given = absurd trace
  are_told [] state (i ∷ inputs) gs trace given = absurd given
  are_told (w ∷ ws) state [] gs trace given = absurd given
  are_told (w ∷ ws) state (i ∷ inputs) [] trace given = absurd trace
  are_told (w ∷ ws) state (i ∷ inputs) (g ∷ gs) trace given = (first_told w state i g trace.0 given.0, rest_told ws state i g inputs gs trace.0 trace.1 given.1)
