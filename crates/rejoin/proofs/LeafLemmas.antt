-- The inputs and states of a list, and their pieces: which are free, and how wide they are.
use Rattle.std.proofs.Common.{◌≡◌, ℕ, Bool, true, false, not, ◌&&◌, ◌||◌, List, [], ◌∷◌, map, Some, refl, sym, ap, subst, ◌∙◌}
use Rattle.std.specs.List.{AllByRecursion}
use Rattle.btor2.specs.declared.item.Item.{Item}
use Rattle.btor2.specs.Items.{find_item, is_input, is_state, is_free, is_free_state, is_carried_state, names_state}
use Rattle.btor2.specs.Trace.{bits_of}
use Rattle.btor2.proofs.IdLemmas.{ids_named, input_is_no_state}
use Rattle.fit.specs.Fitting.{Layout, is_given, given_ids, carried_ids, HasWidthOfPieces, IsFittingOf}
use Rattle.fit.proofs.ModelLemmas.{found_names, given_are_free}
use Rattle.fit.proofs.ListLemmas.{all_with, all_both, all_pieces, of_ids, to_ids}
use Rattle.rejoin.specs.Pieces.{cut_width}
use Rattle.fitting.specs.Models.{input_ids, state_ids, IsCutBy, IsFit}
use Rattle.rejoin.proofs.CutWordLemmas.{widths_are_cut}

-- ---- kinds of leaves

-- what holds of all that is given where it is free, and of all that is carried where it is not, holds of the states
pub states_from : (items : List Item) (P : ℕ → Type 0) → AllByRecursion (λ k. is_free items k ≡ true → P k) (given_ids items) → AllByRecursion (λ k. is_free items k ≡ false → P k) (carried_ids items)
    → AllByRecursion P (state_ids items)
states_from items P given carried =
    to_ids P (λ (x : Item). is_state x.body) items
    (all_with (λ (x : Item). (is_given items x ≡ true → is_free items x.id ≡ true → P x.id) × (is_carried_state items x ≡ true → is_free items x.id ≡ false → P x.id)) (λ (x : Item). is_state x.body ≡ true → P x.id) items
    (λ x h. by (is_input x.body) (is_state x.body) (is_free items x.id) (P x.id) h.0 h.1)
    (all_both (λ (x : Item). is_given items x ≡ true → is_free items x.id ≡ true → P x.id) (λ (x : Item). is_carried_state items x ≡ true → is_free items x.id ≡ false → P x.id) items
    (of_ids (λ k. is_free items k ≡ true → P k) (is_given items) items given) (of_ids (λ k. is_free items k ≡ false → P k) (is_carried_state items) items carried)))
  where
    by : (i s f : Bool) (Q : Type 0) → ((i || (s && f)) ≡ true → f ≡ true → Q) → ((s && not f) ≡ true → f ≡ false → Q) → s ≡ true → Q
    by true true true Q h k e = h refl refl
    by false true true Q h k e = h refl refl
    by i true false Q h k e = k refl refl
    by i false f Q h k e = absurd (cc)

-- what holds of all that is given holds of the inputs
pub inputs_from : (items : List Item) (P : ℕ → Type 0) → AllByRecursion P (given_ids items) → AllByRecursion P (input_ids items)
inputs_from items P given =
    to_ids P (λ (x : Item). is_input x.body) items
    (all_with (λ (x : Item). is_given items x ≡ true → P x.id) (λ (x : Item). is_input x.body ≡ true → P x.id) items (λ x h e. h (ap (λ (b : Bool). b || is_free_state items x) e)) (of_ids P (is_given items) items given))

-- what holds of the inputs, and of the states that are free, holds of all that is given
pub given_from : (items : List Item) (P : ℕ → Type 0) → AllByRecursion P (input_ids items) → AllByRecursion (λ k. is_free items k ≡ true → P k) (state_ids items) → AllByRecursion P (given_ids items)
given_from items P inputs states =
    to_ids P (is_given items) items
    (all_with (λ (x : Item). (is_input x.body ≡ true → P x.id) × (is_state x.body ≡ true → is_free items x.id ≡ true → P x.id)) (λ (x : Item). is_given items x ≡ true → P x.id) items
    (λ x h. by (is_input x.body) (is_state x.body) (is_free items x.id) (P x.id) h.0 h.1)
    (all_both (λ (x : Item). is_input x.body ≡ true → P x.id) (λ (x : Item). is_state x.body ≡ true → is_free items x.id ≡ true → P x.id) items
    (of_ids P (λ (x : Item). is_input x.body) items inputs) (of_ids (λ k. is_free items k ≡ true → P k) (λ (x : Item). is_state x.body) items states)))
  where
    by : (i s f : Bool) (Q : Type 0) → (i ≡ true → Q) → (s ≡ true → f ≡ true → Q) → (i || (s && f)) ≡ true → Q
    by true s f Q h k e = h refl
    by false true true Q h k e = k refl refl
    by false true false Q h k e = absurd (cc)
    by false false f Q h k e = absurd (cc)

-- what holds of the states holds of those that are carried
pub carried_from : (items : List Item) (P : ℕ → Type 0) → AllByRecursion P (state_ids items) → AllByRecursion P (carried_ids items)
carried_from items P states =
    to_ids P (is_carried_state items) items
    (all_with (λ (x : Item). is_state x.body ≡ true → P x.id) (λ (x : Item). is_carried_state items x ≡ true → P x.id) items (λ x h. by (is_state x.body) (is_free items x.id) (P x.id) h) (of_ids P (λ (x : Item). is_state x.body) items states))
  where
    by : (s f : Bool) (Q : Type 0) → (s ≡ true → Q) → (s && not f) ≡ true → Q
    by true f Q h e = h refl
    by false f Q h e = absurd (cc)

-- ---- which are free

pub carried_are_not : (items : List Item) → AllByRecursion (λ k. is_free items k ≡ false) (carried_ids items)
carried_are_not items =
    to_ids (λ k. is_free items k ≡ false) (is_carried_state items) items (each items)
  where
    by : (s f : Bool) → (s && not f) ≡ true → f ≡ false
    by true true e = absurd (cc)
    by true false e = refl
    by false f e = absurd (cc)

    each : (xs : List Item) → AllByRecursion (λ (x : Item). is_carried_state items x ≡ true → is_free items x.id ≡ false) xs
    each [] = tt
    each (x ∷ xs) = (λ e. by (is_state x.body) (is_free items x.id) e, each xs)

-- the pieces of a state are free where it is
abbrev pub FreeAlike : List Item → Layout → List Item → ℕ → Type 0
FreeAlike wide layout narrow id = AllByRecursion (λ p. is_free narrow p ≡ is_free wide id) (layout id)

pub free_alike : (wide narrow : List Item) (layout : Layout) → IsFittingOf wide layout narrow → AllByRecursion (FreeAlike wide layout narrow) (state_ids wide)
free_alike wide narrow layout fit =
    states_from wide (FreeAlike wide layout narrow)
    (all_with (λ w. AllByRecursion (λ p. is_free narrow p ≡ true) (layout w)) (λ w. is_free wide w ≡ true → FreeAlike wide layout narrow w) (given_ids wide)
    (λ w h e. all_with (λ p. is_free narrow p ≡ true) (λ p. is_free narrow p ≡ is_free wide w) (layout w) (λ p d. d ∙ sym e) h)
    (all_pieces (λ p. is_free narrow p ≡ true) layout (given_ids wide) (subst (AllByRecursion (λ p. is_free narrow p ≡ true)) (sym fit.given) (given_are_free narrow fit.well_formed))))
    (all_with (λ w. AllByRecursion (λ p. is_free narrow p ≡ false) (layout w)) (λ w. is_free wide w ≡ false → FreeAlike wide layout narrow w) (carried_ids wide)
    (λ w h e. all_with (λ p. is_free narrow p ≡ false) (λ p. is_free narrow p ≡ is_free wide w) (layout w) (λ p d. d ∙ sym e) h)
    (all_pieces (λ p. is_free narrow p ≡ false) layout (carried_ids wide) (subst (AllByRecursion (λ p. is_free narrow p ≡ false)) (sym fit.carried) (carried_are_not narrow))))

-- ---- what their ids name

pub states_named : (wide narrow : List Item) → IsFit wide narrow → AllByRecursion (λ k. names_state wide k ≡ true) (state_ids wide)
states_named wide narrow fit =
    to_ids (λ k. names_state wide k ≡ true) (λ (x : Item). is_state x.body) wide
    (all_with (λ (x : Item). find_item wide x.id ≡ Some x) (λ (x : Item). is_state x.body ≡ true → names_state wide x.id ≡ true) wide (λ x found is. found_names wide x true found is) fit.found)

pub inputs_named : (wide narrow : List Item) → IsFit wide narrow → AllByRecursion (λ k. names_state wide k ≡ false) (input_ids wide)
inputs_named wide narrow fit =
    to_ids (λ k. names_state wide k ≡ false) (λ (x : Item). is_input x.body) wide
    (all_with (λ (x : Item). find_item wide x.id ≡ Some x) (λ (x : Item). is_input x.body ≡ true → names_state wide x.id ≡ false) wide (λ x found is. found_names wide x false found (input_is_no_state x.body is)) fit.found)

-- the pieces of a leaf name states, or none does
abbrev pub PiecesName : Layout → List Item → Bool → ℕ → Type 0
PiecesName layout narrow b k = AllByRecursion (λ p. names_state narrow p ≡ b) (layout k)

pub state_pieces_name : (wide narrow : List Item) (fit : IsFit wide narrow) → AllByRecursion (PiecesName fit.layout narrow true) (state_ids wide)
state_pieces_name wide narrow fit =
    all_pieces (λ p. names_state narrow p ≡ true) fit.layout (state_ids wide) (subst (AllByRecursion (λ p. names_state narrow p ≡ true)) (sym fit.states)
    (to_ids (λ p. names_state narrow p ≡ true) (λ (x : Item). is_state x.body) narrow (ids_named narrow (λ (x : Item). is_state x.body) true fit.well_formed (λ x e. e))))

pub input_pieces_name : (wide narrow : List Item) (fit : IsFit wide narrow) → AllByRecursion (PiecesName fit.layout narrow false) (input_ids wide)
input_pieces_name wide narrow fit =
    all_pieces (λ p. names_state narrow p ≡ false) fit.layout (input_ids wide) (subst (AllByRecursion (λ p. names_state narrow p ≡ false)) (sym fit.inputs)
    (to_ids (λ p. names_state narrow p ≡ false) (λ (x : Item). is_input x.body) narrow (ids_named narrow (λ (x : Item). is_input x.body) false fit.well_formed (λ x e. input_is_no_state x.body e))))

-- ---- how wide they are

-- the pieces of a leaf have the widths of its width cut
abbrev pub IsCutTo : List Item → Layout → List Item → ℕ → Type 0
IsCutTo wide layout narrow id = map (bits_of narrow) (layout id) ≡ cut_width (bits_of wide id)

cut_to : (wide narrow : List Item) (layout : Layout) (ids : List ℕ) → AllByRecursion (HasWidthOfPieces wide layout narrow) ids → AllByRecursion (IsCutBy layout narrow) ids → AllByRecursion (IsCutTo wide layout narrow) ids
cut_to wide narrow layout ids widths cuts =
    all_with (λ w. HasWidthOfPieces wide layout narrow w × IsCutBy layout narrow w) (IsCutTo wide layout narrow) ids (λ w h. widths_are_cut (bits_of narrow) (layout w) h.1 ∙ ap cut_width (sym h.0))
    (all_both (HasWidthOfPieces wide layout narrow) (IsCutBy layout narrow) ids widths cuts)

pub states_cut_to : (wide narrow : List Item) (fit : IsFit wide narrow) → AllByRecursion (IsCutTo wide fit.layout narrow) (state_ids wide)
states_cut_to wide narrow fit =
    cut_to wide narrow fit.layout (state_ids wide)
    (states_from wide (HasWidthOfPieces wide fit.layout narrow)
    (all_with (HasWidthOfPieces wide fit.layout narrow) (λ w. is_free wide w ≡ true → HasWidthOfPieces wide fit.layout narrow w) (given_ids wide) (λ w h e. h) fit.fits.given_widths)
    (all_with (HasWidthOfPieces wide fit.layout narrow) (λ w. is_free wide w ≡ false → HasWidthOfPieces wide fit.layout narrow w) (carried_ids wide) (λ w h e. h) fit.fits.carried_widths))
    fit.state_cuts

pub inputs_cut_to : (wide narrow : List Item) (fit : IsFit wide narrow) → AllByRecursion (IsCutTo wide fit.layout narrow) (input_ids wide)
inputs_cut_to wide narrow fit = cut_to wide narrow fit.layout (input_ids wide) (inputs_from wide (HasWidthOfPieces wide fit.layout narrow) fit.fits.given_widths) fit.input_cuts
