-- Which model of the profile a whole list with words of any width is fitted into, and why one is not fitted.
use Rattle.std.specs.Prelude.{◌≡◌, ◌≤◌, ℕ, List, ◌∷◌, ◌++◌, flat_map, length, Some, None}
use Rattle.std.specs.List.{AllByRecursion}
use Rattle.btor2.specs.declared.item.Item.{Item}
use Rattle.btor2.specs.Check.{most_items, IsWellFormed}
use Rattle.btor2.specs.Items.{find_item, is_input, is_state}
use Rattle.btor2.specs.Reachability.{nodes_of}
use Rattle.fit.specs.Fitting.{Layout, ids_of, carried_ids, is_output, NextIsByPieces, IsFittingOf}
use Rattle.pieces.specs.Cuts.{IsCut}
use Rattle.fitting.specs.declared.unfitted.Unfitted.TheVariants as unfitted
use Rattle.fitting.specs.declared.fault.FitFault.{FitFault}
use Rattle.fitting.specs.declared.fault.FitFault.TheVariants as fault
use Rattle.fitting.specs.Forms.{form_fault}
use Rattle.fitting.specs.Fitted.{Table, IsFitted}
use Rattle.fitting.specs.Names.{piece_widths, HasNames}
use Rattle.fitting.specs.Steps.{IsLonger}

-- the inputs, or the states, of a list
abbrev pub input_ids : List Item → List ℕ
input_ids items = ids_of (λ x. is_input x.body) items

abbrev pub state_ids : List Item → List ℕ
state_ids items = ids_of (λ x. is_state x.body) items

-- the pieces of a leaf have 64 bits each, but for the last, which has those that are left
abbrev pub IsCutBy : Layout → List Item → ℕ → Type 0
IsCutBy layout narrow id = IsCut 64 (piece_widths layout narrow id)

-- A list, no two of whose lines have one id, is fitted by some layout into a model of the profile whose lines have the names of the pieces. The pieces of its inputs are the inputs of the other, in file order, and those of
-- its states the states.
pub record IsFit (wide narrow : List Item) : Type 0 where
  pub layout : Layout
  pub fits : IsFittingOf wide layout narrow
  pub well_formed : IsWellFormed narrow
  pub names : HasNames wide layout narrow
  pub found : AllByRecursion (λ (x : Item). find_item wide x.id ≡ Some x) wide
  pub inputs : flat_map layout (input_ids wide) ≡ input_ids narrow
  pub states : flat_map layout (state_ids wide) ≡ state_ids narrow
  -- the pieces of states take the pieces of their next nodes, and the pieces of outputs are outputs, in file order
  pub nexts : AllByRecursion (NextIsByPieces wide layout narrow) (carried_ids wide)
  pub outputs : flat_map layout (nodes_of is_output wide) ≡ nodes_of is_output narrow
  pub input_cuts : AllByRecursion (IsCutBy layout narrow) (input_ids wide)
  pub state_cuts : AllByRecursion (IsCutBy layout narrow) (state_ids wide)

-- a list is fitted so far into one from which a model of the profile goes on that has as many items as it may have
pub record HasNoRoom (wide : List Item) : Type 0 where
  pub table : Table
  pub narrow : List Item
  pub fitted : IsFitted wide table narrow
  pub full : List Item
  pub longer : IsLonger narrow full
  pub well_formed : IsWellFormed full
  pub most : most_items ≤ length full

-- why a line is not fitted that stands behind others
abbrev pub IsUnfitLine : FitFault → List Item → Item → Type 0
IsUnfitLine (fault.Justice id) before x = (x.id ≡ id) × (form_fault x.body ≡ Some unfitted.Justice)
IsUnfitLine (fault.Fair id) before x = (x.id ≡ id) × (form_fault x.body ≡ Some unfitted.Fair)
IsUnfitLine (fault.TooManyItems id) before x = (x.id ≡ id) × ((form_fault x.body ≡ None) × HasNoRoom before)
IsUnfitLine fault.NoMemory before x = Unit {0}

-- no line has a form that is not fitted
abbrev pub HaveForms : List Item → Type 0
HaveForms items = AllByRecursion (λ (x : Item). form_fault x.body ≡ None) items

-- a list is not fitted: for a line of it, where those before it have forms that are
pub record IsUnfit (wide : List Item) (e : FitFault) : Type 0 where
  pub before : List Item
  pub line : Item
  pub after : List Item
  pub is : wide ≡ before ++ line ∷ after
  pub forms : HaveForms before
  pub says : IsUnfitLine e before line
