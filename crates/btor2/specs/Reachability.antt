-- Whether a bad property of a model can rise ("Btor2, BtorMC and Boolector 3.0", sequential models).
use Rattle.std.specs.Prelude.{◌≡◌, ℕ, Bool, true, ◌==◌, List, map, flat_map}
use Rattle.std.specs.List.{AllByRecursion}
use Rattle.base.specs.Shown.{Shown, rises_within}
use Rattle.btor2.specs.declared.item.Item.{Item}
use Rattle.btor2.specs.declared.item.Body.{Body}
use Rattle.btor2.specs.Items.{is_bad, is_constraint, operands}
use Rattle.btor2.specs.Lists.{of_kind}
use Rattle.btor2.specs.Trace.{Frame, IsInitial, IsTrace, IsInput}

-- the nodes of the bad properties, or of the constraints, in file order
abbrev pub nodes_of : (Body → Bool) → List Item → List ℕ
nodes_of kind items = flat_map (λ x. operands x.body) (of_kind kind items)

-- of the properties of a kind, which are 1 in a frame
abbrev pub values_of : (Body → Bool) → List Item → Frame → List Bool
values_of kind items f = map (λ a. f a == 1) (nodes_of kind items)

-- what a frame of a model shows
abbrev pub model_shows : List Item → Frame → Shown
model_shows items f = record { bads = values_of is_bad items f; constraints = values_of is_constraint items f }

-- a bad property of a model can rise: it does so in a trace from initial words that agree with the init lines
pub record CanRise (items : List Item) (b : ℕ) : Type 0 where
  pub state : Frame
  pub inputs : List Frame
  pub frames : List Frame
  pub initial : IsInitial items state
  pub given : AllByRecursion (IsInput items) inputs
  pub trace : IsTrace items state inputs frames
  pub rises : rises_within b (map (model_shows items) frames) ≡ true
