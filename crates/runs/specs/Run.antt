-- A run of a model ("Btor2, BtorMC and Boolector 3.0", semantics of sequential models): the words that its states and inputs have now, and what
-- is told of them. The counting of steps is this project's own.
use Rattle.std.specs.Prelude.{ℕ, Bool, true, false, List, length, map, Option, Some, None, option_and_then, unwrap_or, slice_get, if◌then◌else◌, ◌==◌}
pub use Rattle.base.specs.Steps.{more_steps}
use Rattle.btor2.specs.declared.item.Item.{Item}
use Rattle.btor2.specs.declared.item.Body.{Body}
use Rattle.btor2.specs.declared.item.Body.TheVariants as body
use Rattle.btor2.specs.Items.{is_input, is_state, init_word}
use Rattle.btor2.specs.Trace.{Frame, IsFrame}
use Rattle.btor2.specs.Lists.{of_kind}
use Rattle.runs.specs.Frames.{has_value, ids_of, given_at, given_leaves}

-- The words of the states and of the inputs are in file order. It is settled where no word was set since the last settling and
-- the run has not advanced since. The steps are all that it has taken.
pub record Run : Type 0 where
  pub items : List Item
  pub states : List ℕ
  pub inputs : List ℕ
  pub settled : Bool
  pub steps : ℕ

-- the words of its states by their ids, and the words of its states and of its inputs
abbrev pub state_words : Run → Frame
state_words r = given_at is_state r.items r.states

abbrev pub leaf_words : Run → Frame
leaf_words r = given_leaves r.items r.states r.inputs

-- The frame that the run is in: the words of its states are carried, and given where the states are free.
abbrev pub IsNow : Run → Frame → Type 0
IsNow r f = IsFrame r.items (state_words r) (leaf_words r) f

-- how many nodes of a model have a value, and how many states it has
abbrev pub node_count : List Item → ℕ
node_count items = length (of_kind has_value items)

abbrev pub state_count : List Item → ℕ
state_count items = length (of_kind is_state items)

-- the word that a state begins with: that of its init line, or 0, as where it is free
abbrev pub first_word : List Item → ℕ → ℕ
first_word items id = unwrap_or (init_word items id) 0

-- the words of inputs that were not set: 0 each
abbrev pub zeros : List Item → List ℕ
zeros items = map (λ id. 0) (ids_of is_input items)

-- the run that a model begins with
abbrev pub start : List Item → Run
start items =
    record {
      items = items;
      states = map (first_word items) (ids_of is_state items);
      inputs = zeros items;
      settled = false;
      steps = 0;
    }

-- whether a line is a bad property or a constraint, and the node that it names then
abbrev pub is_property : Body → Bool
is_property (body.Bad a) = true
is_property (body.Constraint a) = true
is_property _ = false

abbrev pub property_id : Body → ℕ
property_id (body.Bad a) = a
property_id (body.Constraint a) = a
property_id _ = 0

-- the node that the property at a place names, if one stands there
abbrev pub property_at : List Item → ℕ → Option ℕ
property_at items place = option_and_then (λ x. if is_property x.body then Some (property_id x.body) else None) (slice_get items place)

-- whether the node that a property names is 1
abbrev pub is_one : Frame → Body → Bool
is_one f b = f (property_id b) == 1
