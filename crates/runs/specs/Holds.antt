-- What a run keeps of its model.
use Rattle.std.specs.Prelude.{◌≡◌, ℕ, ◌<◌, ◌^◌, Bool, true, List, length, map, Option, Some, option_map, slice_index}
use Rattle.btor2.specs.declared.item.Item.{Item}
use Rattle.btor2.specs.Items.{find_item, is_input, is_state, is_bad, is_constraint, next_value}
use Rattle.btor2.specs.Check.{IsWellFormed}
use Rattle.btor2.specs.Trace.{Frame, IsFrame, bits_of}
use Rattle.runs.specs.declared.nodes.Node.{Node}
use Rattle.runs.specs.declared.resolving.Slots.{Slots}
use Rattle.runs.specs.declared.word_run.WordRun.TheInside.{Inside}
use Rattle.btor2.specs.Lists.{of_kind}
use Rattle.runs.specs.Frames.{has_value, is_leaf, is_constant, ids_of, given_at, given_leaves}
use Rattle.runs.specs.Run.{Run, property_id}
use Rattle.runs.specs.Nodes.{slot, run_nodes, standing_word, words_at}

-- what contracts see of a run
abbrev pub run_of : Inside → Run
run_of r =
    record {
      items = r.model.now;
      states = words_at r.values r.states;
      inputs = words_at r.values r.inputs;
      settled = r.settled;
      steps = r.tally;
    }

-- the slot of the value of a state's next line, where it has one
abbrev pub next_slot : List Item → ℕ → Option ℕ
next_slot items id = option_map (slot items) (next_value items id)

-- the slots that a run of a model goes by
pub record AreSlotsOf (items : List Item) (s : Slots) : Type 0 where
  pub are_states : s.states.items ≡ map (slot items) (ids_of is_state items)
  pub are_inputs : s.inputs.items ≡ map (slot items) (ids_of is_input items)
  pub are_nexts : s.nexts.items ≡ map (next_slot items) (ids_of is_state items)
  pub are_bads : s.bads.items ≡ map (λ x. slot items (property_id x.body)) (of_kind is_bad items)
  pub are_constraints : s.constraints.items ≡ map (λ x. slot items (property_id x.body)) (of_kind is_constraint items)

-- each now-value of a leaf fits its width
abbrev pub LeavesFit : List Item → List ℕ → Type 0
LeavesFit items values =
    (id : ℕ) (y : Item) → find_item items id ≡ Some y → is_leaf y.body ≡ true → slice_index values (slot items id) < 2 ^ bits_of items id

-- each now-value of a constant is its word
abbrev pub ConstantsStand : List Item → List ℕ → Type 0
ConstantsStand items values =
    (id : ℕ) (y : Item) → find_item items id ≡ Some y → is_constant y.body ≡ true → slice_index values (slot items id) ≡ standing_word items y.body

-- the now-values are the words of a frame
abbrev pub HoldsFrame : List Item → List ℕ → Frame → Type 0
HoldsFrame items values f = (id : ℕ) (y : Item) → find_item items id ≡ Some y → has_value y.body ≡ true → slice_index values (slot items id) ≡ f id

-- What the lists of a run have of a model: the operators and their operands' slots, the slots of the states, of the inputs and of the
-- states' next nodes and of those that the properties name; given words that fit, and those of the constants; and the words of the frame where it
-- is settled.
pub record Keeps (items : List Item) (nodes : List Node) (slots states inputs : List ℕ) (nexts : List (Option ℕ)) (bads constraints values next_values : List ℕ) (settled : Bool) : Type 0 where
  pub well_formed : IsWellFormed items
  pub are_nodes : nodes ≡ run_nodes items items
  pub are_slots : slots ≡ map (λ x. slot items x.id) items
  pub are_states : states ≡ map (slot items) (ids_of is_state items)
  pub are_inputs : inputs ≡ map (slot items) (ids_of is_input items)
  pub are_nexts : nexts ≡ map (next_slot items) (ids_of is_state items)
  pub are_bads : bads ≡ map (λ x. slot items (property_id x.body)) (of_kind is_bad items)
  pub are_constraints : constraints ≡ map (λ x. slot items (property_id x.body)) (of_kind is_constraint items)
  pub many_nodes : length values ≡ length (of_kind has_value items)
  pub many_states : length next_values ≡ length (of_kind is_state items)
  pub leaves : LeavesFit items values
  pub constants : ConstantsStand items values
  pub frame : settled ≡ true → (f : Frame) → IsFrame items (given_at is_state items (words_at values states)) (given_leaves items (words_at values states) (words_at values inputs)) f
      → HoldsFrame items values f

abbrev pub IsRun : Inside → Type 0
IsRun r =
    Keeps r.model.now r.nodes r.slots r.states r.inputs r.nexts r.bads r.constraints r.values r.next_values r.settled
