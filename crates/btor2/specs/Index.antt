-- What a model keeps of its items and beside them, so that no call walks them.
use Rattle.std.specs.Prelude.{◌≡◌, ℕ, ◌-◌, ◌≤◌, ◌==◌, nat_eq, Bool, true, false, List, length, map, Option, None, slice_get, if◌then◌else◌}
use Rattle.std.specs.Option.{option_map_or}
use Rattle.std.specs.HashMap.{get}
use Rattle.btor2.specs.declared.model.Model.TheInside.{Inside}
use Rattle.btor2.specs.declared.item.Item.{Item}
use Rattle.btor2.specs.Items.{position_of, init_value, next_value, is_input, is_state, is_bad, is_constraint}
use Rattle.btor2.specs.Check.{IsWellFormed}
use Rattle.btor2.specs.Parts.{HaveSoundParts}
use Rattle.btor2.specs.Lists.{places}
use Rattle.btor2.specs.Entries.{entry_of}

-- whether an id is in place: the item at the place id - 1 has it, as in a file whose lines are numbered 1, 2, 3 and so on
abbrev pub is_in_place : List Item → ℕ → Bool
is_in_place items id = option_map_or (λ (x : Item). id == x.id) (slice_get items (id - 1)) false

-- the place of an id that is not in place
abbrev pub position_elsewhere : List Item → ℕ → Option ℕ
position_elsewhere items id = if is_in_place items id then None else position_of items id

pub record IsIndexed (m : Inside) : Type 0 where
  pub well_formed : IsWellFormed m.items.items
  pub parts : HaveSoundParts m.items.items
  -- An item in place is the one with its id, since the ids of well-formed items are distinct; the map has the others alone.
  pub elsewhere : (id : ℕ) → get nat_eq m.elsewhere id ≡ position_elsewhere m.items.items id
  -- so are the first items, of which the model knows how many they are
  pub few : m.in_place ≤ length m.items.items
  pub front : (id : ℕ) → 1 ≤ id → id ≤ m.in_place → is_in_place m.items.items id ≡ true
  pub entries : m.entries.items ≡ map (λ (x : Item). entry_of m.items.items x.body) m.items.items
  pub inputs : m.inputs.items ≡ places is_input 0 m.items.items
  pub states : m.states.items ≡ places is_state 0 m.items.items
  pub bads : m.bads.items ≡ places is_bad 0 m.items.items
  pub constraints : m.constraints.items ≡ places is_constraint 0 m.items.items
  pub inits : (id : ℕ) → get nat_eq m.inits id ≡ init_value m.items.items id
  pub nexts : (id : ℕ) → get nat_eq m.nexts id ≡ next_value m.items.items id
