-- The leaves of a model by what their words are in its frames: those of inputs and of free states are given anew in each, those of the other states are carried from one to the next.
use Rattle.std.specs.Prelude.{ℕ, Bool, false, List, if◌then◌else◌, option_map, unwrap_or, slice_get, sum_by}
use Rattle.btor2.specs.declared.item.Item.{Item}
use Rattle.btor2.specs.declared.item.Body.{Body}
use Rattle.btor2.specs.declared.leaves.Leaves.{Leaves}
use Rattle.btor2.specs.declared.leaves.Leaves.TheVariants as leaves
use Rattle.btor2.specs.Items.{is_input, is_state, is_free_state, is_carried_state}
use Rattle.btor2.specs.Lists.{width_at}
use Rattle.btor2.specs.Trace.{bits_of}

-- the list of a model among which they are, by its test of a body
abbrev pub list_of : Leaves → Body → Bool
list_of leaves.Inputs = is_input
list_of leaves.Free = is_state
list_of leaves.Carried = is_state

-- whether an item is one of them
abbrev pub kind_of : List Item → Leaves → Item → Bool
kind_of items leaves.Inputs = λ x. is_input x.body
kind_of items leaves.Free = is_free_state items
kind_of items leaves.Carried = is_carried_state items

-- whether the item at a place is one of them, and how many bits its word has then
abbrev pub is_leaf_at : List Item → Leaves → ℕ → Bool
is_leaf_at items l place = unwrap_or (option_map (kind_of items l) (slice_get items place)) false

abbrev pub leaf_width : List Item → Leaves → ℕ → ℕ
leaf_width items l place = if is_leaf_at items l place then unwrap_or (width_at items place) 0 else 0

-- how many bits the items of a kind have together, among some items of a model, the last list
abbrev pub kind_width : List Item → (Item → Bool) → List Item → ℕ
kind_width items kind some = sum_by (λ x. if kind x then bits_of items x.id else 0) some
