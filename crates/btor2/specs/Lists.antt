-- The lists of a model: its inputs, states, bad properties and constraints in file order.
use Rattle.std.specs.Prelude.{◌≡◌, ℕ, suc, true, Bool, false, ◌&&◌, List, [], ◌∷◌, ◌++◌, Option, Some, None, if◌then◌else◌, is_none, is_some, option_and_then, option_map, unwrap_or, slice_get, filter}
use Rattle.btor2.specs.declared.item.Item.{Item}
use Rattle.btor2.specs.declared.item.Body.{Body}
use Rattle.btor2.specs.Items.{position_of, is_state, init_value, next_value, is_free, width_of_body, constant_of_body}

-- the places of the items whose bodies pass a test, the first item at a given place
abbrev pub places : (Body → Bool) → ℕ → List Item → List ℕ
places test at [] = []
places test at (x ∷ xs) = if test x.body then at ∷ places test (suc at) xs else places test (suc at) xs

-- the items whose bodies pass a test, in file order
abbrev pub of_kind : (Body → Bool) → List Item → List Item
of_kind test items = filter (λ x. test x.body) items

-- a list of places, with one more where a test is passed
abbrev pub with_place : Bool → ℕ → List ℕ → List ℕ
with_place passed place list = if passed then list ++ place ∷ [] else list

-- the id of the item at a place
abbrev pub id_at : List Item → ℕ → Option ℕ
id_at items place = option_and_then (λ (x : Item). Some x.id) (slice_get items place)

-- the place of the value that the init line gives the state at a place, and of the one that its next line gives it
abbrev pub init_place : List Item → ℕ → Option ℕ
init_place items place = option_and_then (position_of items) (option_and_then (init_value items) (id_at items place))

abbrev pub next_place : List Item → ℕ → Option ℕ
next_place items place = option_and_then (position_of items) (option_and_then (next_value items) (id_at items place))

-- whether the state at a place is free
abbrev pub is_free_at : List Item → ℕ → Bool
is_free_at items place = unwrap_or (option_map (is_free items) (id_at items place)) false

-- the width of the node at a place, and its word where it is a constant
abbrev pub width_at : List Item → ℕ → Option ℕ
width_at items place = option_and_then (λ x. width_of_body items x.body) (slice_get items place)

abbrev pub constant_at : List Item → ℕ → Option ℕ
constant_at items place = option_and_then (λ x. constant_of_body items x.body) (slice_get items place)

-- whether the state with an id has an init line and no next line: nothing says what it takes next
abbrev pub has_init_without_next : List Item → ℕ → Bool
has_init_without_next items id = is_some (init_value items id) && is_none (next_value items id)

abbrev pub has_init_without_next_at : List Item → ℕ → Bool
has_init_without_next_at items place = unwrap_or (option_map (has_init_without_next items) (id_at items place)) false

-- the id of the first state among some items of a model, the second list, that has an init line and no next line in the model
abbrev pub first_init_without_next : List Item → List Item → Option ℕ
first_init_without_next items [] = None
first_init_without_next items (x ∷ xs) = if is_state x.body && has_init_without_next items x.id then Some x.id else first_init_without_next items xs

-- each state of a model has a next line
abbrev pub HaveNexts : List Item → Type 0
HaveNexts items = (place : ℕ) (x : Item) → slice_get items place ≡ Some x → is_state x.body ≡ true → is_some (next_value items x.id) ≡ true
