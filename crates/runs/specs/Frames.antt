-- Frames of given words: the k-th state, and the k-th input, in file order has the k-th word of a list.
use Rattle.std.specs.Prelude.{ℕ, suc, Bool, true, false, List, [], ◌∷◌, map, ◌==◌, if◌then◌else◌, is_some, slice_index}
use Rattle.btor2.specs.declared.item.Item.{Item}
use Rattle.btor2.specs.declared.item.Body.{Body}
use Rattle.btor2.specs.declared.item.Body.TheVariants as body
use Rattle.btor2.specs.Items.{node_sort, is_input, is_state, names_state}
use Rattle.btor2.specs.Lists.{of_kind}
use Rattle.btor2.specs.Trace.{Frame}

-- whether a line has a value: a leaf, a constant or an operator
abbrev pub has_value : Body → Bool
has_value b = is_some (node_sort b)

-- the leaves, whose words are given
abbrev pub is_leaf : Body → Bool
is_leaf (body.Input s) = true
is_leaf (body.State s) = true
is_leaf _ = false

-- the constants
abbrev pub is_constant : Body → Bool
is_constant (body.Zero s) = true
is_constant (body.One s) = true
is_constant (body.Ones s) = true
is_constant (body.Const s d v) = true
is_constant (body.Constd s v) = true
is_constant (body.Consth s d v) = true
is_constant _ = false

-- the ids of the items whose bodies pass a test, in file order
abbrev pub ids_of : (Body → Bool) → List Item → List ℕ
ids_of test items = map (λ x. x.id) (of_kind test items)

-- how many items that pass a test stand before the one with an id
abbrev pub kind_rank : (Body → Bool) → List Item → ℕ → ℕ
kind_rank test [] id = 0
kind_rank test (x ∷ xs) id = if id == x.id then 0 else (if test x.body then suc (kind_rank test xs id) else kind_rank test xs id)

-- the frame of given words for the items of a kind: the k-th of them has the k-th word
abbrev pub given_at : (Body → Bool) → List Item → List ℕ → Frame
given_at test items words id = slice_index words (kind_rank test items id)

-- the frame of given words for the states and for the inputs
abbrev pub given_leaves : List Item → List ℕ → List ℕ → Frame
given_leaves items states inputs id = if names_state items id then given_at is_state items states id else given_at is_input items inputs id
