-- What a list of items says of ids ("Btor2, BtorMC and Boolector 3.0", syntax: a line names sorts and nodes by the ids of earlier lines).
use Rattle.std.specs.Prelude.{ℕ, Bool, true, false, not, ◌&&◌, List, [], ◌∷◌, Option, Some, None, ◌==◌, if◌then◌else◌, option_and_then, is_some, is_none}
use Rattle.std.specs.List.{position_from}
use Rattle.std.specs.Option.{option_or}
use Rattle.base.specs.Signed.{wrapped}
use Rattle.base.specs.Operator.{ones}
use Rattle.btor2.specs.declared.item.Item.{Item}
use Rattle.btor2.specs.declared.item.Body.{Body}
use Rattle.btor2.specs.declared.item.Body.TheVariants as body

-- the sort of a node with a value: of a leaf, a constant or an operator
abbrev pub node_sort : Body → Option ℕ
node_sort (body.Input s) = Some s
node_sort (body.State s) = Some s
node_sort (body.Zero s) = Some s
node_sort (body.One s) = Some s
node_sort (body.Ones s) = Some s
node_sort (body.Const s d v) = Some s
node_sort (body.Constd s v) = Some s
node_sort (body.Consth s d v) = Some s
node_sort (body.Uext s a by) = Some s
node_sort (body.Sext s a by) = Some s
node_sort (body.Slice s a u l) = Some s
node_sort (body.Unary op s a) = Some s
node_sort (body.Binary op s a b) = Some s
node_sort (body.Concat s a b) = Some s
node_sort (body.Ite s c t e) = Some s
node_sort _ = None

-- the sort that an item names
abbrev pub named_sort : Body → Option ℕ
named_sort (body.Init s t v) = Some s
named_sort (body.Next s t v) = Some s
named_sort b = node_sort b

-- the nodes that an item names, from left to right
abbrev pub operands : Body → List ℕ
operands (body.Uext s a by) = a ∷ []
operands (body.Sext s a by) = a ∷ []
operands (body.Slice s a u l) = a ∷ []
operands (body.Unary op s a) = a ∷ []
operands (body.Binary op s a b) = a ∷ b ∷ []
operands (body.Concat s a b) = a ∷ b ∷ []
operands (body.Ite s c t e) = c ∷ t ∷ e ∷ []
operands (body.Init s t v) = t ∷ v ∷ []
operands (body.Next s t v) = t ∷ v ∷ []
operands (body.Bad a) = a ∷ []
operands (body.Constraint a) = a ∷ []
operands (body.Fair a) = a ∷ []
operands (body.Output a) = a ∷ []
operands (body.Justice nodes) = nodes
operands _ = []

-- the width that a sort's line gives
abbrev pub sort_bits : Body → Option ℕ
sort_bits (body.Sort n) = Some n
sort_bits _ = None

abbrev pub is_input : Body → Bool
is_input (body.Input s) = true
is_input _ = false

abbrev pub is_state : Body → Bool
is_state (body.State s) = true
is_state _ = false

abbrev pub is_bad : Body → Bool
is_bad (body.Bad a) = true
is_bad _ = false

abbrev pub is_constraint : Body → Bool
is_constraint (body.Constraint a) = true
is_constraint _ = false

-- the word of a constant node of a width
abbrev pub constant_word : ℕ → Body → Option ℕ
constant_word w (body.Zero s) = Some 0
constant_word w (body.One s) = Some 1
constant_word w (body.Ones s) = Some (ones w)
constant_word w (body.Const s d v) = Some v
constant_word w (body.Constd s v) = Some (wrapped w v)
constant_word w (body.Consth s d v) = Some v
constant_word w _ = None

-- the value that a body gives a state where it is an init line of that state, and where it is a next line of it
abbrev pub init_for : ℕ → Body → Option ℕ
init_for id (body.Init s t v) = if id == t then Some v else None
init_for id _ = None

abbrev pub next_for : ℕ → Body → Option ℕ
next_for id (body.Next s t v) = if id == t then Some v else None
next_for id _ = None

-- the first item with an id
abbrev pub find_item : List Item → ℕ → Option Item
find_item [] id = None
find_item (x ∷ xs) id = if id == x.id then Some x else find_item xs id

-- the place of the first item with an id
abbrev pub position_of : List Item → ℕ → Option ℕ
position_of items id = position_from (λ x. id == x.id) 0 items

-- the width of a sort, and of a node with a value, by their ids
abbrev pub sort_width : List Item → ℕ → Option ℕ
sort_width items id = option_and_then (λ x. sort_bits x.body) (find_item items id)

abbrev pub width_of_body : List Item → Body → Option ℕ
width_of_body items b = option_and_then (sort_width items) (node_sort b)

abbrev pub node_width : List Item → ℕ → Option ℕ
node_width items id = option_and_then (λ x. width_of_body items x.body) (find_item items id)

-- the word of a constant node, by its id
abbrev pub constant_of_body : List Item → Body → Option ℕ
constant_of_body items b = option_and_then (λ w. constant_word w b) (width_of_body items b)

abbrev pub constant_of : List Item → ℕ → Option ℕ
constant_of items id = option_and_then (λ x. constant_of_body items x.body) (find_item items id)

-- whether an id is that of a state
abbrev pub names_state : List Item → ℕ → Bool
names_state items id = is_some (option_and_then (λ x. if is_state x.body then Some x else None) (find_item items id))

-- the value of a state's init line, and of its next line, where it has one
abbrev pub init_value : List Item → ℕ → Option ℕ
init_value [] id = None
init_value (x ∷ xs) id = option_or (init_for id x.body) (init_value xs id)

-- the word that a state begins with, where it has an init line: that of the constant that the line names
abbrev pub init_word : List Item → ℕ → Option ℕ
init_word items id = option_and_then (constant_of items) (init_value items id)

abbrev pub next_value : List Item → ℕ → Option ℕ
next_value [] id = None
next_value (x ∷ xs) id = option_or (next_for id x.body) (next_value xs id)

-- whether the state with an id is free: it has neither an init line nor a next line. What a state has in a frame when nothing says what it has at first
-- and what it takes next is any word (the standard leaves this open; it is this project's profile).
abbrev pub is_free : List Item → ℕ → Bool
is_free items id = is_none (init_value items id) && is_none (next_value items id)

-- the states of a model that are free, and those that are carried from frame to frame
abbrev pub is_free_state : List Item → Item → Bool
is_free_state items x = is_state x.body && is_free items x.id

abbrev pub is_carried_state : List Item → Item → Bool
is_carried_state items x = is_state x.body && not (is_free items x.id)
