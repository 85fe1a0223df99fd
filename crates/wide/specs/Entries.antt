-- What the items of a list are to the lines that name them.
use Rattle.std.specs.Prelude.{ℕ, Bool, true, false, List, Option, Some, None, option_map}
use Rattle.btor2.specs.declared.item.Item.{Item}
use Rattle.btor2.specs.declared.item.Body.{Body}
use Rattle.btor2.specs.declared.item.Body.TheVariants as body
use Rattle.btor2.specs.Items.{find_item, sort_width, width_of_body}
use Rattle.wide.specs.declared.entries.Entry.{Entry}
use Rattle.wide.specs.declared.entries.Entry.TheVariants as entry

-- of a node of a kind, where it has a width
abbrev pub entry_by : (ℕ → Entry) → Option ℕ → Entry
entry_by kind (Some n) = kind n
entry_by kind None = entry.Line

-- what an item with such a body is to those that name it, in a list of items
abbrev pub entry_of : List Item → Body → Entry
entry_of items (body.Sort n) = entry.Sort n
entry_of items (body.State s) = entry_by (λ n. entry.State n) (sort_width items s)
entry_of items (body.Zero s) = entry_by (λ n. entry.Constant n) (sort_width items s)
entry_of items (body.One s) = entry_by (λ n. entry.Constant n) (sort_width items s)
entry_of items (body.Ones s) = entry_by (λ n. entry.Constant n) (sort_width items s)
entry_of items (body.Const s d v) = entry_by (λ n. entry.Constant n) (sort_width items s)
entry_of items (body.Constd s v) = entry_by (λ n. entry.Constant n) (sort_width items s)
entry_of items (body.Consth s d v) = entry_by (λ n. entry.Constant n) (sort_width items s)
entry_of items b = entry_by (λ n. entry.Node n) (width_of_body items b)

-- what the item with an id is, where there is one
abbrev pub entry_at : List Item → ℕ → Option Entry
entry_at items id = option_map (λ (x : Item). entry_of items x.body) (find_item items id)

-- the width of a sort, and of a node with a value
abbrev pub entry_sort : Option Entry → Option ℕ
entry_sort (Some (entry.Sort n)) = Some n
entry_sort _ = None

abbrev pub entry_node : Option Entry → Option ℕ
entry_node (Some (entry.State n)) = Some n
entry_node (Some (entry.Constant n)) = Some n
entry_node (Some (entry.Node n)) = Some n
entry_node _ = None

-- whether it is a state, or a constant node
abbrev pub is_state_entry : Option Entry → Bool
is_state_entry (Some (entry.State n)) = true
is_state_entry _ = false

abbrev pub is_constant_entry : Option Entry → Bool
is_constant_entry (Some (entry.Constant n)) = true
is_constant_entry _ = false

-- the sort of a constant that is spelled with digits
abbrev pub digits_sort : Body → Option ℕ
digits_sort (body.Const s d v) = Some s
digits_sort (body.Constd s v) = Some s
digits_sort (body.Consth s d v) = Some s
digits_sort _ = None
