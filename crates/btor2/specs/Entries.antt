-- What the items of a model are to the lines that name them, as it is kept beside them.
use Rattle.std.specs.Prelude.{ℕ, List, Option, Some, None}
use Rattle.btor2.specs.declared.item.Item.{Item}
use Rattle.btor2.specs.declared.item.Body.{Body}
use Rattle.btor2.specs.declared.model.entries.Entry.{Entry}
use Rattle.btor2.specs.declared.model.entries.Entry.TheVariants as entry
use Rattle.btor2.specs.Items.{sort_bits, width_of_body}

abbrev pub entry_sort : Entry → Option ℕ
entry_sort (entry.Sort n) = Some n
entry_sort _ = None

abbrev pub entry_node : Entry → Option ℕ
entry_node (entry.Node n) = Some n
entry_node _ = None

-- of a sort its width, or else of a node its width
abbrev pub entry_by : Option ℕ → Option ℕ → Entry
entry_by (Some n) o = entry.Sort n
entry_by None (Some n) = entry.Node n
entry_by None None = entry.Other

-- what an item with such a body is to those that name it, in a list of items
abbrev pub entry_of : List Item → Body → Entry
entry_of items b = entry_by (sort_bits b) (width_of_body items b)
