-- How a model that grows is kept, and what is wanting where a line is not added.
use Rattle.std.specs.Prelude.{◌≡◌, ℕ, ◌+◌, ◌≤◌, List, length, Some, None, get_or}
use Rattle.btor2.specs.declared.item.Item.{Item}
use Rattle.btor2.specs.declared.item.Body.{Body}
use Rattle.btor2.specs.Items.{find_item, sort_width}
use Rattle.btor2.specs.Check.{first_row, said_rows, most_items, greatest_id}
use Rattle.pieces.specs.declared.shortage.Shortage.{Shortage}
use Rattle.pieces.specs.declared.shortage.Shortage.TheVariants as shortage

-- the next id and those above it are free, there are enough of them, and by its width a sort's id is kept
pub record IsKept (items : List Item) (next : ℕ) (sorts : List ℕ) : Type 0 where
  pub least : 1 ≤ next
  pub enough : next + most_items ≤ greatest_id + 1 + length items
  pub free : (id : ℕ) → next ≤ id → find_item items id ≡ None
  pub of_width : (width : ℕ) → 1 ≤ get_or sorts width 0 → sort_width items (get_or sorts width 0) ≡ Some width

-- a line that no row refuses for what it says
unfoldable pub IsSound : List Item → Body → Type 0
IsSound items b = first_row (said_rows items b) ≡ None

-- memory is wanting, or the model has as many items as it may have
abbrev pub IsShort : List Item → Shortage → Type 0
IsShort items shortage.NoMemory = Unit {0}
IsShort items shortage.TooManyItems = most_items ≤ length items
