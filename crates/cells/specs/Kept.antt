-- How a list that grows is kept, and what is wanting where a line is not added.
use Rattle.std.specs.Prelude.{◌≡◌, ℕ, ◌≤◌, List, length, Some, None, IfSome, nat_eq}
use Rattle.std.specs.HashMap.{get}
use Rattle.btor2.specs.declared.item.Item.{Item}
use Rattle.btor2.specs.declared.item.Body.{Body}
use Rattle.btor2.specs.Items.{sort_width}
use Rattle.btor2.specs.Check.{first_row, most_items}
use Rattle.wide.specs.WideModels.{greatest_width, wide_said_rows}
use Rattle.cells.specs.declared.maker.ListMaker.TheInside.{Inside}
use Rattle.cells.specs.declared.shortage.Shortage.{Shortage}
use Rattle.cells.specs.declared.shortage.Shortage.TheVariants as shortage
use Rattle.cells.specs.Lines.{IsNumbered}

-- its ids are its places, and by its width a sort's id is kept
pub record IsKept (m : Inside) : Type 0 where
  pub numbered : IsNumbered m.model
  pub sorts : (width : ℕ) → IfSome (get nat_eq m.sorts width) (λ id. sort_width m.model id ≡ Some width)

-- a line that no row refuses for what it says
unfoldable pub IsSound : List Item → Body → Type 0
IsSound items b = first_row (wide_said_rows greatest_width items b) ≡ None

-- memory is wanting, or the list has as many items as it may have
abbrev pub IsShort : List Item → Shortage → Type 0
IsShort items shortage.NoMemory = Unit {0}
IsShort items shortage.TooManyItems = most_items ≤ length items
