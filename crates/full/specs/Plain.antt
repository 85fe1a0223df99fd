-- Items of `btor2` as lines of a model: words alone, without a minus.
use Rattle.std.specs.Prelude.{List, [], map, None}
use Rattle.btor2.specs.declared.item.Item.{Item}
use Rattle.full.specs.Lines.{form, FullLine}
use Rattle.full.specs.WrittenOut.{Places}

-- an item as a line
abbrev pub plain_line : Item → FullLine
plain_line x = record { id = x.id; symbol = x.symbol; says = form x.body [] }

abbrev pub plain_lines : List Item → List FullLine
plain_lines items = map plain_line items

-- each node and each leaf of a list stands where it is
abbrev pub same_places : Places
same_places = record { node = λ id. id; leaf = λ id. id; source = λ id. id; first = None }
