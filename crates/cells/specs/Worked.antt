-- A list of a sort of one bit and an input of it, for worked rows.
use Rattle.std.specs.Prelude.{List, [], ◌∷◌}
use Rattle.btor2.specs.declared.item.Item.{Item}
use Rattle.btor2.specs.declared.item.Body.TheVariants as body
use Rattle.btor2.specs.Worked.{items_numbered}

abbrev pub one_input : List Item
one_input = items_numbered 1 (body.Sort 1 ∷ body.Input 1 ∷ [])
