-- Worked rows: a model that toggles one bit, one that counts, two with states that lack a line, one that has a node of each shape, and the first lines of another.
use Rattle.std.specs.Prelude.{ℕ, suc, List, [], ◌∷◌, None, negsuc}
use Rattle.base.specs.declared.operators.Unary.TheVariants as unary
use Rattle.base.specs.declared.operators.Binary.TheVariants as binary
use Rattle.btor2.specs.declared.item.Item.{Item}
use Rattle.btor2.specs.declared.item.Body.{Body}
use Rattle.btor2.specs.declared.item.Body.TheVariants as body

-- an item with no name
abbrev pub line : ℕ → Body → Item
line id says = record { id = id; symbol = None; body = says }

-- items with no names and the ids from a number on
abbrev pub items_numbered : ℕ → List Body → List Item
items_numbered id [] = []
items_numbered id (b ∷ bs) = line id b ∷ items_numbered (suc id) bs

-- a bit that is 0 at first and negated in each frame, and bad where it is 1
abbrev pub toggler_model : List Item
toggler_model = items_numbered 1 (body.Sort 1 ∷ body.Zero 1 ∷ body.State 1 ∷ body.Init 1 3 2 ∷ body.Unary unary.Not 1 3 ∷ body.Next 1 3 5 ∷ body.Bad 3 ∷ [])

-- a counter of two bits from 0, bad where it is 3
abbrev pub counter : List Item
counter =
    items_numbered 1
    (body.Sort 1 ∷ body.Sort 2 ∷ body.Zero 2 ∷ body.State 2 ∷ body.Init 2 4 3 ∷ body.Unary unary.Inc 2 4 ∷ body.Next 2 4 6
    ∷ body.Const 2 2 3 ∷ body.Binary binary.Eq 1 4 8 ∷ body.Bad 9 ∷ [])

-- three states: one with neither an init line nor a next line, one with a next line alone and one with an init line alone
abbrev pub open_ends : List Item
open_ends = items_numbered 1 (body.Sort 1 ∷ body.Zero 1 ∷ body.State 1 ∷ body.State 1 ∷ body.State 1 ∷ body.Next 1 4 3 ∷ body.Init 1 5 2 ∷ [])

-- a free state, one that follows it a frame later, and an input that nothing names
abbrev pub follower : List Item
follower = items_numbered 1 (body.Sort 1 ∷ body.State 1 ∷ body.State 1 ∷ body.Input 1 ∷ body.Next 1 3 2 ∷ body.Bad 3 ∷ [])

-- an input of four bits, constants, and what widens, cuts, joins and chooses
abbrev pub shapes : List Item
shapes =
    items_numbered 1
    (body.Sort 4 ∷ body.Input 1 ∷ body.Sort 8 ∷ body.Sort 1 ∷ body.Sext 3 2 4 ∷ body.Uext 3 2 4 ∷ body.Slice 4 2 3 3 ∷ body.Concat 3 2 2 ∷ body.Ite 3 7 5 6
    ∷ body.Constd 1 (negsuc 7) ∷ body.Consth 1 2 15 ∷ body.Ones 1 ∷ body.One 1 ∷ body.Output 9 ∷ body.Justice (7 ∷ 7 ∷ []) ∷ [])

-- a sort of four bits and an input of it
abbrev pub nibble : List Item
nibble = items_numbered 1 (body.Sort 4 ∷ body.Input 1 ∷ [])
