-- Worked rows: a model that adds words of 128 bits, and the same by pieces of 64.
use Rattle.std.specs.Prelude.{ℕ, not, List, [], ◌∷◌, ◌==◌, filter, if◌then◌else◌}
use Rattle.base.specs.declared.operators.Binary.TheVariants as binary
use Rattle.btor2.specs.declared.item.Item.{Item}
use Rattle.btor2.specs.declared.item.Body.{Body}
use Rattle.btor2.specs.declared.item.Body.TheVariants as body
use Rattle.btor2.specs.Worked.{items_numbered}
use Rattle.fit.specs.Fitting.{Layout}

-- a state of 128 bits from 0 to which an input is added in each frame, with the sum as an output; bad where its top bit is 1, and constrained to that
abbrev pub wide_adder : List Item
wide_adder =
    items_numbered 1
    (body.Sort 128 ∷ body.Sort 1 ∷ body.Zero 1 ∷ body.State 1 ∷ body.Init 1 4 3 ∷ body.Input 1 ∷ body.Binary binary.Add 1 4 6 ∷ body.Next 1 4 7 ∷ body.Slice 2 4 127 127
    ∷ body.Bad 9 ∷ body.Constraint 9 ∷ body.Output 7 ∷ [])

-- The same by pieces of 64 bits: states 4 and 6, inputs 8 and 9, the sum 10 and 14, the top bit 15. The line of 14 makes of the sum of the high pieces, 13, and
-- of the carry, 12, the high piece of the sum.
abbrev pub adder_by : Body → List Item
adder_by top =
    items_numbered 1
    (body.Sort 64 ∷ body.Sort 1 ∷ body.Zero 1 ∷ body.State 1 ∷ body.Init 1 4 3 ∷ body.State 1 ∷ body.Init 1 6 3 ∷ body.Input 1 ∷ body.Input 1
    ∷ body.Binary binary.Add 1 4 8 ∷ body.Binary binary.Ult 2 10 4 ∷ body.Uext 1 11 63 ∷ body.Binary binary.Add 1 6 9 ∷ top ∷ body.Slice 2 6 63 63
    ∷ body.Next 1 4 10 ∷ body.Next 1 6 14 ∷ body.Bad 15 ∷ body.Constraint 15 ∷ body.Output 10 ∷ body.Output 14 ∷ [])

abbrev pub narrow_adder : List Item
narrow_adder = adder_by (body.Binary binary.Add 1 13 12)

-- the same without the carry
abbrev pub adder_without_carry : List Item
adder_without_carry = adder_by (body.Uext 1 13 0)

-- a list without the item that has an id
abbrev pub without : ℕ → List Item → List Item
without id items = filter (λ (x : Item). not (x.id == id)) items

abbrev pub adder_layout : List ℕ → Layout
adder_layout sum id =
    if id == 3 then 3 ∷ 3 ∷ [] else (if id == 4 then 4 ∷ 6 ∷ [] else (if id == 6 then 8 ∷ 9 ∷ [] else (if id == 7 then sum else (if id == 9 then 15 ∷ [] else []))))
