-- Worked rows: a memory of two cells of two bits, in a state of four, and the list in which each has a leaf.
use Rattle.std.specs.Prelude.{ℕ, List, [], ◌∷◌, Option, Some, None, codes}
use Rattle.btor2.specs.declared.item.Item.{Item}
use Rattle.btor2.specs.declared.item.Body.{Body}
use Rattle.btor2.specs.declared.item.Body.TheVariants as body

-- a line with a name or none
abbrev pub line : ℕ → Option (List ℕ) → Body → Item
line id symbol b = record { id = id; symbol = symbol; body = b }

-- its name, and those of its cells
abbrev pub name : List ℕ
name = codes "mem"

abbrev pub low_name : List ℕ
low_name = codes "mem[0]"

abbrev pub high_name : List ℕ
high_name = codes "mem[1]"

-- the memory
abbrev pub memory : List Item
memory = line 1 None (body.Sort 4) ∷ line 2 (Some name) (body.State 1) ∷ []

-- its cells, with names
abbrev pub memory_named : List ℕ → List ℕ → List Item
memory_named low high = line 1 None (body.Sort 2) ∷ line 2 (Some low) (body.State 1) ∷ line 3 (Some high) (body.State 1) ∷ []

abbrev pub memory_celled : List Item
memory_celled = memory_named low_name high_name
