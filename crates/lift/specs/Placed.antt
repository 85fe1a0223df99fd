-- The lines of leaves by their places in the model, and the pieces that are put for lines.
use Rattle.std.specs.Prelude.{ℕ, suc, nat_lt, Bool, List, [], ◌∷◌, ◌++◌, Option, option_and_then, if◌then◌else◌, take, drop, slice_get}
use Rattle.btor2.specs.declared.item.Item.{Item}
use Rattle.btor2.specs.Lists.{places}
use Rattle.btor2.specs.declared.leaves.Leaves.{Leaves}
use Rattle.btor2.specs.Leaves.{list_of, is_leaf_at, leaf_width}
use Rattle.base.specs.Lines.{text_of_lines}
use Rattle.witness.specs.Texts.{most_lines}
use Rattle.lift.specs.Lifted.{word_line, piece}

-- the line of a leaf that takes bits
abbrev pub taken_line : Bool → ℕ → List Bool → Option (List ℕ) → List ℕ
taken_line takes index bits name = if takes then word_line index bits name ++ 10 ∷ [] else []

-- the lines of the leaves at some places, of which the first has this index
abbrev pub placed_lines : Leaves → List Item → (Item → Option (List ℕ)) → ℕ → List ℕ → List Bool → List ℕ
placed_lines l items name index [] bits = []
placed_lines l items name index (p ∷ ps) bits =
    taken_line (is_leaf_at items l p) index (take (leaf_width items l p) bits) (option_and_then name (slice_get items p)) ++ placed_lines l items name (suc index) ps (drop (leaf_width items l p) bits)

-- the lines of all leaves of a kind
abbrev pub leaf_lines : Leaves → List Item → (Item → Option (List ℕ)) → List Bool → List ℕ
leaf_lines l items name bits = placed_lines l items name 0 (places (list_of l) 0 items) bits

-- a model, and whether words are lifted with names
pub record Pieces : Type 0 where
  pub items : List Item
  pub named : Bool

-- the text of the piece of a line behind so many others, where so many may be admitted
abbrev pub put_piece_for : Pieces → ℕ → List ℕ → List ℕ
put_piece_for p number line = if nat_lt number most_lines then text_of_lines (piece p.named p.items number line) else []
