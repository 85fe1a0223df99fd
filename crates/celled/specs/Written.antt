-- Models of the whole language, written out as lists in which each cell of an array has a leaf.
use Rattle.std.specs.Prelude.{◌≡◌, ℕ, Bool, List, ◌++◌, Option, Some, None, map}
use Rattle.btor2.specs.declared.item.Item.{Item}
use Rattle.btor2.specs.declared.item.Body.{Body}
use Rattle.btor2.specs.Items.{is_input, is_state}
use Rattle.full.specs.Lines.{FullLine, Sort, words, arrays, lines_of, full_ids, sort_of}
use Rattle.full.specs.WrittenOut.{Places, one_id, IsWrittenOut}
use Rattle.celled.specs.declared.written.Leaves.{Leaves}
use Rattle.celled.specs.declared.written.Leaves.TheVariants as leaves
use Rattle.celled.specs.Celled.{IsCelledOf}
use Rattle.celled.specs.Whole.{HasStateNodes}

-- how many bits a cell of a value of a sort has, of a word as many as the word
abbrev pub cell_bits : Option Sort → ℕ
cell_bits (Some (words n)) = n
cell_bits (Some (arrays k n)) = n
cell_bits None = 0

-- of each leaf of a kind among some lines, in file order, and of all
abbrev pub cells_among : (Body → Bool) → List FullLine → List FullLine → List ℕ
cells_among kind full xs = map (λ (x : FullLine). cell_bits (sort_of full x.says)) (lines_of kind xs)

abbrev pub leaf_cells : (Body → Bool) → List FullLine → List ℕ
leaf_cells kind full = cells_among kind full full

-- the leaves of a kind
abbrev pub kind_of : Leaves → Body → Bool
kind_of leaves.Inputs b = is_input b
kind_of leaves.States b = is_state b

-- A model is written out as a list, and this with a leaf for each cell of an array.
pub record IsWrittenInCells (full : List FullLine) (celled : List Item) : Type 0 where
  pub places : Places
  pub wide : List Item
  pub written : IsWrittenOut full places wide
  pub cells : IsCelledOf wide (leaf_cells is_input full) (leaf_cells is_state full ++ map (λ w. 1) (one_id places.first)) celled

-- these nodes of the list with cells have the words of the states' leaves, and those of the states
abbrev pub HasNodes : (full : List FullLine) (celled : List Item) → IsWrittenInCells full celled → List ℕ → List ℕ → Type 0
HasNodes full celled w leaves nodes = HasStateNodes full w.places w.wide w.cells.layout celled leaves nodes

-- A model is written out as a list, in which its states have such nodes and such states of the list, in file order.
abbrev pub IsWrittenWith : List FullLine → List Item → List ℕ → List ℕ → Type 0
IsWrittenWith full wide nodes leaves =
    (p : Places) × IsWrittenOut full p wide × ((nodes ≡ map p.node (full_ids is_state full)) × (leaves ≡ map p.leaf (full_ids is_state full)))
