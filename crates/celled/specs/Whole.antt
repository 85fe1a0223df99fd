-- Which nodes of the list with cells have the whole words of nodes.
use Rattle.std.specs.Prelude.{◌≡◌, ℕ, true, List, Some, is_some, map, slice_get}
use Rattle.std.specs.List.{AllZip}
use Rattle.btor2.specs.declared.item.Item.{Item}
use Rattle.btor2.specs.Items.{is_state, node_width}
use Rattle.btor2.specs.Trace.{bits_of}
use Rattle.full.specs.Lines.{FullLine, full_ids}
use Rattle.full.specs.WrittenOut.{Places, InFrames}
use Rattle.fit.specs.Fitting.{Layout, pieces_word}
use Rattle.celled.specs.Spots.{Spots}

-- A node has as many bits as one of the list without cells, and in each frame from words that fit the word that the cells of that one make.
pub record IsWhole (wide : List Item) (layout : Layout) (celled : List Item) (id n : ℕ) : Type 0 where
  pub width : node_width celled n ≡ Some (bits_of wide id)
  pub word : InFrames celled (λ g. g n ≡ pieces_word (bits_of celled) g (layout id))

-- of each node with a value, the one where it stands has the whole word
abbrev pub HasWholes : List Item → Layout → List Item → Spots → Type 0
HasWholes wide layout celled t = (id : ℕ) → is_some (node_width wide id) ≡ true → IsWhole wide layout celled id (t.node id)

-- Of the states of a model, in file order, these nodes have the whole words of their leaves, and those of the states. Where a state's leaf is its node, the two are one.
pub record HasStateNodes (full : List FullLine) (p : Places) (wide : List Item) (layout : Layout) (celled : List Item) (leaf_nodes state_nodes : List ℕ) : Type 0 where
  pub leaves : AllZip (IsWhole wide layout celled) (map p.leaf (full_ids is_state full)) leaf_nodes
  pub nodes : AllZip (IsWhole wide layout celled) (map p.node (full_ids is_state full)) state_nodes
  pub together : (i : ℕ) → slice_get (map p.leaf (full_ids is_state full)) i ≡ slice_get (map p.node (full_ids is_state full)) i → slice_get leaf_nodes i ≡ slice_get state_nodes i
