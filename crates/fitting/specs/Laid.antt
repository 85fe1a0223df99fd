-- Where the pieces of nodes stand in a model of the profile.
use Rattle.std.specs.Prelude.{◌≡◌, ℕ, true, List, map, Some, is_some, slice_get}
use Rattle.std.specs.List.{AllByRecursion, AllZip}
use Rattle.btor2.specs.declared.item.Item.{Item}
use Rattle.btor2.specs.Items.{node_width}
use Rattle.btor2.specs.Lists.{width_at}
use Rattle.btor2.specs.Trace.{bits_of}
use Rattle.fit.specs.Fitting.{Layout, pieces_width}
use Rattle.pieces.specs.declared.node.Node.{Node}
use Rattle.pieces.specs.Cuts.{IsCut}

-- some ids are those of nodes with a value
abbrev pub AreWords : List Item → List ℕ → Type 0
AreWords wide nodes = AllByRecursion (λ n. is_some (node_width wide n) ≡ true) nodes

-- some nodes are there, with a value
abbrev pub AreThere : List Item → List Node → Type 0
AreThere narrow ps = AllByRecursion (λ (p : Node). is_some (node_width narrow p.id) ≡ true) ps

-- the node with an id stands at a place, and has a value
abbrev pub HasPlace : List Item → ℕ → ℕ → Type 0
HasPlace narrow q place = (x : Item) × (slice_get narrow place ≡ Some x) × (x.id ≡ q) × (is_some (width_at narrow place) ≡ true)

-- The pieces of a node stand at some places, the lowest first. They have 64 bits each, but for the last, which has those that are left, and together as many as the node.
pub record IsLaid (wide narrow : List Item) (layout : Layout) (n : ℕ) (places : List ℕ) : Type 0 where
  pub at : AllZip (HasPlace narrow) (layout n) places
  pub cut : IsCut 64 (map (bits_of narrow) (layout n))
  pub bits : pieces_width (bits_of narrow) (layout n) ≡ bits_of wide n
