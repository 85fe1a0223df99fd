-- How words are cut into nodes.
use Rattle.std.specs.Prelude.{◌≡◌, ℕ, ◌+◌, ◌^◌, ◌<◌, ◌≤◌, List, [], ◌∷◌, ◌++◌, map}
use Rattle.btor2.specs.declared.item.Item.{Item}
use Rattle.pieces.specs.declared.node.Node.{Node}
use Rattle.pieces.specs.Nodes.{bits_in, AreNodes}

abbrev pub widths : List Node → List ℕ
widths ps = map (λ (p : Node). p.width) ps

-- so many bits each, but for the last, which may have fewer
abbrev pub IsCut : ℕ → List ℕ → Type 0
IsCut size [] = Unit {0}
IsCut size (w ∷ []) = (1 ≤ w) × (w ≤ size)
IsCut size (w ∷ v ∷ more) = (w ≡ size) × IsCut size (v ∷ more)

-- the nodes of a word: of 64 bits each, but for the highest
pub record IsWord (items : List Item) (ps : List Node) : Type 0 where
  pub nodes : AreNodes items ps
  pub cut : IsCut 64 (widths ps)
  pub some : 1 ≤ bits_in ps
  pub few : bits_in ps < 2 ^ 63

-- a list is what is left of another behind nodes with so many bits together, less some bits of its own
pub record IsBehind (all : List Node) (low : ℕ) (rest : List Node) (inside : ℕ) : Type 0 where
  pub front : List Node
  pub splits : all ≡ front ++ rest
  pub passed : bits_in front + inside ≡ low

-- a bit is one of the first node
abbrev pub IsInFirst : List Node → ℕ → Type 0
IsInFirst [] inside = Unit {0}
IsInFirst (p ∷ ps) inside = inside < p.width
