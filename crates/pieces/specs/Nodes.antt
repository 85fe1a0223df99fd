-- Words that nodes of a model make, the lowest first.
use Rattle.std.specs.Prelude.{◌≡◌, ℕ, ◌+◌, ◌≤◌, List, [], ◌∷◌, ◌++◌, Some}
use Rattle.std.specs.List.{AllByRecursion}
use Rattle.base.specs.Operator.{concat_value}
use Rattle.btor2.specs.declared.item.Item.{Item}
use Rattle.btor2.specs.Items.{node_width}
use Rattle.btor2.specs.Trace.{Frame}
use Rattle.fit.specs.Gives.{InFrames}
use Rattle.pieces.specs.Lines.{ArePlain}
use Rattle.pieces.specs.declared.node.Node.{Node}

-- the word that nodes make in a frame, and how many bits they have together
abbrev pub word_of : Frame → List Node → ℕ
word_of g [] = 0
word_of g (p ∷ ps) = concat_value (word_of g ps) p.width (g p.id)

abbrev pub bits_in : List Node → ℕ
bits_in [] = 0
bits_in (p ∷ ps) = bits_in ps + p.width

-- a node of a list, with its width
abbrev pub IsNode : List Item → Node → Type 0
IsNode items p = node_width items p.id ≡ Some p.width

abbrev pub AreNodes : List Item → List Node → Type 0
AreNodes items ps = AllByRecursion (IsNode items) ps

-- each has 1 to 64 bits
abbrev pub HaveBits : List Node → Type 0
HaveBits ps = AllByRecursion (λ (p : Node). (1 ≤ p.width) × (p.width ≤ 64)) ps

-- a list goes on where another ends, by sorts, constants and operators
pub record Extends (old new : List Item) : Type 0 where
  pub more : List Item
  pub is : new ≡ old ++ more
  pub plain : ArePlain more

-- a node of a list has so many bits, and in each frame of each model that goes on from there the word that is a value of the frame
pub record Makes (items : List Item) (width : ℕ) (value : Frame → ℕ) (r : Node) : Type 0 where
  pub node : IsNode items r
  pub wide : r.width ≡ width
  pub word : InFrames items (λ g. g r.id ≡ value g)

-- so have nodes together
pub record MakesWord (items : List Item) (bits : ℕ) (value : Frame → ℕ) (rs : List Node) : Type 0 where
  pub nodes : AreNodes items rs
  pub wide : bits_in rs ≡ bits
  pub word : InFrames items (λ g. word_of g rs ≡ value g)
