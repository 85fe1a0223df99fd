-- The bits of an index, each as a node and as the node of its negation.
use Rattle.std.specs.Prelude.{ℕ, ◌-◌, List, [], ◌∷◌, slice_get, IfSome}
use Rattle.base.specs.Operator.{slice_value}
use Rattle.btor2.specs.declared.item.Item.{Item}
use Rattle.full.specs.Gives.{GivesWord}
use Rattle.cells.specs.declared.maker.bits.Bit.{Bit}

-- nodes of the bit of a node at a place, and of the negated bit
pub record GivesBit (items : List Item) (index place : ℕ) (b : Bit) : Type 0 where
  pub one : GivesWord items 1 (λ g. slice_value (g index) place place) b.one
  pub zero : GivesWord items 1 (λ g. 1 - slice_value (g index) place place) b.zero

-- of each place from the lowest on
abbrev pub GiveBits : List Item → ℕ → List Bit → Type 0
GiveBits items index bits = (place : ℕ) → IfSome (slice_get bits place) (GivesBit items index place)

-- the ids of such nodes
abbrev pub ids_of_bits : List Bit → List ℕ
ids_of_bits [] = []
ids_of_bits (b ∷ bits) = b.one ∷ b.zero ∷ ids_of_bits bits
