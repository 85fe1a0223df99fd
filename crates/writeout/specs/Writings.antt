-- Where a writing stands: the list so far, and where it has the nodes and the states of the model's lines.
use Rattle.std.specs.Prelude.{◌≡◌, ℕ, false, List, ◌++◌, Option, Some, None, slice_get, ◌==◌, if◌then◌else◌}
use Rattle.std.specs.List.{AllByRecursion}
use Rattle.btor2.specs.declared.item.Item.{Item}
use Rattle.wide.specs.WideModels.{greatest_width, IsWideModel}
use Rattle.cells.specs.Lines.{ArePlain}
use Rattle.full.specs.Lines.{FullLine}
use Rattle.full.specs.Runs.{at_place}
use Rattle.full.specs.WrittenOut.{Places, OnlyChooses}

-- The list; by the places of the model's lines the node of each and the state of each state, 0 where there is none; and the state that is 1 in the first frame alone, or 0.
pub record Writing : Type 0 where
  pub items : List Item
  pub nodes : List ℕ
  pub leaves : List ℕ
  pub first : ℕ

abbrev pub first_of : ℕ → Option ℕ
first_of first = if first == 0 then None else Some first

-- a number is given
abbrev pub IsGiven : ℕ → Type 0
IsGiven n = (n == 0) ≡ false

-- a list of its numbers by place has one at the place of a line
abbrev pub HasAt : List FullLine → (ℕ → ℕ) → List ℕ → Type 0
HasAt full place numbers = (k : ℕ) (x : FullLine) → slice_get full k ≡ Some x → IsGiven (at_place numbers k) → place x.id ≡ at_place numbers k

-- a list and its places that a writing may come to
pub record GoesOn (full : List FullLine) (w : Writing) (p : Places) (wide : List Item) : Type 0 where
  pub more : List Item
  pub is : wide ≡ w.items ++ more
  pub model : IsWideModel greatest_width wide
  pub nodes : HasAt full p.node w.nodes
  pub leaves : HasAt full p.leaf w.leaves
  pub first : p.first ≡ first_of w.first

-- something is so of each of them
abbrev pub Settled : List FullLine → Writing → (Places → List Item → Type 0) → Type 0
Settled full w Of = (p : Places) (wide : List Item) → GoesOn full w p wide → Of p wide

-- the writing with other lines, and with a node at a place
abbrev pub with_items : Writing → List Item → Writing
with_items w items = record w { items = items }

-- some lines make nothing of the state that is 1 in the first frame alone, but choices
abbrev pub OnlyChoose : List FullLine → Writing → List Item → Type 0
OnlyChoose full w items = IsGiven w.first → Settled full w (λ p wide. AllByRecursion (λ (y : Item). OnlyChooses full p wide w.first y.body) items)

-- a node is not that state
abbrev pub IsOther : ℕ → ℕ → Type 0
IsOther first a = IsGiven first → (a == first) ≡ false

-- a writing goes on by plain lines, which make nothing of that state but choices
pub record Grows (full : List FullLine) (w : Writing) (items : List Item) : Type 0 where
  pub more : List Item
  pub is : items ≡ w.items ++ more
  pub plain : ArePlain more
  pub only : OnlyChoose full (with_items w items) more
