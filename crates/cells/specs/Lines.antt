-- Lines that a list gets, and how it goes on by them.
use Rattle.std.specs.Prelude.{◌≡◌, ℕ, suc, ◌<◌, ◌≤◌, Bool, true, not, ◌&&◌, ◌||◌, List, [], ◌∷◌, ◌++◌, length, Option, is_some, ◌⊎◌}
use Rattle.std.specs.List.{AllByRecursion}
use Rattle.btor2.specs.declared.item.Item.{Item}
use Rattle.btor2.specs.declared.item.Body.{Body}
use Rattle.btor2.specs.Items.{node_sort, sort_bits, operands, is_input, is_state}

-- an item with a name, or none
abbrev pub named : ℕ → Option (List ℕ) → Body → Item
named id symbol says = record { id = id; symbol = symbol; body = says }

-- a line that says nothing of a model but what nodes are: a sort, or a node that is no leaf
abbrev pub is_plain : Body → Bool
is_plain b = is_some (sort_bits b) || (is_some (node_sort b) && (not (is_input b) && not (is_state b)))

abbrev pub ArePlain : List Item → Type 0
ArePlain items = AllByRecursion (λ (x : Item). is_plain x.body ≡ true) items

-- the ids of items are the numbers from one on, by their places
abbrev pub IsNumberedFrom : ℕ → List Item → Type 0
IsNumberedFrom id [] = Unit {0}
IsNumberedFrom id (x ∷ xs) = (x.id ≡ id) × IsNumberedFrom (suc id) xs

-- the item at place k has the id k + 1
abbrev pub IsNumbered : List Item → Type 0
IsNumbered items = IsNumberedFrom 1 items

-- a number is one of some
abbrev pub IsAmong : ℕ → List ℕ → Type 0
IsAmong a [] = ⊥
IsAmong a (x ∷ xs) = (a ≡ x) ⊎ IsAmong a xs

-- an id is that of a line behind so many, or one of those that were handed over
abbrev pub MayName : ℕ → List ℕ → ℕ → Type 0
MayName many handed a = (many < a) ⊎ IsAmong a handed

-- each of some ids is, and each operand of some lines
abbrev pub MayNameAll : ℕ → List ℕ → List ℕ → Type 0
MayNameAll many handed ids = AllByRecursion (MayName many handed) ids

abbrev pub NameOnly : ℕ → List ℕ → List Item → Type 0
NameOnly many handed items = AllByRecursion (λ (x : Item). MayNameAll many handed (operands x.body)) items

-- A list goes on where another ends, by sorts, constants and operators, which name no earlier node but those that were handed over.
pub record Extends (old new : List Item) (handed : List ℕ) : Type 0 where
  pub more : List Item
  pub is : new ≡ old ++ more
  pub plain : ArePlain more
  pub names : NameOnly (length old) handed more

-- an id is that of a line behind another list's
abbrev pub IsNew : List Item → List Item → ℕ → Type 0
IsNew old new id = (length old < id) × (id ≤ length new)
