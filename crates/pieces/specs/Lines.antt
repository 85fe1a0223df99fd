-- Lines that a model gets.
use Rattle.std.specs.Prelude.{◌≡◌, ℕ, Bool, true, false, List, [], ◌∷◌, ◌++◌, Option, Some}
use Rattle.std.specs.List.{AllByRecursion}
use Rattle.btor2.specs.declared.item.Item.{Item}
use Rattle.btor2.specs.declared.item.Body.{Body}
use Rattle.btor2.specs.declared.item.Body.TheVariants as body
use Rattle.btor2.specs.Items.{sort_width}

-- lines that say nothing of a model but what nodes are: sorts, constants and operators
abbrev pub is_plain : Body → Bool
is_plain (body.Input s) = false
is_plain (body.State s) = false
is_plain (body.Init s t v) = false
is_plain (body.Next s t v) = false
is_plain (body.Bad a) = false
is_plain (body.Constraint a) = false
is_plain (body.Fair a) = false
is_plain (body.Output a) = false
is_plain (body.Justice nodes) = false
is_plain _ = true

abbrev pub ArePlain : List Item → Type 0
ArePlain items = AllByRecursion (λ (x : Item). is_plain x.body ≡ true) items

-- an item with a name, or none
abbrev pub named : ℕ → Option (List ℕ) → Body → Item
named id symbol says = record { id = id; symbol = symbol; body = says }

-- a list goes on by an item, before which there may be plain ones
pub record Adds (old new : List Item) (added : Item) : Type 0 where
  pub more : List Item
  pub plain : ArePlain more
  pub is : new ≡ (old ++ more) ++ added ∷ []

-- the same of one that names a sort of a width
pub record AddsSorted (old new : List Item) (id width : ℕ) (symbol : Option (List ℕ)) (of : ℕ → Body) : Type 0 where
  pub sort : ℕ
  pub wide : sort_width new sort ≡ Some width
  pub adds : Adds old new (named id symbol (of sort))
