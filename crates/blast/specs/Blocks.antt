-- Blocks of a list, one for each item of a kind, and how they are written one after another over a list that is there.
use Rattle.std.specs.Prelude.{◌≡◌, ℕ, ◌+◌, ◌<◌, List, [], ◌∷◌, ◌++◌, length, take, drop, Option, Some, None, slice_get}
use Rattle.btor2.specs.declared.item.Item.{Item}

-- what the item gives that may be there
abbrev pub block : {A : Type 0} → (Item → List A) → Option Item → List A
block give None = []
block give (Some x) = give x

-- what the items at some places give, one after another
unfoldable pub blocks : {A : Type 0} → (Item → List A) → List Item → List ℕ → List A
blocks give items [] = []
blocks give items (p ∷ ps) = block give (slice_get items p) ++ blocks give items ps

-- a list with another written over it from a place on
unfoldable pub written_over : {A : Type 0} → List A → ℕ → List A → List A
written_over list at more = take at list ++ (more ++ drop (at + length more) list)

-- so many entries from a place on are blank
pub record IsBlank {A : Type 0} (blank : A) (at count : ℕ) (list : List A) : Type 0 where
  pub entries : (k : ℕ) → k < count → slice_get list (at + k) ≡ Some blank
