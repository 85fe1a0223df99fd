-- How names are kept: those that come in the order of their places by keys that rise, the others in a map of their own.
use Rattle.std.specs.Prelude.{◌≡◌, ℕ, ◌+◌, ◌*◌, ◌/◌, ◌%◌, List, [], ◌∷◌, map, length}
use Rattle.std.specs.List.Sorted.{IsStrictlySortedBy}
use Rattle.std.specs.Ordering.{nat_cmp}
use Rattle.std.specs.BTreeMap.{insert_entry}
use Rattle.aiger.specs.Names.{NamePlace, NameMap, place_cmp}

-- a place of a position below 2^32 as one number, and the place of such a number
abbrev pub key_of : NamePlace → ℕ
key_of p = p.0 * 4294967296 + p.1

abbrev pub flat_place : ℕ → NamePlace
flat_place key = (key / 4294967296, key % 4294967296)

-- keys that rise, and as many names
pub record AreFlat (keys : List ℕ) (names : List (List ℕ)) : Type 0 where
  pub as_many : length keys ≡ length names
  pub rising : IsStrictlySortedBy nat_cmp keys

-- names by their keys at their places
abbrev pub at_places : List (ℕ × List ℕ) → NameMap
at_places names = map (λ e. (flat_place e.0, e.1)) names

-- names with others, each put in at its place
abbrev pub with_flat_names : NameMap → NameMap → NameMap
with_flat_names names [] = names
with_flat_names names (e ∷ others) = insert_entry place_cmp (with_flat_names names others) e.0 e.1
