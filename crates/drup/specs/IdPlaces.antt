-- The places of ids: in a list of the ids before one, in a list of those from it on, or in a map.
use Rattle.std.specs.Prelude.{ℕ, ◌-◌, ◌==◌, nat_lt, nat_eq, if◌then◌else◌, slice_index_or, List, Option, Some}
use Rattle.std.specs.Map.{lookup}
use Rattle.drup.specs.declared.id_places.IdPlaces.TheInside.{Inside}

-- the first of the later ids, the lists of the ids before it and from it on, and the map
pub record IdPlaces : Type 0 where
  pub first : ℕ
  pub early : List ℕ
  pub late : List ℕ
  pub far : List (ℕ × ℕ)

abbrev pub placed : Inside → IdPlaces
placed p = record { first = p.first; early = p.early.items; late = p.late.items; far = p.far.entries }

-- the place of an id in its list, or the number that stands for none
abbrev pub listed_at : IdPlaces → ℕ → ℕ
listed_at p id = if nat_lt id p.first then slice_index_or p.early id 4294967295 else slice_index_or p.late (id - p.first) 4294967295

-- a place in a list, or else one in the map
abbrev pub or_far : ℕ → Option ℕ → Option ℕ
or_far place far = if place == 4294967295 then far else Some place

abbrev pub place_of : IdPlaces → ℕ → Option ℕ
place_of p id = or_far (listed_at p id) (lookup (nat_eq id) p.far)
