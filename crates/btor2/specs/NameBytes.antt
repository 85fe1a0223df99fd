-- How the bytes of a name are held.
use Rattle.std.specs.Prelude.{ℕ, ◌≤◌, List, take}
use Rattle.btor2.specs.declared.name_bytes.Place.{Place}
use Rattle.btor2.specs.declared.name_bytes.Place.TheVariants as place

-- the bytes: in place the first of 14, or those of a vector
abbrev pub bytes_at : Place → List ℕ
bytes_at (place.Short n held) = take n held
bytes_at (place.Long held) = held.value.items

-- no more bytes stand in place than there is room for
abbrev pub IsPlace : Place → Type 0
IsPlace (place.Short n held) = n ≤ 14
IsPlace (place.Long held) = Unit {0}
