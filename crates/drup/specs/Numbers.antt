-- What is kept of the bytes of a number of a binary proof, of which more follow.
use Rattle.std.specs.Prelude.{◌≡◌, ℕ, ◌*◌, ◌-◌, ◌^◌, min, List, [], ◌∷◌}
use Rattle.drup.specs.declared.number.Number.{Number}
use Rattle.drup.specs.BinaryProofs.{coded_number}

-- what a byte behind these counts
abbrev pub unit_behind : List ℕ → ℕ
unit_behind [] = 1
unit_behind (b ∷ bs) = 128 * unit_behind bs

-- what is kept is that of these bytes, both up to 2 ^ 64 - 1
pub record SpellsNumber (n : Number) (bytes : List ℕ) : Type 0 where
  pub unit : n.unit ≡ min (unit_behind bytes) (2 ^ 64 - 1)
  pub value : n.value ≡ min (coded_number bytes) (2 ^ 64 - 1)
