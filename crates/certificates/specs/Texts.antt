-- Which texts say which cubes over so many latches: the PLA that ABC writes of an invariant (`pdr -d -I`). Its lines are the counts of latches, outputs and
-- cubes, the names of the latches, the name of the output, a line for each cube, and the end. Latches are counted from 0, and the variable of one is one more.
use Rattle.std.specs.Prelude.{◌≡◌, ◌≢◌, ℕ, suc, ◌+◌, ◌*◌, ◌<◌, Bool, true, false, not, ◌==◌, nat_eq, List, [], ◌∷◌, ◌++◌, length, map, filter, flat_map, zip, All, Option, None, Some, codes}
use Rattle.std.specs.List.{list_all, AllZip, IsDistinct}
use Rattle.base.specs.Lines.{HasNone, all_lines}
use Rattle.base.specs.Decimals.{number_of, digits_number}
use Rattle.certificates.specs.Invariants.{asks_one}

-- a line tells something: it has a byte, and does not begin with `#`
abbrev pub tells_something : List ℕ → Bool
tells_something [] = false
tells_something (b ∷ bs) = not (b == 35)

-- the line of the latches' names, each `lo` and digits
abbrev pub names_line : List (List ℕ) → List ℕ
names_line names = codes ".ilb" ++ flat_map (λ digits. codes " lo" ++ digits) names

-- digits are the number of a latch, with any zeros in front
abbrev pub NamesLatch : List ℕ → ℕ → Type 0
NamesLatch digits k = (digits ≢ []) × (digits_number digits ≡ Some k)

-- the byte for what a cube says of a latch: nothing, that it is 1, or that it is 0
abbrev pub part_byte : Option Bool → ℕ
part_byte None = 45
part_byte (Some true) = 49
part_byte (Some false) = 48

-- and the literals
abbrev pub part_literals : ℕ → Option Bool → List ℕ
part_literals k None = []
part_literals k (Some true) = (2 * suc k) ∷ []
part_literals k (Some false) = (2 * suc k + 1) ∷ []

-- the line of a cube, by what it says of each latch that is named, in turn
abbrev pub cube_line : List (Option Bool) → List ℕ
cube_line parts = map part_byte parts ++ codes " 1"

-- the literals of the cube
abbrev pub cube_literals : List ℕ → List (Option Bool) → List ℕ
cube_literals named parts = flat_map (λ p. part_literals p.0 p.1) (zip named parts)

-- what is written: the decimals of the counts, the digits of the names, the name of the output, and the cubes
pub record Pla : Type 0 where
  pub width : List ℕ
  pub count : List ℕ
  pub names : List (List ℕ)
  pub output : List ℕ
  pub cubes : List (List (Option Bool))

-- the lines that tell it
abbrev pub pla_lines : Pla → List (List ℕ)
pla_lines p =
    (codes ".i " ++ p.width) ∷ codes ".o 1" ∷ (codes ".p " ++ p.count) ∷ names_line p.names ∷ (codes ".ob " ++ p.output) ∷ (map cube_line p.cubes ++ codes ".e" ∷ [])

-- A text says cubes over so many latches: its lines that tell something are those of a PLA, whose names are of latches that are there, each named once. The
-- counts are those of the names and of the cubes, a number above 2 ^ 64 - 1 being read as that; each cube speaks of the named latches, and asks that one be 1.
pub record SaysCubes (latches : ℕ) (text : List ℕ) (cubes : List (List ℕ)) : Type 0 where
  pub pla : Pla
  pub named : List ℕ
  pub lines : filter tells_something (all_lines text) ≡ pla_lines pla
  pub names : AllZip NamesLatch pla.names named
  pub there : All (λ k. k < latches) named
  pub once : IsDistinct nat_eq named
  pub width : number_of pla.width ≡ Some (length named)
  pub count : number_of pla.count ≡ Some (length pla.cubes)
  pub output : HasNone 32 pla.output
  pub parts : All (λ parts. length parts ≡ length named) pla.cubes
  pub are_cubes : cubes ≡ map (cube_literals named) pla.cubes
  pub ask : list_all asks_one cubes ≡ true
