-- The names of positions ("AIGER 1.9 and Beyond", the symbol table): a map from section and position.
use Rattle.std.specs.Prelude.{ℕ, ◌<◌, ◌≤◌, ◌&&◌, Bool, List, [], ◌∷◌, length, Option, None, Some, All, slice_get, nat_lt, nat_le}
use Rattle.std.specs.List.{list_all}
use Rattle.std.specs.Map.{lookup}
use Rattle.std.specs.BTreeMap.{insert_entry, is_at}
use Rattle.std.specs.Ordering.{nat_cmp, ordering_then}
use Rattle.std.specs.declared.cmp.Ordering.{Ordering}
use Rattle.aiger.specs.declared.circuit.Section.{Section}
use Rattle.aiger.specs.declared.circuit.Section.TheVariants.{Input, Latch, Output, Bad, Constraint, Justice, Fair}
use Rattle.aiger.specs.Limits.{longest_name}

-- where a section stands in the order of the names in a file: i l o b c j f
abbrev pub rank : Section → ℕ
rank Input = 0
rank Latch = 1
rank Output = 2
rank Bad = 3
rank Constraint = 4
rank Justice = 5
rank Fair = 6

-- the letter of a section
abbrev pub letter : Section → ℕ
letter Input = 105
letter Latch = 108
letter Output = 111
letter Bad = 98
letter Constraint = 99
letter Justice = 106
letter Fair = 102

-- the sections in the order of their ranks
abbrev pub all_sections : List Section
all_sections = Input ∷ Latch ∷ Output ∷ Bad ∷ Constraint ∷ Justice ∷ Fair ∷ []

-- a place of a name: its section's rank, and the position
abbrev pub NamePlace : Type 0
NamePlace = ℕ × ℕ

-- places in order: by section, then by position
abbrev pub place_cmp : NamePlace → NamePlace → Ordering
place_cmp = λ p q. ordering_then (nat_cmp p.0 q.0) (nat_cmp p.1 q.1)

-- the names that there are, in the order of their places: whatever order they were given in, the same names are the same list
abbrev pub NameMap : Type 0
NameMap = List (NamePlace × List ℕ)

-- the name of a position of a section, if it has one
abbrev pub name_in : NameMap → Section → ℕ → Option (List ℕ)
name_in names section position = lookup (is_at (place_cmp (rank section, position))) names

-- the names with this one more
abbrev pub with_name_in : NameMap → Section → ℕ → List ℕ → NameMap
with_name_in names section position name = insert_entry place_cmp names (rank section, position) name

-- the names of one section as a list: for each position its name or none
abbrev pub Names : Type 0
Names = List (Option (List ℕ))

abbrev pub given_name : Option (Option (List ℕ)) → Option (List ℕ)
given_name None = None
given_name (Some name) = name

-- the name at a position of such a list, if there is one
abbrev pub name_at : Names → ℕ → Option (List ℕ)
name_at names position = given_name (slice_get names position)

-- a name: 1 to 300 bytes from 32 to 126
pub record IsName (name : List ℕ) : Type 0 where
  pub some : 0 < length name
  pub short : length name ≤ longest_name
  pub printable : All (λ b. (32 ≤ b) × (b ≤ 126)) name

-- a byte from 32 to 126
abbrev pub is_printable : ℕ → Bool
is_printable b = nat_le 32 b && nat_le b 126

-- the same of a name as a test
abbrev pub is_name : List ℕ → Bool
is_name name = nat_lt 0 (length name) && (nat_le (length name) longest_name && list_all is_printable name)
