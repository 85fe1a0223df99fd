-- What is copied into a circuit whose outputs become bad properties: where the names go, and which have gone there so far.
use Rattle.std.specs.Prelude.{◌≡◌, ℕ, ◌+◌, ◌<◌, ◌&&◌, ◌||◌, [], ◌++◌, length, None, nat_lt, nat_eq, Bool, if◌then◌else◌}
use Rattle.aiger.specs.declared.circuit.Section.{Section}
use Rattle.aiger.specs.declared.circuit.Section.TheVariants.{Input, Latch, Output, Bad, Constraint, Justice, Fair}
use Rattle.aiger.specs.Circuit.{Circuit, rank, section_count, name_of}

-- the section in which a position of a section stands then, and its position there: outputs are behind the bad properties
abbrev pub new_section : Section → Section
new_section Input = Input
new_section Latch = Latch
new_section Output = Bad
new_section Bad = Bad
new_section Constraint = Constraint
new_section Justice = Justice
new_section Fair = Fair

abbrev pub new_position : Circuit → Section → ℕ → ℕ
new_position c Input k = k
new_position c Latch k = k
new_position c Output k = length c.bads + k
new_position c Bad k = k
new_position c Constraint k = k
new_position c Justice k = k
new_position c Fair k = k

-- all of a circuit but its names, with the outputs as bad properties
abbrev pub unnamed : Circuit → Circuit
unnamed c = record c { outputs = []; bads = c.bads ++ c.outputs; names = [] }

-- whether a position of a section is before one of the section of a rank, sections being in the order of their ranks
abbrev pub is_before : ℕ → ℕ → Section → ℕ → Bool
is_before r p s k = nat_lt (rank s) r || (nat_eq (rank s) r && nat_lt k p)

-- the names of all positions before one have gone to their places, and no other ones
abbrev pub NamesMoved : Circuit → Circuit → ℕ → ℕ → Type 0
NamesMoved c d r p = (s : Section) (k : ℕ) → k < section_count s c → name_of d (new_section s) (new_position c s k) ≡ (if is_before r p s k then name_of c s k else None)
