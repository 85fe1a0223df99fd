-- A circuit as contracts see it ("AIGER 1.9 and Beyond", the sections of a file).
use Rattle.std.specs.Prelude.{◌≡◌, ℕ, ◌+◌, ◌<◌, ◌≤◌, Bool, List, [], ◌∷◌, ◌++◌, map, length, replicate, Option, None, Some, All, is_some, slice_set, nat_lt, nat_le, if◌then◌else◌}
use Rattle.std.specs.List.{list_all, sum_by, range_with_len}
use Rattle.std.specs.List.Sorted.{IsStrictlySortedBy}
use Rattle.std.specs.Map.{keys_of}
use Rattle.aiger.specs.declared.circuit.Gate.{Gate}
use Rattle.aiger.specs.declared.circuit.Latch.{Latch}
use Rattle.aiger.specs.declared.circuit.Reset.TheVariants.{Zero}
use Rattle.aiger.specs.declared.circuit.Section.{Section}
use Rattle.aiger.specs.declared.circuit.Section.TheVariants as section
use Rattle.aiger.specs.declared.fault.CircuitFault.{CircuitFault}
use Rattle.aiger.specs.declared.fault.CircuitFault.TheVariants.{LiteralOutOfRange, OrderBroken, TooBig, NoSuchPosition, NameTaken, BadName}
use Rattle.aiger.specs.Limits.{greatest_count}
use Rattle.base.specs.Literal.{variable}
use Rattle.aiger.specs.Net.{Net, variables, IsDefined, AreOrdered}
pub use Rattle.aiger.specs.Names.{NamePlace, NameMap, rank, letter, all_sections, place_cmp, name_in, with_name_in, Names, given_name, name_at, IsName, is_name}
pub use Rattle.aiger.specs.Refusal.{RefusesBy, RefusesOnlyBy}

pub record Circuit : Type 0 where
  pub inputs : ℕ
  pub latches : List Latch
  pub gates : List Gate
  pub outputs : List ℕ
  pub bads : List ℕ
  pub constraints : List ℕ
  pub justice : List (List ℕ)
  pub fair : List ℕ
  pub names : NameMap

-- its gates over its inputs and latches
abbrev pub net : Circuit → Net
net c = record { inputs = c.inputs; latches = length c.latches; gates = c.gates }

-- how many positions a section has
abbrev pub section_count : Section → Circuit → ℕ
section_count section.Input c = c.inputs
section_count section.Latch c = length c.latches
section_count section.Output c = length c.outputs
section_count section.Bad c = length c.bads
section_count section.Constraint c = length c.constraints
section_count section.Justice c = length c.justice
section_count section.Fair c = length c.fair

-- the name of a position of a section, if it has one
abbrev pub name_of : Circuit → Section → ℕ → Option (List ℕ)
name_of c section position = name_in c.names section position

-- the names of one section: for each of its positions in order its name or none
abbrev pub section_names : Section → Circuit → Names
section_names section c = map (name_of c section) (range_with_len 0 (section_count section c))

-- a latch of which nothing was said: its next is false, and it begins with 0
abbrev pub fresh_latch : Latch
fresh_latch = record { next = 0; reset = Zero }

-- so many inputs and latches, and nothing else
abbrev pub fresh_circuit : ℕ → ℕ → Circuit
fresh_circuit inputs latches =
    record {
      inputs = inputs;
      latches = replicate latches fresh_latch;
      gates = [];
      outputs = [];
      bads = [];
      constraints = [];
      justice = [];
      fair = [];
      names = [];
    }

-- the circuit with a gate more
abbrev pub with_gate : Circuit → ℕ → ℕ → Circuit
with_gate c rhs0 rhs1 = record c { gates = c.gates ++ record { rhs0 = rhs0; rhs1 = rhs1 } ∷ [] }

-- the circuit with another latch at a position
abbrev pub with_latch : Circuit → ℕ → Latch → Circuit
with_latch c k latch = record c { latches = slice_set c.latches k latch }

-- the circuit with an output more
abbrev pub with_output : Circuit → ℕ → Circuit
with_output c l = record c { outputs = c.outputs ++ l ∷ [] }

-- the circuit with a bad property more
abbrev pub with_bad : Circuit → ℕ → Circuit
with_bad c l = record c { bads = c.bads ++ l ∷ [] }

-- the circuit with a constraint more
abbrev pub with_constraint : Circuit → ℕ → Circuit
with_constraint c l = record c { constraints = c.constraints ++ l ∷ [] }

-- the circuit with a justice property more, which has these literals
abbrev pub with_justice : Circuit → List ℕ → Circuit
with_justice c ls = record c { justice = c.justice ++ ls ∷ [] }

-- the circuit with a fairness constraint more
abbrev pub with_fair : Circuit → ℕ → Circuit
with_fair c l = record c { fair = c.fair ++ l ∷ [] }

-- the circuit with the name of a position of a section
abbrev pub with_name : Circuit → Section → ℕ → List ℕ → Circuit
with_name c section position name = record c { names = with_name_in c.names section position name }

-- each list has at most as many entries as the format's numbers say, and so have the justice properties together
pub record HasFew (c : Circuit) : Type 0 where
  pub outputs : length c.outputs ≤ greatest_count
  pub bads : length c.bads ≤ greatest_count
  pub constraints : length c.constraints ≤ greatest_count
  pub justice : length c.justice ≤ greatest_count
  pub justice_literals : sum_by length c.justice ≤ greatest_count
  pub fair : length c.fair ≤ greatest_count

-- something holds of each literal of the latches and the properties
pub record AllLiterals (P : ℕ → Type 0) (c : Circuit) : Type 0 where
  pub nexts : All (λ l. P l.next) c.latches
  pub outputs : All P c.outputs
  pub bads : All P c.bads
  pub constraints : All P c.constraints
  pub justice : All (All P) c.justice
  pub fair : All P c.fair

-- each of them is defined over these gates
abbrev pub HasDefined : Net → Circuit → Type 0
HasDefined n c = AllLiterals (IsDefined n) c

-- a name that a circuit may have at a place: its section has the position
pub record IsNamed (c : Circuit) (entry : NamePlace × List ℕ) : Type 0 where
  pub section : Section
  pub is_section : entry.0.0 ≡ rank section
  pub position : entry.0.1 < section_count section c
  pub name : IsName entry.1

-- the names of a circuit, in order
pub record HasNames (c : Circuit) : Type 0 where
  pub sorted : IsStrictlySortedBy place_cmp (keys_of c.names)
  pub named : All (IsNamed c) c.names

-- what every circuit keeps
pub record IsCircuit (c : Circuit) : Type 0 where
  pub small : variables (net c) ≤ greatest_count
  pub few : HasFew c
  pub ordered : AreOrdered (net c)
  pub defined : HasDefined (net c) c
  pub names : HasNames c

-- the first fault of a circuit of so many inputs and latches
abbrev pub circuit_refusal : ℕ → ℕ → Option CircuitFault
circuit_refusal inputs latches = if nat_lt greatest_count (inputs + latches) then Some TooBig else None

-- the first fault of a literal: its variable is above the greatest
abbrev pub literal_refusal : Circuit → ℕ → Option CircuitFault
literal_refusal c l = if nat_lt (variables (net c)) (variable l) then Some LiteralOutOfRange else None

-- the first fault of a gate with these operands
abbrev pub gate_refusal : Circuit → ℕ → ℕ → Option CircuitFault
gate_refusal c rhs0 rhs1 =
    if nat_lt (variables (net c)) (variable rhs0) then Some LiteralOutOfRange
    else (if nat_lt (variables (net c)) (variable rhs1) then Some LiteralOutOfRange
    else (if nat_lt rhs0 rhs1 then Some OrderBroken
    else (if nat_le greatest_count (variables (net c)) then Some TooBig else None)))

-- the fault of one more where there are so many
abbrev pub count_refusal : ℕ → Option CircuitFault
count_refusal count = if nat_le greatest_count count then Some TooBig else None

-- the first fault of a property with this literal, where there are so many of its section
abbrev pub property_refusal : Circuit → ℕ → ℕ → Option CircuitFault
property_refusal c count l =
    if nat_lt (variables (net c)) (variable l) then Some LiteralOutOfRange
    else count_refusal count

-- the fault of a list more of so many literals, after these lists
abbrev pub size_refusal : List (List ℕ) → ℕ → Option CircuitFault
size_refusal lists size =
    if nat_le greatest_count (length lists) then Some TooBig
    else (if nat_lt greatest_count (sum_by length lists + size) then Some TooBig else None)

-- whether each of these literals is defined
abbrev pub are_defined : Net → List ℕ → Bool
are_defined n ls = list_all (λ l. nat_le (variable l) (variables n)) ls

-- the first fault of a justice property with these literals
abbrev pub justice_refusal : Circuit → List ℕ → Option CircuitFault
justice_refusal c ls =
    if are_defined (net c) ls then size_refusal c.justice (length ls) else Some LiteralOutOfRange

-- the first fault of a name for a position of a section
abbrev pub name_refusal : Circuit → Section → ℕ → List ℕ → Option CircuitFault
name_refusal c section position name =
    if nat_le (section_count section c) position then Some NoSuchPosition
    else (if is_some (name_of c section position) then Some NameTaken
    else (if is_name name then None else Some BadName))
