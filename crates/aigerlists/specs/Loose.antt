-- The lists of an ascii file as it names them ("AIGER 1.9 and Beyond", ascii format): variables in any numbering, gates in any order.
use Rattle.std.specs.Prelude.{◌≡◌, ℕ, ◌+◌, ◌%◌, ◌≤◌, Bool, ◌&&◌, not, ◌==◌, List, [], ◌∷◌, ◌++◌, map, length, count_by, Option, Some, All, nat_le, nat_eq, if◌then◌else◌}
use Rattle.std.specs.List.{list_all, list_any}
use Rattle.aigerlists.specs.declared.loose.LatchLine.{LatchLine}
use Rattle.aigerlists.specs.declared.loose.GateLine.{GateLine}
use Rattle.aiger.specs.declared.circuit.Latch.{Latch}
use Rattle.aiger.specs.declared.circuit.Section.{Section}
use Rattle.aiger.specs.declared.lists.Properties.{Properties}
use Rattle.aiger.specs.declared.fault.CircuitFault.{CircuitFault}
use Rattle.aiger.specs.declared.fault.CircuitFault.TheVariants.{LiteralOutOfRange, TooBig}
use Rattle.aiger.specs.Limits.{greatest_count}
use Rattle.base.specs.Literal.{variable}
use Rattle.aiger.specs.Names.{NameMap, name_in, with_name_in}
use Rattle.aiger.specs.Circuit.{Circuit, AllLiterals, HasFew, HasNames, count_refusal, size_refusal, name_refusal}

pub record Loose : Type 0 where
  pub inputs : List ℕ
  pub latches : List LatchLine
  pub gates : List GateLine
  pub outputs : List ℕ
  pub bads : List ℕ
  pub constraints : List ℕ
  pub justice : List (List ℕ)
  pub fair : List ℕ
  pub names : NameMap

-- nothing yet
abbrev pub empty_loose : Loose
empty_loose =
    record {
      inputs = [];
      latches = [];
      gates = [];
      outputs = [];
      bads = [];
      constraints = [];
      justice = [];
      fair = [];
      names = [];
    }

-- the variable that a latch line defines
abbrev pub latch_variable : LatchLine → ℕ
latch_variable line = variable line.current

-- the variable that a gate line defines
abbrev pub gate_variable : GateLine → ℕ
gate_variable line = variable line.lhs

-- the variables that the lines define: of inputs, latches and gates, each in file order
abbrev pub defined_variables : Loose → List ℕ
defined_variables l = map variable l.inputs ++ map latch_variable l.latches ++ map gate_variable l.gates

-- how many variables are defined
abbrev pub defined_count : Loose → ℕ
defined_count l = length l.inputs + length l.latches + length l.gates

-- whether a line defines a variable
abbrev pub is_defined : Loose → ℕ → Bool
is_defined l v = list_any (nat_eq v) (defined_variables l)

-- a latch line without its own literal
abbrev pub latch_of : LatchLine → Latch
latch_of line = record { next = line.next; reset = line.reset }

-- their sections as those of a circuit without gates, with each literal as it stands
abbrev pub sections_of : Loose → Circuit
sections_of l =
    record {
      inputs = length l.inputs;
      latches = map latch_of l.latches;
      gates = [];
      outputs = l.outputs;
      bads = l.bads;
      constraints = l.constraints;
      justice = l.justice;
      fair = l.fair;
      names = l.names;
    }

-- the name of a position of a section, if it has one
abbrev pub loose_name : Loose → Section → ℕ → Option (List ℕ)
loose_name l section position = name_in l.names section position

-- with an input more
abbrev pub with_input_line : Loose → ℕ → Loose
with_input_line l lit = record l { inputs = l.inputs ++ lit ∷ [] }

-- with a latch more
abbrev pub with_latch_line : Loose → LatchLine → Loose
with_latch_line l line = record l { latches = l.latches ++ line ∷ [] }

-- with a gate more
abbrev pub with_gate_line : Loose → GateLine → Loose
with_gate_line l line = record l { gates = l.gates ++ line ∷ [] }

-- with an output more
abbrev pub with_output_line : Loose → ℕ → Loose
with_output_line l lit = record l { outputs = l.outputs ++ lit ∷ [] }

-- with a bad property more
abbrev pub with_bad_line : Loose → ℕ → Loose
with_bad_line l lit = record l { bads = l.bads ++ lit ∷ [] }

-- with a constraint more
abbrev pub with_constraint_line : Loose → ℕ → Loose
with_constraint_line l lit = record l { constraints = l.constraints ++ lit ∷ [] }

-- with a justice property more, which has these literals
abbrev pub with_justice_lines : Loose → List ℕ → Loose
with_justice_lines l lits = record l { justice = l.justice ++ lits ∷ [] }

-- with a fairness constraint more
abbrev pub with_fair_line : Loose → ℕ → Loose
with_fair_line l lit = record l { fair = l.fair ++ lit ∷ [] }

-- with these properties in place of its own
abbrev pub with_property_lines : Loose → Properties → Loose
with_property_lines l p =
    record l { outputs = p.outputs.items; bads = p.bads.items; constraints = p.constraints.items; justice = p.justice; fair = p.fair.items }

-- with the name of a position of a section
abbrev pub with_loose_name : Loose → Section → ℕ → List ℕ → Loose
with_loose_name l section position name = record l { names = with_name_in l.names section position name }

-- a literal may define a variable: it is even and at least 2
pub record IsDefining (lit : ℕ) : Type 0 where
  pub even : lit % 2 ≡ 0
  pub least : 2 ≤ lit

-- the same as a test
abbrev pub is_defining : ℕ → Bool
is_defining lit = nat_le 2 lit && (lit % 2 == 0)

-- a literal's variable is within the limit
abbrev pub IsSmall : ℕ → Type 0
IsSmall lit = variable lit ≤ greatest_count

-- the same as a test
abbrev pub is_small : ℕ → Bool
is_small lit = nat_le (variable lit) greatest_count

-- lines define variables: by even literals of at least 2, and no variable is defined twice
pub record HasDefinitions (l : Loose) : Type 0 where
  pub inputs : All IsDefining l.inputs
  pub latches : All (λ line. IsDefining line.current) l.latches
  pub gates : All (λ line. IsDefining line.lhs) l.gates
  pub once : (v : ℕ) → count_by (nat_eq v) (defined_variables l) ≤ 1

-- each variable is within the limit
pub record HasSmall (l : Loose) : Type 0 where
  pub inputs : All IsSmall l.inputs
  pub latches : All (λ line. IsSmall line.current) l.latches
  pub gates : All (λ line. IsSmall line.lhs) l.gates
  pub first_operands : All (λ line. IsSmall line.rhs0) l.gates
  pub second_operands : All (λ line. IsSmall line.rhs1) l.gates
  pub sections : AllLiterals IsSmall (sections_of l)

-- there are at most 2^30 definitions, lines of each section, and justice literals
pub record HasFewLines (l : Loose) : Type 0 where
  pub defined : defined_count l ≤ greatest_count
  pub sections : HasFew (sections_of l)

-- what the lists of a file keep
pub record IsLoose (l : Loose) : Type 0 where
  pub definitions : HasDefinitions l
  pub small : HasSmall l
  pub few : HasFewLines l
  pub names : HasNames (sections_of l)

-- the first fault of a line that defines a variable and has these further literals: the defining literal, a limit
abbrev pub loose_line_refusal : Loose → ℕ → List ℕ → Option CircuitFault
loose_line_refusal l defining others =
    if is_defining defining && not (is_defined l (variable defining))
    then (if list_all is_small (defining ∷ others) then count_refusal (defined_count l) else Some TooBig)
    else Some LiteralOutOfRange

-- the first fault of one more literal of a section that has so many
abbrev pub use_refusal : ℕ → ℕ → Option CircuitFault
use_refusal count lit = if is_small lit then count_refusal count else Some TooBig

-- the first fault of a justice property with these literals, after these
abbrev pub loose_justice_refusal : List (List ℕ) → List ℕ → Option CircuitFault
loose_justice_refusal lists lits = if list_all is_small lits then size_refusal lists (length lits) else Some TooBig

-- the first fault of a name for a position of a section
abbrev pub loose_name_refusal : Loose → Section → ℕ → List ℕ → Option CircuitFault
loose_name_refusal l section position name = name_refusal (sections_of l) section position name
