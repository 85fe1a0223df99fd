-- How the variables of a file get the numbers of a circuit: inputs by their lines, then latches, then gates in the order of readiness.
use Rattle.std.specs.Prelude.{◌≡◌, ℕ, suc, ◌+◌, ◌*◌, ◌%◌, ◌<◌, Bool, true, ◌&&◌, ◌||◌, not, ◌==◌, List, [], ◌∷◌, ◌++◌, map, length, ◌⊎◌, Option, None, Some, codes, Result, Ok, Err, slice_index_or, nat_lt, nat_eq, if◌then◌else◌}
use Rattle.std.specs.List.{list_all, list_any, position, position_or_len, concat, range_with_len}
use Rattle.aiger.specs.declared.circuit.Gate.{Gate}
use Rattle.aigerlists.specs.declared.loose.GateLine.{GateLine}
use Rattle.aigerlists.specs.declared.fault.LooseFault.{LooseFault}
use Rattle.aigerlists.specs.declared.fault.LooseFault.TheVariants.{Undefined, Cycle, NoMemory}
use Rattle.aigerlists.specs.declared.numbered.Numbered.{Numbered}
use Rattle.base.specs.Literal.{variable}
use Rattle.aiger.specs.Circuit.{Circuit}
use Rattle.aigerlists.specs.Readiness.{AreFirst}
use Rattle.aigerlists.specs.Loose.{Loose, latch_variable, gate_variable, is_defined}

-- a literal's variable is 0 or defined
abbrev pub is_known : Loose → ℕ → Bool
is_known l lit = variable lit == 0 || is_defined l (variable lit)

-- a list of one literal
abbrev pub alone : ℕ → List ℕ
alone lit = lit ∷ []

-- the lines that use literals, in file order, and for each the literals that it uses: latches, outputs, bad properties, constraints, justice literals, fairness constraints, and these gates
abbrev pub lines_with : Loose → List GateLine → List (List ℕ)
lines_with l gates =
    map (λ line. line.next ∷ []) l.latches ++ map alone l.outputs ++ map alone l.bads ++ map alone l.constraints
    ++ map alone (concat l.justice) ++ map alone l.fair ++ map (λ line. line.rhs0 ∷ line.rhs1 ∷ []) gates

-- the same of all gates
abbrev pub used_lines : Loose → List (List ℕ)
used_lines l = lines_with l l.gates

-- the first of these lines with a literal whose variable is neither 0 nor defined, if there is one
abbrev pub first_undefined : Loose → Option ℕ
first_undefined l = position (λ lits. not (list_all (is_known l) lits)) (used_lines l)

-- the gate line at a position, counted from 0
abbrev pub gate_line : Loose → ℕ → GateLine
gate_line l j = slice_index_or l.gates j (record { lhs = 0; rhs0 = 0; rhs1 = 0 })

-- the variable of a gate
abbrev pub gate_name : Loose → ℕ → ℕ
gate_name l j = gate_variable (gate_line l j)

-- the variables that have numbers once these gates have theirs, in the order of their numbers, which begin with 1
abbrev pub variables_numbered : Loose → List ℕ → List ℕ
variables_numbered l order = map variable l.inputs ++ map latch_variable l.latches ++ map (gate_name l) order

-- a literal's variable is 0 or has a number
abbrev pub has_number : List ℕ → ℕ → Bool
has_number names lit = variable lit == 0 || list_any (nat_eq (variable lit)) names

-- a gate is ready once these gates have their numbers: it has none, and its operands have theirs
abbrev pub is_ready : Loose → List ℕ → ℕ → Bool
is_ready l order j =
    nat_lt j (length l.gates) && (not (list_any (nat_eq j) order)
    && (has_number (variables_numbered l order) (gate_line l j).rhs0 && has_number (variables_numbered l order) (gate_line l j).rhs1))

-- further gates get their numbers in turn: each is the first in the file of those that are ready after the ones before it
abbrev pub AreInTurn : Loose → List ℕ → List ℕ → Type 0
AreInTurn l order js = AreFirst (is_ready l) order js

-- all gates in the order of their numbers
pub record IsOrder (l : Loose) (order : List ℕ) : Type 0 where
  pub in_turn : AreInTurn l [] order
  pub all : (j : ℕ) → j < length l.gates → list_any (nat_eq j) order ≡ true

-- a literal by its variable's number, which is its place in the list, counted from 1
abbrev pub new_literal : List ℕ → ℕ → ℕ
new_literal names lit =
    if variable lit == 0 then lit
    else 2 * suc (position_or_len (nat_eq (variable lit)) names) + lit % 2

-- the literal of a circuit that a literal of a file is, where variables of the file have these numbers; none where its variable has no number. Where each variable has its own number, which is told by no list, it is the same literal
abbrev pub numbered_literal : Option (List ℕ) → ℕ → Option ℕ
numbered_literal None lit = Some lit
numbered_literal (Some names) lit = if has_number names lit then Some (new_literal names lit) else None

-- a gate of two operands, the greater one first
abbrev pub ordered_gate : ℕ → ℕ → Gate
ordered_gate a b = if nat_lt a b then record { rhs0 = b; rhs1 = a } else record { rhs0 = a; rhs1 = b }

-- a gate by the numbers of its operands
abbrev pub new_gate : List ℕ → GateLine → Gate
new_gate names line = ordered_gate (new_literal names line.rhs0) (new_literal names line.rhs1)

-- the circuit of the lists by the numbers of their variables, with these gates
abbrev pub circuit_by : Loose → List ℕ → List Gate → Circuit
circuit_by l names gates =
    record {
      inputs = length l.inputs;
      latches = map (λ line. record { next = new_literal names line.next; reset = line.reset }) l.latches;
      gates = gates;
      outputs = map (new_literal names) l.outputs;
      bads = map (new_literal names) l.bads;
      constraints = map (new_literal names) l.constraints;
      justice = map (map (new_literal names)) l.justice;
      fair = map (new_literal names) l.fair;
      names = l.names;
    }

-- the circuit in which the gates have their numbers in this order; variables without a definition are gone
abbrev pub renumbered : Loose → List ℕ → Circuit
renumbered l order = circuit_by l (variables_numbered l order) (map (λ j. new_gate (variables_numbered l order) (gate_line l j)) order)

-- a circuit is the lists of a file with the numbers of a circuit
pub record IsRenumbered (l : Loose) (c : Circuit) : Type 0 where
  pub known : first_undefined l ≡ None
  pub order : List ℕ
  pub is_order : IsOrder l order
  pub circuit : c ≡ renumbered l order

-- a gate has a gate's variable, another one's or its own, in an operand
pub record Uses (l : Loose) (j i : ℕ) : Type 0 where
  pub user : j < length l.gates
  pub used : i < length l.gates
  pub operand : (variable (gate_line l j).rhs0 ≡ gate_name l i) ⊎ (variable (gate_line l j).rhs1 ≡ gate_name l i)

-- a gate uses the first of these, each the next one, and the last one a gate
abbrev pub LeadsAlong : Loose → ℕ → List ℕ → ℕ → Type 0
LeadsAlong l j [] i = Uses l j i
LeadsAlong l j (k ∷ ks) i = Uses l j k × LeadsAlong l k ks i

-- a gate depends on another one, or on itself, through operands
abbrev pub DependsOn : Loose → ℕ → ℕ → Type 0
DependsOn l j i = (through : List ℕ) × LeadsAlong l j through i

-- a gate depends on itself, or on one that does
abbrev pub LeadsToCycle : Loose → ℕ → Type 0
LeadsToCycle l j = (i : ℕ) × (((j ≡ i) ⊎ DependsOn l j i) × DependsOn l i i)

-- the first gate line that leads to a cycle
pub record IsFirstCyclic (l : Loose) (j : ℕ) : Type 0 where
  pub leads : LeadsToCycle l j
  pub first : (i : ℕ) → i < j → ¬ LeadsToCycle l i

-- the answer of numbering the lists of a file: the circuit, or the first line with an undefined variable, or else the first gate that leads to a cycle; want of memory only where each variable is defined
abbrev pub AnswersNumber : Loose → Result Circuit LooseFault → Type 0
AnswersNumber l (Ok c) = IsRenumbered l c
AnswersNumber l (Err (Undefined k)) = first_undefined l ≡ Some k
AnswersNumber l (Err (Cycle g)) = (first_undefined l ≡ None) × IsFirstCyclic l g
AnswersNumber l (Err NoMemory) = first_undefined l ≡ None

-- variables in the order of their numbers, or no list where each has its own: they are 1, 2, 3 and so on
abbrev pub IsNumberingBy : List ℕ → Option (List ℕ) → Type 0
IsNumberingBy names None = names ≡ range_with_len 1 (length names)
IsNumberingBy names (Some numbered) = numbered ≡ names

-- a circuit is the lists of a file by these numbers
pub record IsNumberingOf (l : Loose) (c : Circuit) (numbering : Option (List ℕ)) : Type 0 where
  pub order : List ℕ
  pub is_order : IsOrder l order
  pub circuit : c ≡ renumbered l order
  pub numbers : IsNumberingBy (variables_numbered l order) numbering

-- the answer where the numbers are asked for, too
abbrev pub AnswersNumbered : Loose → Result Numbered LooseFault → Type 0
AnswersNumbered l (Ok x) = IsRenumbered l x.circuit × IsNumberingOf l x.circuit x.numbering
AnswersNumbered l (Err e) = AnswersNumber l (Err e)

-- the number that is printed for a fault
abbrev pub loose_fault_number : LooseFault → ℕ
loose_fault_number (Undefined k) = 63
loose_fault_number (Cycle g) = 62
loose_fault_number NoMemory = 43

-- the name that is printed for a fault
abbrev pub loose_fault_name : LooseFault → List ℕ
loose_fault_name (Undefined k) = codes "Undefined"
loose_fault_name (Cycle g) = codes "Cycle"
loose_fault_name NoMemory = codes "NoMemory"
