-- What a witness circuit shares with the circuit that it certifies ("Certifaiger", and the certificates of the hardware model checking competition from 2024 on).
-- There an input or a latch stands for one of the circuit. Here it may stand for any literal of the circuit, a negated one or a gate's too, and two may stand for the same one.
use Rattle.std.specs.Prelude.{◌≡◌, ℕ, suc, ◌+◌, ◌*◌, ◌==◌, ◌&&◌, ◌||◌, nat_lt, nat_le, Bool, true, List, [], ◌∷◌, map, length, Option, None, Some, is_some, unwrap_or, if◌then◌else◌}
use Rattle.std.specs.List.{list_all, list_any, range_with_len}
use Rattle.base.specs.Decimals.{number_of}
use Rattle.base.specs.Literal.{variable}
use Rattle.aiger.specs.Net.{variables}
use Rattle.aiger.specs.declared.circuit.Section.{Section}
use Rattle.aiger.specs.declared.circuit.Section.TheVariants as section
use Rattle.aiger.specs.Circuit.{Circuit, net, section_count, name_of}
use Rattle.aiger.specs.Limits.{greatest_count}
use Rattle.aigerlists.specs.Renumbering.{numbered_literal}

-- for each input and each latch of a witness circuit the literal of the circuit that it stands for, or none where it is the witness circuit's own
pub record Mapping : Type 0 where
  pub inputs : List (Option ℕ)
  pub latches : List (Option ℕ)

-- a mapping speaks of the inputs and latches of a witness circuit
pub record IsMappingOf (w : Circuit) (m : Mapping) : Type 0 where
  pub inputs : length m.inputs ≡ w.inputs
  pub latches : length m.latches ≡ length w.latches

-- the literal that a name's bytes say: '= ' and a decimal
abbrev pub said_literal : List ℕ → Option ℕ
said_literal [] = None
said_literal (a ∷ []) = None
said_literal (a ∷ b ∷ digits) = if a == 61 && b == 32 then number_of digits else None

-- a literal by the numbers of the circuit, of one by those of its file; one that the file does not define is none of any circuit
abbrev pub by_numbering : Option (List ℕ) → ℕ → ℕ
by_numbering n l = unwrap_or (numbered_literal n l) (2 * suc greatest_count)

-- the same of one that is said, if one is
abbrev pub said_by_numbering : Option (List ℕ) → Option ℕ → Option ℕ
said_by_numbering n None = None
said_by_numbering n (Some l) = Some (by_numbering n l)

-- the literal of the circuit that a name says, if there is one, where this is the numbering of the circuit's file
abbrev pub shared_literal : Option (List ℕ) → Option (List ℕ) → Option ℕ
shared_literal n None = None
shared_literal n (Some name) = said_by_numbering n (said_literal name)

-- what the names of the positions of a section say, and those of inputs and latches
abbrev pub names_said_in : Option (List ℕ) → Section → Circuit → List (Option ℕ)
names_said_in n section w = map (λ position. shared_literal n (name_of w section position)) (range_with_len 0 (section_count section w))

abbrev pub said_by_names : Option (List ℕ) → Circuit → Mapping
said_by_names n w = record { inputs = names_said_in n section.Input w; latches = names_said_in n section.Latch w }

-- some input or latch stands for a literal
abbrev pub says_some : Mapping → Bool
says_some m = list_any (λ (l : Option ℕ). is_some l) m.inputs || list_any (λ (l : Option ℕ). is_some l) m.latches

-- whether what something stands for is a literal of a circuit of so many variables
abbrev pub is_inside : ℕ → Option ℕ → Bool
is_inside variables None = true
is_inside variables (Some l) = nat_le (variable l) variables

-- whether a mapping speaks of literals of a circuit alone
abbrev pub are_inside : Circuit → Mapping → Bool
are_inside c m = list_all (is_inside (variables (net c))) m.inputs && list_all (is_inside (variables (net c))) m.latches

-- the literal of the variable at a place behind a first one, where there are so many
abbrev pub in_place : ℕ → ℕ → ℕ → Option ℕ
in_place first count place = if nat_lt place count then Some (2 * (first + place)) else None

-- the literals of so many variables from a first one on, for as many places as there are
abbrev pub in_order : ℕ → ℕ → ℕ → List (Option ℕ)
in_order first count all = map (in_place first count) (range_with_len 0 all)

-- what is shared: what the names say, by the numbering of the circuit's file; and where no name says a literal, the first inputs and latches stand for those of the circuit, in order
abbrev pub mapping_of : Option (List ℕ) → Circuit → Circuit → Mapping
mapping_of n c w =
    if says_some (said_by_names n w) then said_by_names n w
    else record { inputs = in_order 1 c.inputs w.inputs; latches = in_order (suc c.inputs) (length c.latches) (length w.latches) }
