-- The text of a circuit in both forms ("AIGER 1.9 and Beyond", ascii and binary format): the one spelling that the writer gives.
use Rattle.std.specs.Prelude.{ℕ, suc, ◌+◌, ◌-◌, ◌*◌, List, [], ◌∷◌, ◌++◌, length}
use Rattle.deltas.specs.Deltas.{delta}
use Rattle.aiger.specs.declared.circuit.Gate.{Gate}
use Rattle.aiger.specs.declared.circuit.Latch.{Latch}
use Rattle.aiger.specs.Circuit.{Circuit}
use Rattle.aigertext.specs.declared.forms.Form.{Form}
use Rattle.aigertext.specs.declared.forms.Form.TheVariants.{Ascii, Binary}
use Rattle.aigertext.specs.Ascii.{header, numbers_line, reset_numbers, input_lines, property_lines, all_names}

-- the lines of so many inputs in a form: the binary one has none
abbrev pub inputs_text : Form → ℕ → List ℕ
inputs_text Ascii count = input_lines 1 count
inputs_text Binary count = []

-- the line of a latch in a form: the binary one leaves its own literal out
abbrev pub latch_text : Form → ℕ → Latch → List ℕ
latch_text Ascii own l = numbers_line (own ∷ l.next ∷ reset_numbers own l.reset)
latch_text Binary own l = numbers_line (l.next ∷ reset_numbers own l.reset)

-- the lines of latches in a form, the first of which has the given variable
abbrev pub latches_text : Form → ℕ → List Latch → List ℕ
latches_text form first [] = []
latches_text form first (l ∷ ls) = latch_text form (2 * first) l ++ latches_text form (suc first) ls

-- a gate in a form: a line of its literal and its operands, the greater one first, or two deltas, from its literal to the greater operand and from that to the smaller one
abbrev pub gate_text : Form → ℕ → Gate → List ℕ
gate_text Ascii own g = numbers_line (own ∷ g.rhs0 ∷ g.rhs1 ∷ [])
gate_text Binary own g = delta (own - g.rhs0) ++ delta (g.rhs0 - g.rhs1)

-- the gates in a form, the first of which has the given variable
abbrev pub gates_text : Form → ℕ → List Gate → List ℕ
gates_text form first [] = []
gates_text form first (g ∷ gs) = gate_text form (2 * first) g ++ gates_text form (suc first) gs

-- the text of a circuit in a form: header, inputs, latches, properties, gates and names
unfoldable pub circuit_text : Form → Circuit → List ℕ
circuit_text form c =
    header form c ++ (inputs_text form c.inputs ++ (latches_text form (suc c.inputs) c.latches
    ++ (property_lines c ++ (gates_text form (suc (c.inputs + length c.latches)) c.gates ++ all_names c))))

abbrev pub ascii_text : Circuit → List ℕ
ascii_text c = circuit_text Ascii c

abbrev pub binary_text : Circuit → List ℕ
binary_text c = circuit_text Binary c
