-- The lists that an ascii file of a circuit has in the circuit's own numbers ("AIGER 1.9 and Beyond", ascii format).
use Rattle.std.specs.Prelude.{ℕ, zero, suc, ◌+◌, ◌*◌, List, [], ◌∷◌, length}
use Rattle.aiger.specs.declared.circuit.Gate.{Gate}
use Rattle.aiger.specs.declared.circuit.Latch.{Latch}
use Rattle.aigerlists.specs.declared.loose.GateLine.{GateLine}
use Rattle.aigerlists.specs.declared.loose.LatchLine.{LatchLine}
use Rattle.aiger.specs.Circuit.{Circuit}
use Rattle.aigerlists.specs.Loose.{Loose}

-- so many input lines, the first of which defines the given variable
abbrev pub own_input_lines : ℕ → ℕ → List ℕ
own_input_lines first zero = []
own_input_lines first (suc n) = 2 * first ∷ own_input_lines (suc first) n

-- the latch lines
abbrev pub own_latches : ℕ → List Latch → List LatchLine
own_latches first [] = []
own_latches first (l ∷ ls) = record { current = 2 * first; next = l.next; reset = l.reset } ∷ own_latches (suc first) ls

-- the gate lines
abbrev pub own_gates : ℕ → List Gate → List GateLine
own_gates first [] = []
own_gates first (g ∷ gs) = record { lhs = 2 * first; rhs0 = g.rhs0; rhs1 = g.rhs1 } ∷ own_gates (suc first) gs

-- all lists of a circuit
abbrev pub own_lists : Circuit → Loose
own_lists c =
    record {
      inputs = own_input_lines 1 c.inputs;
      latches = own_latches (suc c.inputs) c.latches;
      gates = own_gates (suc (c.inputs + length c.latches)) c.gates;
      outputs = c.outputs;
      bads = c.bads;
      constraints = c.constraints;
      justice = c.justice;
      fair = c.fair;
      names = c.names;
    }
