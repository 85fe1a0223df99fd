-- A run of a circuit ("AIGER 1.9 and Beyond", semantics): the bits that its latches and inputs have now, and what is told of them. That a latch without
-- an initial value begins with 0 here, and the counting of steps, are this project's own.
use Rattle.std.specs.Prelude.{ℕ, ◌+◌, Bool, true, false, ◌==◌, List, length, map, replicate}
use Rattle.aiger.specs.declared.circuit.Latch.{Latch}
use Rattle.aiger.specs.declared.circuit.Reset.{Reset}
use Rattle.aiger.specs.declared.circuit.Reset.TheVariants.{Zero, One, Free}
use Rattle.base.specs.Literal.{Valuation}
use Rattle.aiger.specs.Net.{variables}
use Rattle.aiger.specs.Circuit.{Circuit, net}
use Rattle.aiger.specs.Trace.{IsCircuitFrame}

-- The bits of the latches and of the inputs are in order. It is settled where no bit was set since the last settling and
-- the run has not advanced since. The steps are all that it has taken.
pub record CircuitRun : Type 0 where
  pub circuit : Circuit
  pub latches : List Bool
  pub inputs : List Bool
  pub settled : Bool
  pub steps : ℕ

-- the frame that the run is in
abbrev pub IsFrameNow : CircuitRun → Valuation → Type 0
IsFrameNow r v = IsCircuitFrame r.circuit r.latches r.inputs v

-- the bit that a latch begins with: that of its reset, or 0 where it has no initial value
abbrev pub reset_bit : Reset → Bool
reset_bit Zero = false
reset_bit One = true
reset_bit Free = false

abbrev pub reset_bits : List Latch → List Bool
reset_bits latches = map (λ l. reset_bit l.reset) latches

-- the bits of inputs that were not set: 0 each
abbrev pub no_inputs : Circuit → List Bool
no_inputs c = replicate c.inputs false

-- the run that a circuit begins with
abbrev pub circuit_start : Circuit → CircuitRun
circuit_start c =
    record {
      circuit = c;
      latches = reset_bits c.latches;
      inputs = no_inputs c;
      settled = false;
      steps = 0;
    }

-- the bits that digits write: 1 for the byte of `1`, and 0 for any other
abbrev pub written_bits : List ℕ → List Bool
written_bits digits = map (λ b. b == 49) digits

-- the steps of settling: one for each input and each gate
abbrev pub settle_steps : Circuit → ℕ
settle_steps c = c.inputs + length c.gates

-- the bits that a run holds: one for 0 and each variable, and one for each latch
abbrev pub circuit_held : Circuit → ℕ
circuit_held c = variables (net c) + 1 + length c.latches
