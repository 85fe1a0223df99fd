-- The one trace of a circuit from initial bits under input frames, computed ("AIGER 1.9 and Beyond", semantics: each gate is the AND of its operands, and latches take their next literals' bits).
use Rattle.std.specs.Prelude.{ℕ, suc, ◌+◌, Bool, false, ◌&&◌, ◌==◌, List, [], ◌∷◌, length, if◌then◌else◌}
use Rattle.aiger.specs.declared.circuit.Gate.{Gate}
use Rattle.base.specs.Literal.{Valuation, literal_value}
use Rattle.aiger.specs.Circuit.{Circuit}
use Rattle.aiger.specs.Trace.{next_latch_bits}

-- a valuation with another bit at one variable
abbrev pub with_bit : Valuation → ℕ → Bool → Valuation
with_bit v k b = λ j. if j == k then b else v j

-- with bits at the variables from a first one on
unfoldable pub with_bits : ℕ → List Bool → Valuation → Valuation
with_bits first [] v = v
with_bits first (b ∷ bits) v = with_bits (suc first) bits (with_bit v first b)

-- with the bits of gates, one after the other, at the variables from a first one on
unfoldable pub with_gates : ℕ → List Gate → Valuation → Valuation
with_gates first [] v = v
with_gates first (g ∷ gates) v = with_gates (suc first) gates (with_bit v first (literal_value v g.rhs0 && literal_value v g.rhs1))

-- the frame of a circuit from the bits of its latches and of its inputs
unfoldable pub frame_of : Circuit → List Bool → List Bool → Valuation
frame_of c state input =
    with_gates (suc (c.inputs + length c.latches)) c.gates (with_bits (suc c.inputs) state (with_bits 1 input (λ k. false)))

-- the trace of a circuit from the bits that its latches begin with
abbrev pub trace_from : Circuit → List Bool → List (List Bool) → List Valuation
trace_from c state [] = []
trace_from c state (input ∷ more) = frame_of c state input ∷ trace_from c (next_latch_bits c (frame_of c state input)) more
