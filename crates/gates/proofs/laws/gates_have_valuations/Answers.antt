use Rattle.std.proofs.Common.{◌≡◌, Bool, List, [], ◌∷◌, length}
use Rattle.std.proofs.lemmas.List.Elements.{All-nil, All-cons}
use Rattle.base.specs.Literal.{Valuation}
use Rattle.aiger.specs.Trace.{IsCircuitTrace}
use Rattle.aiger.specs.Circuit.{Circuit, net}
use Rattle.gates.specs.Shared.{HasValuation}
use Rattle.gates.proofs.laws.gates_have_valuations.Goals as goal

-- the one frame of a trace has the bits
of_trace : (c : Circuit) (state input : List Bool) (vs : List Valuation) → IsCircuitTrace c state (input ∷ []) vs → HasValuation (net c) input state
of_trace c state input [] t = absurd t
of_trace c state input (v ∷ vs) t = record { valuation = v; gates = t.0.gates; input_bits_are = t.0.inputs; latch_bits_are = t.0.latches }

pub returns : goal.returns
returns c inputs latches i l =
    let trace = c.exactly_one_trace.ensures.exists c.args.circuit.now latches (inputs ∷ []) c.variables-variables.ensures.valid l (All-cons (λ x. length {A = Bool} x ≡ c.args.circuit.now.inputs) inputs [] i (All-nil _)) in
    of_trace c.args.circuit.now latches inputs trace.0 trace.1
