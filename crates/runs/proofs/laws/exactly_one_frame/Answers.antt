use Rattle.std.proofs.Common.{◌≡◌, Bool, List, [], ◌∷◌, length}
use Rattle.std.proofs.lemmas.List.Elements.{All-cons, All-nil}
use Rattle.base.specs.Literal.{Valuation}
use Rattle.aiger.specs.Circuit.{Circuit}
use Rattle.aiger.specs.Trace.{IsCircuitFrame, IsCircuitTrace}
use Rattle.aiger.proofs.TraceLemmas.{trace_exists, SameFrame-from_bits}
use Rattle.runs.proofs.laws.exactly_one_frame.Goals as goal

-- the first frame of a trace
first_frame : (c : Circuit) (state input : List Bool) (vs : List Valuation) → IsCircuitTrace c state (input ∷ []) vs → (v : Valuation) × IsCircuitFrame c state input v
first_frame c state input [] t = absurd t
first_frame c state input (v ∷ vs) t = (v, t.0)

pub returns-clause-exists : goal.returns-clause-exists
returns-clause-exists c r valid latches inputs =
    let many : List Bool → Type 0 = λ input. length input ≡ r.circuit.inputs in
    let trace = trace_exists r.circuit r.latches (r.inputs ∷ []) valid latches (All-cons many r.inputs [] inputs (All-nil many)) in
    first_frame r.circuit r.latches r.inputs trace.0 trace.1

pub returns-clause-unique : goal.returns-clause-unique
returns-clause-unique c r v w valid p q = SameFrame-from_bits r.circuit r.latches r.inputs v w valid p q
