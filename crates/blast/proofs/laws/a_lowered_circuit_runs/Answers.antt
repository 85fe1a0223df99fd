use Rattle.blast.specs.Leaves.{input_bits, state_bits}
use Rattle.std.proofs.Common.{map}
use Rattle.blast.proofs.ReachLemmas.{initial_bits, state_count, input_counts}
use Rattle.blast.proofs.laws.a_lowered_circuit_runs.Goals as goal

pub returns-clause-initial : goal.returns-clause-initial
returns-clause-initial c = initial_bits

pub returns-clause-exists : goal.returns-clause-exists
returns-clause-exists c items circuit l state inputs initial given =
    c.exactly_one_trace.ensures.exists circuit (state_bits items state) (map (input_bits items) inputs) l.circuit (state_count items circuit l state initial) (input_counts items circuit l inputs)
