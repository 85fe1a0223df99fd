-- Runs of the circuits of single operators.
use Rattle.std.specs.Prelude.{◌≡◌, [], length}
use Rattle.aiger.specs.Circuit.{Circuit}
use Rattle.runs.specs.CircuitRun.{CircuitRun}

-- a run is of a circuit without latches, and has as many bits given as the circuit has inputs
pub record IsRunOf (c : Circuit) (r : CircuitRun) : Type 0 where
  pub same : r.circuit ≡ c
  pub latches : r.latches ≡ []
  pub inputs : length r.inputs ≡ c.inputs
