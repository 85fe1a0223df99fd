use Rattle.full.proofs.UpLemmas.{run_up}
use Rattle.full.proofs.TraceLemmas.{run_down}
use Rattle.full.proofs.laws.runs_and_traces.Goals as goal

pub returns-clause-up : goal.returns-clause-up
returns-clause-up c = run_up

pub returns-clause-down : goal.returns-clause-down
returns-clause-down c = run_down
