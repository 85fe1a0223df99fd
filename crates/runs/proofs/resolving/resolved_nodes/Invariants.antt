use Rattle.std.proofs.Common.{◌≡◌, take}
use Rattle.runs.specs.Nodes.{run_nodes}
use Rattle.runs.proofs.resolving.resolved_nodes.Given as goal

abbrev pub invariant-loop-place : goal.invariant-loop-place
invariant-loop-place l = l.nodes.items ≡ run_nodes l.model (take l.place l.items)
