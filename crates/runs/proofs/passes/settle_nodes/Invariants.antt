use Rattle.std.proofs.Common.{◌-◌, length}
use Rattle.base.specs.Steps.{more_steps}
use Rattle.runs.proofs.PassLemmas.{Settling}
use Rattle.runs.proofs.passes.settle_nodes.Given as goal

abbrev pub invariant-loop-at : goal.invariant-loop-at
invariant-loop-at l = Settling l.nodes l.fn.values l.values (more_steps (length l.fn.values - length l.nodes) l.fn.tally) l.tally l.at
