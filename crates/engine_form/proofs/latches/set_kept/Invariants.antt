use Rattle.std.proofs.Common.{◌≡◌, ◌++◌, map, take, drop}
use Rattle.engine_form.specs.Reads.{kept_latch}
use Rattle.engine_form.proofs.latches.set_kept.Given as goal

abbrev pub invariant-loop-k : goal.invariant-loop-k
invariant-loop-k l = l.circuit ≡ record l.fn.circuit { latches = map (kept_latch l.table) (take l.k l.latches) ++ drop l.k l.fn.circuit.latches }
