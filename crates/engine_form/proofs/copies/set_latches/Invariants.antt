use Rattle.std.proofs.Common.{◌≡◌, ◌++◌, map, take, drop}
use Rattle.engine_form.proofs.copies.set_latches.Given as goal

abbrev pub invariant-loop-k : goal.invariant-loop-k
invariant-loop-k l = l.made ≡ record l.fn.made { latches = map (λ latch. latch) (take l.k l.latches) ++ drop l.k l.fn.made.latches }
