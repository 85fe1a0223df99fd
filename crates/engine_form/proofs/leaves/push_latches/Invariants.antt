use Rattle.std.proofs.Common.{◌≡◌, ℕ, ◌+◌, ◌*◌, ◌++◌, List, take}
use Rattle.engine_form.specs.EngineForm.{free_count}
use Rattle.engine_form.specs.Reads.{LatchLiteralsRead}
use Rattle.engine_form.proofs.leaves.push_latches.Given as goal

abbrev pub invariant-loop-j : goal.invariant-loop-j
invariant-loop-j g l =
    record {
      input : l.input ≡ l.fn.input + free_count (take l.j l.latches);
      more : (more : List ℕ) × (l.table ≡ l.fn.table ++ more) × LatchLiteralsRead (g.G.Gates.made l.fn.g) (g.G.Gates.made l.g) (3 * free_count (take l.j l.latches)) (take l.j l.latches) l.own l.fn.input l.started more;
    }
