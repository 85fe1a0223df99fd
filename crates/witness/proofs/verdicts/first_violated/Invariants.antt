use Rattle.std.proofs.Common.{◌≡◌, drop, not, ◌==◌}
use Rattle.std.specs.List.{position_from}
use Rattle.btor2.specs.Items.{is_constraint}
use Rattle.btor2.specs.Trace.{Frame}
use Rattle.runs.specs.Run.{IsNow}
use Rattle.btor2.specs.Reachability.{nodes_of}
use Rattle.witness.specs.Fits.{first_violated}
use Rattle.witness.proofs.verdicts.first_violated.Given as goal

-- those before hold
abbrev pub invariant-loop-i : goal.invariant-loop-i
invariant-loop-i l =
    (f : Frame) → IsNow l.run f → position_from (λ a. not (f a == 1)) l.i (drop l.i (nodes_of is_constraint l.model)) ≡ first_violated l.model f
