use Rattle.std.proofs.Common.{◌≡◌, ◌<◌, ◌≤◌, ℕ, ◌||◌, ◌==◌, slice_index}
use Rattle.btor2.specs.Items.{is_bad}
use Rattle.btor2.specs.Trace.{Frame}
use Rattle.runs.specs.Run.{IsNow}
use Rattle.btor2.specs.Reachability.{nodes_of}
use Rattle.witness.specs.Fits.{is_set}
use Rattle.witness.proofs.verdicts.note_rises.Given as goal

abbrev pub invariant-loop-i : goal.invariant-loop-i
invariant-loop-i l = record {
  below : (f : Frame) → IsNow l.run f → (j : ℕ) → j < l.i → is_set l.rose j ≡ (is_set l.initial.rose j || (f (slice_index (nodes_of is_bad l.run.items) j) == 1));
  above : (j : ℕ) → l.i ≤ j → is_set l.rose j ≡ is_set l.initial.rose j;
}
