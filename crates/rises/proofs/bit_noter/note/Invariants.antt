use Rattle.std.proofs.Common.{◌≡◌, ◌<◌, ◌≤◌, ℕ, List, length, option_map, slice_get}
use Rattle.base.specs.Literal.{Valuation}
use Rattle.aiger.specs.Circuit.{Circuit}
use Rattle.witness.specs.Reached.{IsClosedBitTrace, bit_reached}
use Rattle.witness.specs.BitStands.{StandsForBits}
use Rattle.rises.specs.Notes.{noted}
use Rattle.rises.proofs.bit_noter.note.Given as goal

-- those below are noted, and the others as they were
abbrev pub invariant-loop-position : goal.invariant-loop-position
invariant-loop-position l = record {
  many : length l.firsts ≡ length l.initial.firsts;
  below : (circuit : Circuit) (text : List ℕ) (vs : List Valuation) → StandsForBits circuit l.judge text → IsClosedBitTrace circuit text vs → (k : ℕ) → k < l.position → slice_get l.firsts k ≡ option_map (noted (bit_reached circuit text vs k) l.frame) (slice_get l.initial.firsts k);
  above : (k : ℕ) → l.position ≤ k → slice_get l.firsts k ≡ slice_get l.initial.firsts k;
}
