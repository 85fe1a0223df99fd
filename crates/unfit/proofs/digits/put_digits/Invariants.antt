use Rattle.std.proofs.Common.{ℕ, ◌+◌, ◌-◌, ◌*◌, ◌/◌, ◌^◌, ◌<◌, ◌≤◌, drop}
use Rattle.base.specs.Writing.{WritesText}
use Rattle.unfit.specs.Steps.{piece_word_at}
use Rattle.unfit.proofs.DigitLemmas.{piece_digits}
use Rattle.unfit.proofs.digits.put_digits.Given as goal

abbrev pub invariant-loop-left : goal.invariant-loop-left
invariant-loop-left g l =
    record {
      writes : WritesText g.K.Sink.written g.K.Sink.failures l.initial.sink l.sink l.initial.pen l.pen (piece_digits ((l.width + 63) / 64 - l.left) (l.width - 64 * l.left) (drop l.left l.pieces));
      most : l.left ≤ (l.width + 63) / 64;
      words : (i : ℕ) → l.left ≤ i → i < (l.width + 63) / 64 → piece_word_at l.pieces i < 2 ^ 64;
    }

abbrev pub decreases-loop-left : goal.decreases-loop-left
decreases-loop-left g l = l.left
