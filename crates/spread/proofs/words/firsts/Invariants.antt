use Rattle.std.proofs.Common.{◌≡◌, ℕ, ◌<◌, length, slice_index}
use Rattle.rejoin.specs.Pieces.{first_piece}
use Rattle.spread.proofs.words.firsts.Given as goal

-- the indices of the words so far are there, and the next one is known
abbrev pub invariant-loop-width : goal.invariant-loop-width
invariant-loop-width l =
    record {
      many : length l.firsts.items ≡ l.width-index;
      each : (i : ℕ) → i < l.width-index → slice_index l.firsts.items i ≡ first_piece l.widths i;
      next : l.next ≡ first_piece l.widths l.width-index;
    }
