use Rattle.std.proofs.Common.{◌≡◌, ◌+◌, length}
use Rattle.base.specs.Lines.{IsLine}
use Rattle.rejoin.specs.Pieces.{piece_count}
use Rattle.spread.specs.Stands.{digit_lines}
use Rattle.spread.proofs.WordLemmas.{Gave}
use Rattle.spread.proofs.giving.give_word.Given as goal

-- the lines before those of the digits that are left were given
abbrev pub invariant-loop-rest : goal.invariant-loop-rest
invariant-loop-rest g l =
    record {
      gave : Gave g.K.Sink.written g.K.Sink.failures l.initial.sink l.sink l.initial.pen l.pen l.initial.judge l.judge (digit_lines l.first (piece_count (length l.digits)) l.digits) (digit_lines l.index (piece_count (length l.rest)) l.rest);
      count : l.index + piece_count (length l.rest) ≡ l.first + piece_count (length l.digits);
      line : IsLine l.rest;
    }

abbrev pub decreases-loop-rest : goal.decreases-loop-rest
decreases-loop-rest g l = length l.rest
