use Rattle.std.proofs.Common.{◌≡◌, ℕ, ◌+◌, ◌-◌, ◌<◌, List, length, take, drop, refl, ap, ◌∙◌, arith, rules}
use Rattle.rejoin.specs.Pieces.{piece_count}
use Rattle.spread.proofs.WordLemmas.{gave_none, gave_more, lowest_line, digits_left, line_front}
use Rattle.spread.proofs.giving.give_word.Goals as goal

pub loop-rest-init : goal.loop-rest-init
loop-rest-init g c = record { gave = gave_none; count = refl; line = c.requires.line }

pub loop-rest-preserved : goal.loop-rest-preserved
loop-rest-preserved g c =
    let rest : List ℕ = c.loop-rest.rest.now in
    let front : List ℕ = c.split_at.result.0.now in
    let piece : List ℕ = c.split_at.result.1.now in
    let some : 0 < length rest = search rules in
    let low : front ≡ take (length rest - 64) rest = search rules in
    let high : piece ≡ drop (length rest - 64) rest = search rules in
    let long : length front ≡ length rest - 64 = search rules in
    record {
      gave = gave_more c.loop-rest.invariant.gave c.give_piece.ensures (lowest_line c.loop-rest.index rest front piece some low high long);
      count = ap (λ (n : ℕ). c.loop-rest.index + 1 + piece_count n) long ∙ omega (arith, digits_left (length rest) some, c.loop-rest.invariant.count);
      line = line_front rest front (length rest - 64) low c.loop-rest.invariant.line;
    }
