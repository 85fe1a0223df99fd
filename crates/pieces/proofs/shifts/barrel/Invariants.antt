use Rattle.std.proofs.Common.{◌≡◌, ◌%◌, ◌^◌, ◌≤◌}
use Rattle.pieces.specs.Nodes.{word_of, bits_in, Extends, MakesWord}
use Rattle.pieces.specs.Cuts.{widths, IsCut}
use Rattle.pieces.specs.Moves.{moved_value}
use Rattle.pieces.proofs.shifts.barrel.Given as goal

abbrev pub invariant-loop-k : goal.invariant-loop-k
invariant-loop-k l = record {
  within : l.k ≤ l.count;
  extends : Extends l.fn.maker l.maker;
  amount : l.amount ≡ 2 ^ l.k;
  cut : IsCut 64 (widths l.word.items);
  word : MakesWord l.maker (bits_in l.a) (λ g. moved_value l.by (bits_in l.a) (word_of g l.a) (word_of g l.b % 2 ^ l.k)) l.word.items;
}
