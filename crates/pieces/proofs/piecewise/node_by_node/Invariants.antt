use Rattle.std.proofs.Common.{◌≡◌, take}
use Rattle.pieces.specs.Nodes.{word_of, bits_in, Extends, MakesWord}
use Rattle.pieces.specs.Cuts.{widths}
use Rattle.pieces.specs.Piecewise.{piece_value}
use Rattle.pieces.proofs.piecewise.node_by_node.Given as goal

abbrev pub invariant-loop-i : goal.invariant-loop-i
invariant-loop-i l = record {
  extends : Extends l.fn.maker l.maker;
  word : MakesWord l.maker (bits_in (take l.i l.a)) (λ g. piece_value g l.by (bits_in (take l.i l.a)) (word_of g (take l.i l.a)) (word_of g (take l.i l.b))) l.out.items;
  alike : widths l.out.items ≡ widths (take l.i l.a);
}
