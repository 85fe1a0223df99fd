use Rattle.std.proofs.Common.{◌≤◌, take}
use Rattle.pieces.specs.Nodes.{word_of, bits_in, Extends, Makes}
use Rattle.pieces.specs.Tests.{test_value}
use Rattle.pieces.proofs.tests.answers.Given as goal

abbrev pub invariant-loop-i : goal.invariant-loop-i
invariant-loop-i l = record {
  least : 1 ≤ l.i;
  extends : Extends l.fn.maker l.maker;
  word : Makes l.maker 1 (λ g. test_value l.by (bits_in (take l.i l.a)) (word_of g (take l.i l.a)) (word_of g (take l.i l.b))) l.result;
}
