use Rattle.std.proofs.Common.{refl, arith}
use Rattle.aigertext.proofs.AnyOrderLemmas.{own_more}
use Rattle.aigertext.proofs.reading.any_order.push_own.Goals as goal

pub loop-gate-preserved : goal.loop-gate-preserved
loop-gate-preserved c = record {
  puts =
      own_more c.args.greatest c.args.first c.args.gates.now c.args.lists.now c.loop-gate.lists c.push_line.new.lists c.loop-gate.variable _ c.loop-gate.gate-index c.number-first.result c.number-second.result c.gate-item.result c.loop-gate.invariant.puts c.loop-gate-test.true c.gate-item.is
      c.number-first.ensures c.number-second.ensures (omega arith) (c.in_ok-push_line.ensures.added refl);
  in_order = omega (arith, c.loop-gate.invariant.in_order);
}
