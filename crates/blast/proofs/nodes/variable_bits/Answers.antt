use Rattle.std.proofs.Common.{arith}
use Rattle.blast.proofs.NodeRows.{variables-push, length-variables}
use Rattle.blast.proofs.nodes.variable_bits.Goals as goal

pub push-requires : goal.push-requires
push-requires c = (omega arith, omega (arith, length-variables c.args.first c.loop-i.i c.loop-i.bits.items c.loop-i.invariant))

pub loop-i-preserved : goal.loop-i-preserved
loop-i-preserved c = variables-push c.args.first c.loop-i.i c.loop-i.bits.items c.push.new.self.items c.loop-i.invariant (rw (← c.new.ensures) c.push.ensures.items)
