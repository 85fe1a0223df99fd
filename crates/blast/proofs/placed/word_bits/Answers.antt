use Rattle.std.proofs.Common.{arith}
use Rattle.blast.proofs.PlacedLemmas.{literals-more, length-literals}
use Rattle.blast.proofs.placed.word_bits.Goals as goal

pub push-requires : goal.push-requires
push-requires c = (omega (arith, length-literals c.loop-i.i c.args.word c.loop-i.row.items c.loop-i.invariant))

pub loop-i-preserved : goal.loop-i-preserved
loop-i-preserved c = literals-more c.loop-i.i c.args.word c.bit_of.result c.loop-i.row.items c.push.new.self.items c.loop-i.invariant c.bit_of.ensures c.push.ensures.items
