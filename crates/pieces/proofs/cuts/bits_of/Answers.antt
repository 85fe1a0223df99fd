use Rattle.std.proofs.Common.{ap, ◌∙◌, take_all, arith}
use Rattle.pieces.specs.Nodes.{bits_in}
use Rattle.pieces.proofs.ListLemmas.{total_next, total_fits}
use Rattle.pieces.proofs.cuts.bits_of.Goals as goal

pub overflow_add-total : goal.overflow_add-total
overflow_add-total c = omega (arith, total_fits c.args.nodes.now c.loop-i.i (record { id = 0; width = 0 }) c.loop-i.total c.loop-i-test.true c.loop-i.invariant c.requires)

pub loop-i-preserved : goal.loop-i-preserved
loop-i-preserved c = total_next c.args.nodes.now c.loop-i.i _ c.loop-i.total c.loop-i-test.true c.loop-i.invariant

pub returns : goal.returns
returns c = c.loop-i.invariant ∙ ap bits_in (take_all c.loop-i.i c.args.nodes.now (omega (arith, c.loop-i-test.false)))
