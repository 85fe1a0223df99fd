use Rattle.std.proofs.Common.{length, ap, arith}
use Rattle.btor2.specs.Leaves.{kind_of}
use Rattle.btor2.proofs.LeafLemmas.{kind_width-small, width_step, width_whole}
use Rattle.btor2.proofs.leaves.Leaves.bits.Goals as goal

pub overflow_add-total : goal.overflow_add-total
overflow_add-total c =
    omega (arith, (width_step c.args.model.now c.args.self c.loop-k.k c.loop-k.total c.width-total.result c.items-items.ensures.well_formed (omega (arith, c.loop-k-test.true, ap length c.places-k-end.ensures)) c.loop-k.invariant c.width-total.ensures.value).1)

pub loop-k-preserved : goal.loop-k-preserved
loop-k-preserved c =
    (width_step c.args.model.now c.args.self c.loop-k.k c.loop-k.total c.width-total.result c.items-items.ensures.well_formed (omega (arith, c.loop-k-test.true, ap length c.places-k-end.ensures)) c.loop-k.invariant c.width-total.ensures.value).0

pub returns-clause-value : goal.returns-clause-value
returns-clause-value c =
    width_whole c.args.model.now c.args.self c.loop-k.k c.loop-k.total c.items-items.ensures.well_formed (omega (arith, c.loop-k-test.false, ap length c.places-k-end.ensures)) c.loop-k.invariant

pub returns-clause-small : goal.returns-clause-small
returns-clause-small c =
    omega (
      arith,
      kind_width-small c.args.model.now (kind_of c.args.model.now c.args.self) c.items-items.ensures.well_formed,
      width_whole c.args.model.now c.args.self c.loop-k.k c.loop-k.total c.items-items.ensures.well_formed (omega (arith, c.loop-k-test.false, ap length c.places-k-end.ensures)) c.loop-k.invariant,
    )
