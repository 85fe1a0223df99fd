use Rattle.std.proofs.Common.{◌≡◌, sum_by, arith, ap}
use Rattle.btor2.specs.declared.item.Item.{Item}
use Rattle.blast.specs.Cost.{line_cost, cost}
use Rattle.blast.proofs.WidthLemmas.{sum_step, sum_whole, cost-small, item_read}
use Rattle.blast.proofs.widths.cost.Goals as goal

pub line_cost-total-requires : goal.line_cost-total-requires
line_cost-total-requires c =
    record {
      well_formed = c.items-items.ensures.well_formed;
      at = item_read c.items-items.result.now c.args.model.now c.loop-place.place c.index-items-place.result c.items-items.ensures.items c.loop-place-test.true c.index-items-place.is;
    }

pub overflow_add-total : goal.overflow_add-total
overflow_add-total c =
    let m = c.args.model.now in
    let f = λ (x : Item). line_cost m x.body in
    let step = sum_step f c.items-items.result.now c.loop-place.place c.loop-place.total c.line_cost-total.result c.index-items-place.result c.loop-place-test.true c.index-items-place.is c.loop-place.invariant c.line_cost-total.ensures in
    let whole : sum_by f c.items-items.result.now ≡ cost m = ap (sum_by f) c.items-items.ensures.items in
    omega (arith, step.1, cost-small m c.items-items.ensures.well_formed)

pub loop-place-preserved : goal.loop-place-preserved
loop-place-preserved c =
    (sum_step (λ x. line_cost c.args.model.now x.body) c.items-items.result.now c.loop-place.place c.loop-place.total c.line_cost-total.result c.index-items-place.result c.loop-place-test.true c.index-items-place.is c.loop-place.invariant c.line_cost-total.ensures).0

pub returns : goal.returns
returns c =
    sum_whole (λ x. line_cost c.args.model.now x.body) c.items-items.result.now c.args.model.now c.loop-place.place c.loop-place.total c.loop-place-test.false c.items-items.ensures.items c.loop-place.invariant
