use Rattle.std.proofs.Common.{arith, sym, ap, length, ◌∙◌}
use Rattle.std.proofs.lemmas.List.{length-map}
use Rattle.wide.specs.Lines.{item_of}
use Rattle.rejoin.specs.Shapes.{with_items}
use Rattle.rejoin.proofs.ShapeItemLemmas.{all_items, few_more, items_from, none_from, few_items}
use Rattle.rejoin.proofs.shape.Shape.new.Goals as goal

pub loop-line-init : goal.loop-line-init
loop-line-init c = (
  ap (with_items c.args.model.now _) c.lines-lines.ensures.items ∙ rw (c.new.ensures.items, c.new-2.ensures.items, c.new-3.ensures.items) (all_items c.args.model.now),
  omega arith,
)

pub add_line-requires : goal.add_line-requires
add_line-requires c =
    let few = few_items c.args.model.now c.lines-lines.ensures.well_formed in
    record { few = omega (arith, few, sym (length-map c.lines-lines.result.now item_of) ∙ ap length c.lines-lines.ensures.items, c.loop-line.invariant.1, c.loop-line-test.true) }

pub loop-line-preserved : goal.loop-line-preserved
loop-line-preserved c =
    let added = c.in_ok-add_line.ensures in (
      rw added (ap (with_items c.args.model.now c.loop-line.shape) (sym (items_from item_of c.loop-line.line-index c.lines-lines.result.now _ _ c.loop-line-test.true c.line-item.is)) ∙ c.loop-line.invariant.0),
      rw added (let more = few_more c.args.model.now c.loop-line.shape (item_of c.line-item.result) in omega (arith, more, c.loop-line.invariant.1)),
    )

pub returns : goal.returns
returns c = ap (with_items c.args.model.now c.loop-line.shape) (sym (none_from item_of c.loop-line.line-index c.lines-lines.result.now (omega (arith, c.loop-line.auto, c.loop-line-test.false)))) ∙ c.loop-line.invariant.0
