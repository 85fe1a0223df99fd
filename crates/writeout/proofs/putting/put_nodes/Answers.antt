-- Each line of an order has what it needs before it, and its node after it.
use Rattle.std.proofs.Common.{get_or}
use Rattle.std.proofs.lemmas.Option.{slice_get-get_or}
use Rattle.writeout.specs.Tables.{writing}
use Rattle.writeout.proofs.RunLemmas.{order_needs, order_step, order_end}
use Rattle.writeout.proofs.putting.put_nodes.Goals as goal

pub put_node-requires-clause-done : goal.put_node-requires-clause-done
put_node-requires-clause-done c =
    let i = c.loop-place.place-index in
    let there = slice_get-get_or c.args.order.now i 0 c.loop-place-test.true in
    λ x at. order_needs c.args.full.now c.args.order.now i (get_or c.args.order.now i 0) (writing c.loop-place.tables c.loop-place.maker) x c.know.ensures.model c.requires.order c.loop-place.invariant there at

pub loop-place-preserved : goal.loop-place-preserved
loop-place-preserved c =
    let i = c.loop-place.place-index in
    order_step c.args.full.now c.args.order.now i (get_or c.args.order.now i 0) (writing c.loop-place.tables c.loop-place.maker) (writing c.put_node.new.tables c.put_node.new.maker) (slice_get-get_or c.args.order.now i 0 c.loop-place-test.true)
    c.loop-place.invariant c.in_ok-put_node.ensures

pub returns : goal.returns
returns c = order_end c.args.full.now c.args.order.now c.loop-place.place-index (writing c.loop-place.tables c.loop-place.maker) c.loop-place-test.false c.requires.order c.loop-place.invariant
