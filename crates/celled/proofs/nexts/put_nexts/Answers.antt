use Rattle.std.proofs.Common.{◌+◌, ◌*◌}
use Rattle.wide.specs.WideModels.{greatest_width}
use Rattle.celled.specs.Spots.{ids_from}
use Rattle.celled.proofs.StepLemmas.{size_within, nexts_begin, nexts_step, loose_step, loose_first, sizes_on, sort_on, node_on, node_at, next_lines_of}
use Rattle.celled.proofs.nexts.put_nexts.Goals as goal

pub sort-requires-clause-most : goal.sort-requires-clause-most
sort-requires-clause-most c = size_within c.args.count c.args.size greatest_width c.requires.many c.requires.most

pub loop-index-init : goal.loop-index-init
loop-index-init c =
    let e = c.in_ok-sort.ensures.extends in
    record {
      put = nexts_begin c.args.maker.now c.sort.new.self c.args.first c.args.size c.args.node e;
      sort = c.in_ok-sort.ensures.sort;
      cells = sizes_on c.args.maker.now e.more c.sort.new.self c.args.size (ids_from c.args.first c.args.count) e.is c.requires.cells;
      node = node_on c.args.maker.now e.more c.sort.new.self c.args.node (c.args.count * c.args.size) e.is c.requires.node;
      rest = loose_first c.args.maker.now c.sort.new.self c.args.first c.args.count e c.requires.loose;
    }

pub put_cell_next-requires-clause-sort : goal.put_cell_next-requires-clause-sort
put_cell_next-requires-clause-sort c = c.loop-index.invariant.sort

pub put_cell_next-requires-clause-node : goal.put_cell_next-requires-clause-node
put_cell_next-requires-clause-node c = c.loop-index.invariant.node

pub put_cell_next-requires-clause-width : goal.put_cell_next-requires-clause-width
put_cell_next-requires-clause-width c = node_at c.loop-index.maker c.args.size c.args.first c.args.count c.loop-index.index c.loop-index.invariant.cells c.loop-index-test.true

pub loop-index-preserved : goal.loop-index-preserved
loop-index-preserved c =
    let now = c.loop-index.maker in
    let new = c.put_cell_next.new.maker in
    let index = c.loop-index.index in
    let more = next_lines_of now new (c.args.first + index) c.args.size c.args.node index c.in_ok-put_cell_next.ensures in
    record {
      put = nexts_step c.args.maker.now now new c.args.first index c.args.size c.args.node c.loop-index.invariant.put c.in_ok-put_cell_next.ensures;
      sort = sort_on now more.0 new c.in_ok-sort.sort c.args.size more.1 c.loop-index.invariant.sort;
      cells = sizes_on now more.0 new c.args.size (ids_from c.args.first c.args.count) more.1 c.loop-index.invariant.cells;
      node = node_on now more.0 new c.args.node (c.args.count * c.args.size) more.1 c.loop-index.invariant.node;
      rest = loose_step now new c.args.first index c.args.count c.args.size c.args.node c.in_ok-put_cell_next.ensures c.loop-index.invariant.rest;
    }
