use Rattle.std.proofs.Common.{◌+◌}
use Rattle.full.specs.Cells.{read_value}
use Rattle.wide.specs.Lines.{number_of_digits}
use Rattle.wide.specs.WideModels.{greatest_width}
use Rattle.celled.specs.Spots.{ids_from}
use Rattle.celled.proofs.StepLemmas.{size_within, cell_within, inits_begin, inits_step, open_step, opens_first, sizes_on, sort_on, node_at, init_lines_of}
use Rattle.celled.proofs.inits.put_inits.Goals as goal

pub sort-requires-clause-most : goal.sort-requires-clause-most
sort-requires-clause-most c = size_within c.args.count c.args.size greatest_width c.requires.many c.requires.most

pub loop-index-init : goal.loop-index-init
loop-index-init c =
    let e = c.in_ok-sort.ensures.extends in
    record {
      put = inits_begin c.args.maker.now c.sort.new.self c.args.first c.args.size (number_of_digits c.args.number.now) e;
      sort = c.in_ok-sort.ensures.sort;
      cells = sizes_on c.args.maker.now e.more c.sort.new.self c.args.size (ids_from c.args.first c.args.count) e.is c.requires.cells;
      rest = opens_first c.args.maker.now c.sort.new.self c.args.first c.args.count e c.requires.unset;
    }

pub put_cell_init-requires-clause-sort : goal.put_cell_init-requires-clause-sort
put_cell_init-requires-clause-sort c = c.loop-index.invariant.sort

pub put_cell_init-requires-clause-most : goal.put_cell_init-requires-clause-most
put_cell_init-requires-clause-most c = cell_within c.loop-index.index c.args.count c.args.size greatest_width c.loop-index-test.true c.requires.most

pub put_cell_init-requires-clause-width : goal.put_cell_init-requires-clause-width
put_cell_init-requires-clause-width c = node_at c.loop-index.maker c.args.size c.args.first c.args.count c.loop-index.index c.loop-index.invariant.cells c.loop-index-test.true

pub loop-index-preserved : goal.loop-index-preserved
loop-index-preserved c =
    let now = c.loop-index.maker in
    let new = c.put_cell_init.new.maker in
    let index = c.loop-index.index in
    let word = read_value c.args.size (number_of_digits c.args.number.now) index in
    let more = init_lines_of now new (c.args.first + index) word c.in_ok-put_cell_init.ensures in
    record {
      put = inits_step c.args.maker.now now new c.args.first index c.args.size (number_of_digits c.args.number.now) c.loop-index.invariant.put c.in_ok-put_cell_init.ensures;
      sort = sort_on now more.0 new c.in_ok-sort.sort c.args.size more.1 c.loop-index.invariant.sort;
      cells = sizes_on now more.0 new c.args.size (ids_from c.args.first c.args.count) more.1 c.loop-index.invariant.cells;
      rest = open_step now new c.args.first index c.args.count word c.in_ok-put_cell_init.ensures c.loop-index.invariant.rest;
    }
