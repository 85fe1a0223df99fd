use Rattle.std.proofs.Common.{◌≡◌, Some, arith}
use Rattle.btor2.specs.Items.{node_width}
use Rattle.celled.specs.Names.{cell_symbol}
use Rattle.celled.specs.Steps.{cell_lines}
use Rattle.celled.proofs.CellLemmas.{all_ids_from}
use Rattle.celled.proofs.ArrayLemmas.{cell_put, widths_first, widths_step, sort_cells, first_put}
use Rattle.celled.proofs.leaves.put_cells.Goals as goal

pub loop-index-init : goal.loop-index-init
loop-index-init c =
    record {
      cells = first_put c.args.maker.now c.put_cell.new.maker c.args.is_input c.args.sort c.args.symbol.now c.in_ok-first.first c.in_ok-first.ensures.put;
      widths = widths_first c.args.maker.now c.put_cell.new.maker c.args.is_input c.args.sort c.args.size c.in_ok-first.first (cell_symbol c.args.symbol.now 0) c.requires.sort c.in_ok-first.ensures.put;
      fits = omega (arith, c.in_ok-first.ensures.fits);
    }

pub put_cell-requires-in-loop-index : goal.put_cell-requires-in-loop-index
put_cell-requires-in-loop-index c =
    sort_cells c.args.maker.now c.loop-index.maker (cell_lines c.args.is_input c.args.sort c.args.symbol.now c.in_ok-first.first 0 c.loop-index.index) c.args.sort c.args.size c.loop-index.invariant.cells c.requires.sort

pub loop-index-preserved : goal.loop-index-preserved
loop-index-preserved c =
    let now = c.loop-index.maker in
    let new = c.put_cell-in-loop-index.new.maker in
    let index = c.loop-index.index in
    let id = c.in_ok-put_cell.field-0 in
    let put = c.in_ok-put_cell.ensures.put in
    let sort = sort_cells c.args.maker.now now (cell_lines c.args.is_input c.args.sort c.args.symbol.now c.in_ok-first.first 0 index) c.args.sort c.args.size c.loop-index.invariant.cells c.requires.sort in
    let step = cell_put c.args.maker.now now new c.args.is_input c.args.sort c.args.symbol.now c.in_ok-first.first index id c.loop-index.invariant.cells c.in_ok-first.ensures.put.next put in
    let small = c.in_ok-put_cell.ensures.fits in
    let here = step.1 in
    record {
      cells = step.0;
      widths = widths_step now new c.args.is_input c.args.sort c.args.size c.in_ok-first.first index id (cell_symbol c.args.symbol.now index) sort put here c.loop-index.invariant.widths;
      fits = omega (arith, small, here);
    }

pub returns-clause-widths : goal.returns-clause-widths
returns-clause-widths c =
    let over = c.loop-index-test.false in
    all_ids_from (λ p. node_width c.loop-index.maker p ≡ Some c.args.size) c.in_ok-first.first c.args.count (λ i less. c.loop-index.invariant.widths i (omega (arith, less, over)))
