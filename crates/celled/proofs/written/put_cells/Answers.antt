use Rattle.std.proofs.Common.{map, sym, ap, subst, ◌∙◌}
use Rattle.fitting.specs.Models.{input_ids, state_ids}
use Rattle.celled.specs.Celled.{AreCells}
use Rattle.celled.specs.Spots.{spots_of}
use Rattle.celled.proofs.WrittenLemmas.{inputs_are_cells, states_are_cells}
use Rattle.celled.proofs.WholeLemmas.{words_whole}
use Rattle.celled.proofs.written.put_cells.Goals as goal

pub split_with_table-requires : goal.split_with_table-requires
split_with_table-requires c =
    let full = c.args.full.now in
    let wide = c.args.written.now.wide in
    let written = c.requires.written in
    record {
      inputs = subst (AreCells wide (input_ids wide)) (sym (c.as_slice.ensures.value ∙ c.in-Ok.ensures)) (inputs_are_cells full written.0 wide written.1);
      states = subst (AreCells wide (state_ids wide)) (sym (c.as_slice-2.ensures.value ∙ c.in-Ok-state_cells.ensures written.0 written.1)) (states_are_cells full written.0 wide written.1);
    }

pub returns-clause-written : goal.returns-clause-written
returns-clause-written c =
    let full = c.args.full.now in
    let written = c.requires.written in
    let t = spots_of c.in_ok-split.split.table in
    words_whole full written.0 c.args.written.now.wide written.1 c.as_slice.result.now c.as_slice-2.result.now c.in_ok-split.split.list t c.in-Ok-nodes_of.leaves.items c.in-Ok-nodes_of-2.nodes.items (c.as_slice.ensures.value ∙ c.in-Ok.ensures)
    (c.as_slice-2.ensures.value ∙ c.in-Ok-state_cells.ensures written.0 written.1) c.in_ok-split.ensures (c.in-Ok-nodes_of.ensures ∙ ap (map t.node) (c.as_slice-3.ensures.value ∙ written.2.1))
    (c.in-Ok-nodes_of-2.ensures ∙ ap (map t.node) (c.as_slice-4.ensures.value ∙ written.2.0))
