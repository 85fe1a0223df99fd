-- All that stands of a list makes it the model written out.
use Rattle.std.proofs.Common.{ap, ◌∙◌}
use Rattle.btor2.specs.Items.{is_state}
use Rattle.writeout.specs.Leaves.{of_kind_lines}
use Rattle.writeout.specs.Tables.{writing}
use Rattle.writeout.proofs.EndLemmas.{written_out}
use Rattle.writeout.proofs.writing.put_all.Goals as goal

pub returns-clause-written : goal.returns-clause-written
returns-clause-written c =
    let full = c.args.full.now in
    let s = c.in_ok-put_late.ensures in
    let out = written_out full (writing c.put_nodes.new.tables c.put_late.new.maker) c.know.ensures.model c.know_list.ensures.model s.nodes s.each s.leaves s.late in
    (out.0, out.1, (c.in_ok-nodes.ensures ∙ ap (of_kind_lines is_state full) c.as_slice.ensures.value ∙ out.2.0, c.in_ok-leaves.ensures ∙ ap (of_kind_lines is_state full) c.as_slice-2.ensures.value ∙ out.2.1))
