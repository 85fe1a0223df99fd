use Rattle.writeout.proofs.lines.any_form_node.Given as goal

abbrev pub ghost-form_node : goal.ghost-form_node
ghost-form_node g a = g.at.line

abbrev pub ghost-state_node : goal.ghost-state_node
ghost-state_node g a = g.at
