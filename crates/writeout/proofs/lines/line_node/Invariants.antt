use Rattle.writeout.proofs.lines.line_node.Given as goal

abbrev pub ghost-any_form_node : goal.ghost-any_form_node
ghost-any_form_node g a = g.at

abbrev pub ghost-constant_node : goal.ghost-constant_node
ghost-constant_node g a = g.at.line

abbrev pub ghost-read_node : goal.ghost-read_node
ghost-read_node g a = g.at.line

abbrev pub ghost-write_node : goal.ghost-write_node
ghost-write_node g a = g.at.line
