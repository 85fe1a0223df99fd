use Rattle.writeout.proofs.lines.constant_node.Given as goal

abbrev pub ghost-own_node : goal.ghost-own_node
ghost-own_node g a = g.line
