use Rattle.writeout.proofs.nodes.form_node.Given as goal

abbrev pub ghost-form_operands : goal.ghost-form_operands
ghost-form_operands g a = g.line
