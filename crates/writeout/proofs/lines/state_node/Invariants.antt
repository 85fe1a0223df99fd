use Rattle.writeout.proofs.lines.state_node.Given as goal

abbrev pub ghost-choice_by : goal.ghost-choice_by
ghost-choice_by g a = g.at
