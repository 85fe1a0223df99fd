use Rattle.celled.proofs.lines.put_leaf.Given as goal

abbrev pub ghost-copy_line : goal.ghost-copy_line
ghost-copy_line g a = g.at

abbrev pub ghost-array_line : goal.ghost-array_line
ghost-array_line g a = g.at
