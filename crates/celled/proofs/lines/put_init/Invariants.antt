use Rattle.celled.proofs.lines.put_init.Given as goal

abbrev pub ghost-copy_line : goal.ghost-copy_line
ghost-copy_line g a = g.at

abbrev pub ghost-inits_line : goal.ghost-inits_line
ghost-inits_line g a = g.at
