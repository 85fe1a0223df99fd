use Rattle.celled.proofs.lines.put_next.Given as goal

abbrev pub ghost-copy_line : goal.ghost-copy_line
ghost-copy_line g a = g.at

abbrev pub ghost-nexts_line : goal.ghost-nexts_line
ghost-nexts_line g a = g.at
