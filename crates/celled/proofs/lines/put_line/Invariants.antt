use Rattle.celled.proofs.lines.put_line.Given as goal

abbrev pub ghost-copy_line : goal.ghost-copy_line
ghost-copy_line g a = g.at

abbrev pub ghost-put_leaf : goal.ghost-put_leaf
ghost-put_leaf g a = g.at

abbrev pub ghost-put_init : goal.ghost-put_init
ghost-put_init g a = g.at

abbrev pub ghost-put_next : goal.ghost-put_next
ghost-put_next g a = g.at
