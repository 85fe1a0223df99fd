use Rattle.celled.proofs.splitting.put_at.Given as goal

abbrev pub ghost-put_line : goal.ghost-put_line
ghost-put_line g a = g.at
