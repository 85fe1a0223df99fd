use Rattle.fitting.proofs.models.add_item.Given as goal

abbrev pub ghost-add : goal.ghost-add
ghost-add g a = g.wide
