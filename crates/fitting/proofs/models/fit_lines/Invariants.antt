use Rattle.fitting.proofs.models.fit_lines.Given as goal

abbrev pub ghost-add_lines : goal.ghost-add_lines
ghost-add_lines g a = g.items

abbrev pub ghost-finish : goal.ghost-finish
ghost-finish g a = g.items
