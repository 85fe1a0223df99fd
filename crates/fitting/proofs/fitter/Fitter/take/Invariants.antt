use Rattle.fitting.proofs.fitter.Fitter.take.Given as goal

abbrev pub ghost-add_sort : goal.ghost-add_sort
ghost-add_sort g a = g.at

abbrev pub ghost-add_leaf : goal.ghost-add_leaf
ghost-add_leaf g a = g.at

abbrev pub ghost-add_init : goal.ghost-add_init
ghost-add_init g a = g.at

abbrev pub ghost-add_next : goal.ghost-add_next
ghost-add_next g a = g.at

abbrev pub ghost-add_bad : goal.ghost-add_bad
ghost-add_bad g a = g.at

abbrev pub ghost-add_constraint : goal.ghost-add_constraint
ghost-add_constraint g a = g.at

abbrev pub ghost-add_output : goal.ghost-add_output
ghost-add_output g a = g.at

abbrev pub ghost-add_operator : goal.ghost-add_operator
ghost-add_operator g a = g.at

abbrev pub ghost-add_constant : goal.ghost-add_constant
ghost-add_constant g a = g.at
