use Rattle.fitting.proofs.models.add_constant.Given as goal

abbrev pub ghost-add_digits : goal.ghost-add_digits
ghost-add_digits g a = g.at
