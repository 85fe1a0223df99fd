use Rattle.fitting.proofs.fitter.Fitter.add.Given as goal

abbrev pub ghost-take : goal.ghost-take
ghost-take g a = record { wide = g.wide; id = a.id; symbol = a.symbol }
