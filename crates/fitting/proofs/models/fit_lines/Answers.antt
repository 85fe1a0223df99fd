use Rattle.fitting.proofs.models.fit_lines.Goals as goal

pub returns-clause-fits : goal.returns-clause-fits
returns-clause-fits g c = c.finish.ensures.fit.0
