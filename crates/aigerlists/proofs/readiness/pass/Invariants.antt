use Rattle.aigerlists.proofs.readiness.pass.Given as goal

abbrev pub ghost-take : goal.ghost-take
ghost-take g a = g.passed

abbrev pub ghost-take_ready : goal.ghost-take_ready
ghost-take_ready g a = g.passed
