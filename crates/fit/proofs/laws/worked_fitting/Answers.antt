use Rattle.fit.proofs.WorkedLemmas.{fits, exchanged, no_carry, no_init, no_constraint}
use Rattle.fit.proofs.laws.worked_fitting.Goals as goal

pub returns-clause-fits : goal.returns-clause-fits
returns-clause-fits c = fits

pub returns-clause-exchanged : goal.returns-clause-exchanged
returns-clause-exchanged c = exchanged

pub returns-clause-no_carry : goal.returns-clause-no_carry
returns-clause-no_carry c = no_carry

pub returns-clause-no_init : goal.returns-clause-no_init
returns-clause-no_init c = no_init

pub returns-clause-no_constraint : goal.returns-clause-no_constraint
returns-clause-no_constraint c = no_constraint
