use Rattle.std.proofs.Common.{refl}
use Rattle.drup.proofs.laws.worked_binary_reading.Goals as goal

pub returns-clause-steps : goal.returns-clause-steps
returns-clause-steps c = refl

pub returns-clause-deletes : goal.returns-clause-deletes
returns-clause-deletes c = refl

pub returns-clause-two_bytes : goal.returns-clause-two_bytes
returns-clause-two_bytes c = refl

pub returns-clause-needless : goal.returns-clause-needless
returns-clause-needless c = refl

pub returns-clause-variable : goal.returns-clause-variable
returns-clause-variable c = refl

pub returns-clause-no_literal : goal.returns-clause-no_literal
returns-clause-no_literal c = refl

pub returns-clause-between : goal.returns-clause-between
returns-clause-between c = refl

pub returns-clause-cut_off : goal.returns-clause-cut_off
returns-clause-cut_off c = refl

pub returns-clause-cut_number : goal.returns-clause-cut_number
returns-clause-cut_number c = refl
