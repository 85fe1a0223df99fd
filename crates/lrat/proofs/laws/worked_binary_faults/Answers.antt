use Rattle.std.proofs.Common.{refl}
use Rattle.lrat.proofs.laws.worked_binary_faults.Goals as goal

pub returns-clause-needless : goal.returns-clause-needless
returns-clause-needless c = refl

pub returns-clause-no_id : goal.returns-clause-no_id
returns-clause-no_id c = refl

pub returns-clause-great_id : goal.returns-clause-great_id
returns-clause-great_id c = refl

pub returns-clause-variable : goal.returns-clause-variable
returns-clause-variable c = refl

pub returns-clause-no_literal : goal.returns-clause-no_literal
returns-clause-no_literal c = refl

pub returns-clause-between : goal.returns-clause-between
returns-clause-between c = refl

pub returns-clause-cut_off : goal.returns-clause-cut_off
returns-clause-cut_off c = refl

pub returns-clause-cut_number : goal.returns-clause-cut_number
returns-clause-cut_number c = refl

pub returns-clause-cut_deletion : goal.returns-clause-cut_deletion
returns-clause-cut_deletion c = refl
