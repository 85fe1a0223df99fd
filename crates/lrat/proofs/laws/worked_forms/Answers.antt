use Rattle.std.proofs.Common.{refl}
use Rattle.lrat.proofs.laws.worked_forms.Goals as goal

pub returns-clause-addition : goal.returns-clause-addition
returns-clause-addition c = refl

pub returns-clause-deletion : goal.returns-clause-deletion
returns-clause-deletion c = refl

pub returns-clause-digits : goal.returns-clause-digits
returns-clause-digits c = refl

pub returns-clause-comment : goal.returns-clause-comment
returns-clause-comment c = refl

pub returns-clause-nothing : goal.returns-clause-nothing
returns-clause-nothing c = refl
