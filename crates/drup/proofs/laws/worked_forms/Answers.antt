use Rattle.std.proofs.Common.{refl}
use Rattle.base.specs.Decimals.{is_decimal, capped_value, number_of}
use Rattle.drup.proofs.laws.worked_forms.Goals as goal

pub returns-clause-addition : goal.returns-clause-addition
returns-clause-addition c = refl

pub returns-clause-deletion : goal.returns-clause-deletion
returns-clause-deletion c = refl

pub returns-clause-letter : goal.returns-clause-letter
returns-clause-letter c = refl

pub returns-clause-spaced : goal.returns-clause-spaced
returns-clause-spaced c = refl

pub returns-clause-digits : goal.returns-clause-digits
returns-clause-digits c = refl

pub returns-clause-nothing : goal.returns-clause-nothing
returns-clause-nothing c = refl

pub returns-clause-misread : goal.returns-clause-misread
unfolding number_of is_decimal capped_value
returns-clause-misread c = refl
