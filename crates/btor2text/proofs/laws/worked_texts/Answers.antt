use Rattle.std.proofs.Common.{refl}
use Rattle.std.specs.Fmt.{digits}
use Rattle.btor2text.proofs.laws.worked_texts.Goals as goal

pub returns-clause-hexadecimal : goal.returns-clause-hexadecimal
unfolding digits
returns-clause-hexadecimal c = refl

pub returns-clause-binary : goal.returns-clause-binary
unfolding digits
returns-clause-binary c = refl

pub returns-clause-negative : goal.returns-clause-negative
unfolding digits
returns-clause-negative c = refl

pub returns-clause-named : goal.returns-clause-named
unfolding digits
returns-clause-named c = refl

pub returns-clause-justice : goal.returns-clause-justice
unfolding digits
returns-clause-justice c = refl
