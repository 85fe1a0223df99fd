use Rattle.std.proofs.Common.{refl}
use Rattle.std.specs.Fmt.{digits}
use Rattle.aigertext.proofs.laws.worked_lines.Goals as goal

pub returns-clause-numbers : goal.returns-clause-numbers
unfolding digits
returns-clause-numbers c = refl

pub returns-clause-name : goal.returns-clause-name
unfolding digits
returns-clause-name c = refl
