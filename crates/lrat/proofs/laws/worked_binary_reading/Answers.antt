use Rattle.std.proofs.Common.{refl}
use Rattle.lrat.proofs.laws.worked_binary_reading.Goals as goal

pub returns-clause-steps : goal.returns-clause-steps
returns-clause-steps c = refl

pub returns-clause-deletions : goal.returns-clause-deletions
returns-clause-deletions c = refl

pub returns-clause-two_bytes : goal.returns-clause-two_bytes
returns-clause-two_bytes c = refl
