use Rattle.std.proofs.Common.{refl}
use Rattle.std.specs.Fmt.{digits}
use Rattle.blast.proofs.laws.worked_names.Goals as goal

pub returns-clause-first_bit : goal.returns-clause-first_bit
unfolding digits
returns-clause-first_bit c = refl

pub returns-clause-eleventh_bit : goal.returns-clause-eleventh_bit
unfolding digits
returns-clause-eleventh_bit c = refl

pub returns-clause-latch : goal.returns-clause-latch
unfolding digits
returns-clause-latch c = refl

pub returns-clause-input : goal.returns-clause-input
unfolding digits
returns-clause-input c = refl

pub returns-clause-free_behind_input : goal.returns-clause-free_behind_input
unfolding digits
returns-clause-free_behind_input c = refl

pub returns-clause-carried_alone : goal.returns-clause-carried_alone
unfolding digits
returns-clause-carried_alone c = refl
