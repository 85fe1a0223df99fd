use Rattle.base.proofs.ShiftLemmas.{shifted_out_left, shifted_out_right}
use Rattle.base.proofs.ShiftLaws.{sra_high}
use Rattle.base.proofs.laws.shifts_agree.Goals as goal

pub returns-clause-sll_all : goal.returns-clause-sll_all
returns-clause-sll_all c = shifted_out_left

pub returns-clause-srl_all : goal.returns-clause-srl_all
returns-clause-srl_all c = λ n a b below h. shifted_out_right n a b h below

pub returns-clause-sign_1 : goal.returns-clause-sign_1
returns-clause-sign_1 c = sra_high
