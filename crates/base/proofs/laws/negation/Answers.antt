use Rattle.base.proofs.ShiftLaws.{neg_is_inc_not, sub_is_add_neg, dec_inc, inc_dec}
use Rattle.base.proofs.laws.negation.Goals as goal

pub returns-clause-neg : goal.returns-clause-neg
returns-clause-neg c = neg_is_inc_not

pub returns-clause-sub : goal.returns-clause-sub
returns-clause-sub c = sub_is_add_neg

pub returns-clause-dec : goal.returns-clause-dec
returns-clause-dec c = dec_inc

pub returns-clause-inc : goal.returns-clause-inc
returns-clause-inc c = inc_dec
