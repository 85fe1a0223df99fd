use Rattle.base.proofs.ValueLaws.{unary_below, binary_below, ite_below, slice_below, wider_below, sext_below, concat_below}
use Rattle.base.proofs.laws.values_fit.Goals as goal

pub returns-clause-unary : goal.returns-clause-unary
returns-clause-unary c = unary_below

pub returns-clause-binary : goal.returns-clause-binary
returns-clause-binary c = binary_below

pub returns-clause-ite : goal.returns-clause-ite
returns-clause-ite c = ite_below

pub returns-clause-slice : goal.returns-clause-slice
returns-clause-slice c = slice_below

pub returns-clause-uext : goal.returns-clause-uext
returns-clause-uext c = wider_below

pub returns-clause-sext : goal.returns-clause-sext
returns-clause-sext c = sext_below

pub returns-clause-concat : goal.returns-clause-concat
returns-clause-concat c = concat_below
