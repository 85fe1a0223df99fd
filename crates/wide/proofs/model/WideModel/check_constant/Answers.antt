use Rattle.std.proofs.Common.{◌≡◌, refl, ◌∙◌}
use Rattle.std.proofs.lemmas.Result.{err_from_is_err_and}
use Rattle.wide.specs.Lines.{number_of_digits, constant_item}
use Rattle.wide.proofs.GrowLemmas.{constant_sort, row_refuses}
use Rattle.wide.proofs.model.WideModel.check_constant.Goals as goal

pub returns-in_err-width : goal.returns-in_err-width
returns-in_err-width c =
    let k = c.args.constant.now in
    let is = err_from_is_err_and c.from_residual.result c.from_residual.ensures.1 in
    rw (is.1, is.2) (c.in_err-width.ensures.answer (constant_item k) refl (constant_sort k.spelling k.sort k.count (number_of_digits k.number.items)))

pub returns : goal.returns
returns c =
    let k = c.args.constant.now in
    let row = c.in_ok-width.ensures.answer.1 (constant_item k) refl (constant_sort k.spelling k.sort k.count (number_of_digits k.number.items)) in
    rw row (row_refuses c.refuse_if.result _ _ (rw c.as_slice.ensures.value at (c.constant_fits-fits.ensures k.sort)) c.refuse_if.ensures)
