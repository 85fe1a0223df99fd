use Rattle.std.proofs.lemmas.Result.{err_from_is_err_and}
use Rattle.wide.proofs.GrowLemmas.{id_refused}
use Rattle.wide.proofs.model.WideModel.check.Goals as goal

pub returns-in_err-check_id : goal.returns-in_err-check_id
returns-in_err-check_id c =
    let is = err_from_is_err_and c.from_residual.result c.from_residual.ensures.1 in
    rw (is.1, is.2) (id_refused c.args.self.now c.args.item.now _ c.in_err-check_id.ensures)
