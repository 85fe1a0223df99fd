use Rattle.std.proofs.lemmas.Result.{err_from_is_err_and}
use Rattle.fullmodel.specs.Lines.{line_of}
use Rattle.fullmodel.proofs.RowLemmas.{id_refused}
use Rattle.fullmodel.proofs.model.FullModel.check.Goals as goal

pub returns-in_err-check_id : goal.returns-in_err-check_id
returns-in_err-check_id c =
    let is = err_from_is_err_and c.from_residual.result c.from_residual.ensures.1 in
    rw (is.1, is.2) (id_refused c.args.self.now (line_of c.args.line.now) _ c.in_err-check_id.ensures)
