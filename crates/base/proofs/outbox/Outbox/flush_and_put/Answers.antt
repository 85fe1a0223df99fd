use Rattle.std.proofs.Common.{rules}
use Rattle.std.proofs.lemmas.Result.{on_ok_weaker, err_from_is_err_and}
use Rattle.base.proofs.DeviceLemmas.{beginning_longer, sent_after}
use Rattle.base.proofs.outbox.Outbox.flush_and_put.Goals as goal

pub returns-in_err-flush-clause-err : goal.returns-in_err-flush-clause-err
returns-in_err-flush-clause-err g c =
    let is = err_from_is_err_and c.from_residual.result c.from_residual.ensures.1 in
    rw is.1 (beginning_longer _ _ c.args.self.now c.args.bytes.now (search rules))

pub returns-clause-sent : goal.returns-clause-sent
returns-clause-sent g c =
    on_ok_weaker c.put_first.result (sent_after _ _ _ c.args.self.now c.args.bytes.now _ (search rules)) c.put_first.ensures.sent
