use Rattle.std.proofs.Common.{sym, subst}
use Rattle.drup.specs.StepReaders.{BeginsReader}
use Rattle.drup.proofs.step_reader.StepReader.give.Goals as goal

pub returns-clause-begins : goal.returns-clause-begins
returns-clause-begins c f b =
    let old : BeginsReader f (record { judge = c.self.inside.judge; clause = c.self.inside.clause.items; deleting = c.self.inside.deleting; closed = c.self.inside.closed; failed = c.self.inside.failed }) = subst (BeginsReader f) (sym c.self.view_is) b in
    record { begins = c.give.ensures.begins f old.begins; clause = old.clause; deleting = old.deleting; closed = old.closed }
