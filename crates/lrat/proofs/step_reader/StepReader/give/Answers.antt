use Rattle.std.proofs.Common.{sym, subst}
use Rattle.lrat.specs.StepReaders.{BeginsReader, reader_of}
use Rattle.lrat.proofs.step_reader.StepReader.give.Goals as goal

pub returns-clause-begins : goal.returns-clause-begins
returns-clause-begins c f b =
    let old : BeginsReader f (reader_of c.self.inside) = subst (BeginsReader f) (sym c.self.view_is) b in
    record { begins = c.give.ensures.begins f old.begins; begun = old.begun; closed = old.closed }
