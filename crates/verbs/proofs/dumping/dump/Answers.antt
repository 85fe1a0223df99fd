use Rattle.std.proofs.Common.{ℕ, refl}
use Rattle.verbs.proofs.CountLemmas.{dumping_failed}
use Rattle.verbs.proofs.GivenLemmas.{undumped, undumped_unwritten}
use Rattle.verbs.proofs.dumping.dump.Goals as goal

pub returns-in-Ok-clause-ends : goal.returns-in-Ok-clause-ends
returns-in-Ok-clause-ends g c =
    record { counted = λ e. ((c.in_ok-model.ensures.ends.counted 0 0 0).0, c.in-Ok.ensures.counted.0, c.in-Ok.ensures.counted.1, refl); unwritten = tt; untold = tt }

pub returns-clause-refused : goal.returns-clause-refused
returns-clause-refused g c =
    rw c.from.ensures (undumped (g.A.Source.to_come c.args.first.now) c.in_ok-model.model c.in-Err.fault c.in_ok-model.ensures.read c.in-Err.ensures.well_formed c.in-Err.ensures.answer)

pub returns-clause-ends : goal.returns-clause-ends
returns-clause-ends g c =
    rw c.from.ensures (record { counted = λ e. dumping_failed ℕ ℕ c.in-Err.fault _ _ _ _ _ _ (c.in_ok-model.ensures.ends.counted 0 0 0).0 c.in-Err.ensures.counted e; unwritten = undumped_unwritten c.in-Err.fault _ c.in-Err.ensures.unwritten; untold = tt })
