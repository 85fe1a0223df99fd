use Rattle.std.proofs.Common.{ℕ, refl}
use Rattle.verbs.proofs.AskedLemmas.{each_reached}
use Rattle.verbs.proofs.CountLemmas.{judging_failed}
use Rattle.verbs.proofs.GivenLemmas.{unjudged}
use Rattle.verbs.proofs.judging.judge_over_model.Goals as goal

pub returns-in-Ok-clause-judged : goal.returns-in-Ok-clause-judged
returns-in-Ok-clause-judged g c =
    record { items = c.in_ok-model.model; text = c.in_ok-model.ensures.read; well_formed = c.in-Ok.ensures.well_formed; each_has_next_or_is_free = c.in-Ok.ensures.answer; judged = c.in-Ok.ensures.judged; reached = each_reached (g.B.Source.to_come c.args.second.now) c.in-Ok.ensures.judged (λ witness. c.judged_claims_are_reached.ensures.model c.in_ok-model.model witness c.in-Ok.judgement c.in-Ok.ensures.well_formed) }

pub returns-in-Ok-clause-ends : goal.returns-in-Ok-clause-ends
returns-in-Ok-clause-ends g c =
    record { counted = λ o e. ((c.in_ok-model.ensures.ends.counted 0 0 0).0, c.in-Ok.ensures.counted, refl, refl); unwritten = tt; untold = tt }

pub returns-clause-refused : goal.returns-clause-refused
returns-clause-refused g c =
    rw c.from.ensures (unjudged (g.A.Source.to_come c.args.first.now) c.in_ok-model.model c.in-Err.fault c.in_ok-model.ensures.read c.in-Err.ensures.well_formed c.in-Err.ensures.answer)

pub returns-clause-ends : goal.returns-clause-ends
returns-clause-ends g c =
    rw c.from.ensures (record { counted = λ o e. judging_failed ℕ ℕ c.in-Err.fault _ _ _ _ (c.in_ok-model.ensures.ends.counted 0 0 0).0 c.in-Err.ensures.counted o e; unwritten = tt; untold = tt })
