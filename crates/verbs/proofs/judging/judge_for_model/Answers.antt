use Rattle.std.proofs.Common.{ℕ, List, Bor}
use Rattle.std.specs.Prelude.{option_map}
use Rattle.verbs.proofs.CountLemmas.{as_is, as_was, ends_as, unfailed}
use Rattle.verbs.proofs.GivenLemmas.{judged_for, not_judged_for}
use Rattle.verbs.proofs.judging.judge_for_model.Goals as goal

pub returns-clause-judged : goal.returns-clause-judged
returns-clause-judged g c =
    judged_for c.judge_with_claims.result (option_map (λ (word : Bor (List ℕ)). word.now) c.args.word) (g.A.Source.to_come c.args.first.now) (g.B.Source.to_come c.args.second.now) c.in_ok-model.model c.in_ok-model.ensures.read c.judge_with_claims.ensures.judged

pub returns-clause-refused : goal.returns-clause-refused
returns-clause-refused g c =
    not_judged_for c.judge_with_claims.result (option_map (λ (word : Bor (List ℕ)). word.now) c.args.word) (g.A.Source.to_come c.args.first.now) c.in_ok-model.model c.in_ok-model.ensures.read c.items.ensures.well_formed c.judge_with_claims.ensures.refused

pub returns-clause-ends : goal.returns-clause-ends
returns-clause-ends g c = ends_as (unfailed (c.in_ok-model.ensures.ends.counted 0 0 0).0) as_is as_was as_was c.judge_with_claims.ensures.ends
