use Rattle.std.proofs.Common.{ℕ, List, Bor, refl}
use Rattle.std.specs.Prelude.{option_map}
use Rattle.verbs.specs.declared.refusals.Refusal.TheVariants as refusal
use Rattle.verbs.specs.Asked.{is_claim_noted}
use Rattle.verbs.proofs.AskedLemmas.{claimed_words, each_reached, unasked_for}
use Rattle.verbs.proofs.CountLemmas.{as_was, ends_as, failed, handed_on, input_ends, judging_failed, unfailed, as_is}
use Rattle.verbs.proofs.GivenLemmas.{unjudged_for}
use Rattle.verbs.proofs.judging.judge_with_claims.Goals as goal

pub returns-in_err-claim-clause-refused : goal.returns-in_err-claim-clause-refused
returns-in_err-claim-clause-refused g c =
    let is = failed c.from_residual.result (refusal.Input c.in_err-claim.field-0.0) c.from_residual.ensures in
    rw is (unasked_for (option_map (λ (word : Bor (List ℕ)). word.now) c.args.word) c.args.model c.in_err-claim.field-0.0 c.in_err-claim.ensures.unasked)

pub returns-in_err-claim-clause-ends : goal.returns-in_err-claim-clause-ends
returns-in_err-claim-clause-ends g c =
    let is = failed c.from_residual.result (refusal.Input c.in_err-claim.field-0.0) c.from_residual.ensures in
    ends_as as_is (unfailed refl) as_was as_was (handed_on {T = ℕ} is input_ends)

pub returns-in-Ok-clause-judged : goal.returns-in-Ok-clause-judged
returns-in-Ok-clause-judged g c = (
  refl,
  λ known text. record {
    claim = c.in_ok-claim.claim;
    verdict = c.in-Ok.judgement;
    claimed = is_claim_noted c.in_ok-claim.claim c.in-Ok.firsts;
    text = text;
    well_formed = c.in-Ok.ensures.well_formed;
    each_has_next_or_is_free = c.in-Ok.ensures.answer;
    asked = c.in_ok-claim.ensures.asked;
    judged = c.in-Ok.ensures.judged;
    reached = each_reached (g.B.Source.to_come c.args.second.now) c.in-Ok.ensures.judged (λ witness. c.judged_claims_are_reached.ensures.model c.args.model witness c.in-Ok.judgement c.in-Ok.ensures.well_formed);
    claims = claimed_words c.in_ok-claim.claim (option_map (λ (word : Bor (List ℕ)). word.now) c.args.word) (g.B.Source.to_come c.args.second.now) c.args.model c.in-Ok.judgement c.in-Ok.firsts c.in-Ok.ensures.well_formed c.in_ok-claim.ensures.asked c.in-Ok.ensures.judged c.in-Ok.ensures.rises c.exactly_one_list.ensures.exists c.accepted_claims_rise.ensures.claimed c.accepted_claims_rise.ensures.others;
    rises = c.in-Ok.ensures.rises;
    outcome = c.outcome_of-outcome.ensures;
  },
)

pub returns-in-Ok-clause-ends : goal.returns-in-Ok-clause-ends
returns-in-Ok-clause-ends g c =
    record { counted = λ f o e. (refl, c.in-Ok.ensures.counted, refl, refl); unwritten = tt; untold = tt }

pub returns-in-Err-clause-refused : goal.returns-in-Err-clause-refused
returns-in-Err-clause-refused g c =
    rw c.from.ensures (unjudged_for (option_map (λ (word : Bor (List ℕ)). word.now) c.args.word) c.args.model c.in-Err.fault c.in-Err.ensures.answer)

pub returns-in-Err-clause-ends : goal.returns-in-Err-clause-ends
returns-in-Err-clause-ends g c =
    rw c.from.ensures (record { counted = λ f o e. judging_failed ℕ ℕ c.in-Err.fault f f _ _ refl c.in-Err.ensures.counted o e; unwritten = tt; untold = tt })
