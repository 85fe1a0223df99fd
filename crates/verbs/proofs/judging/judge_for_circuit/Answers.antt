use Rattle.std.proofs.Common.{ℕ, List, Bor, refl}
use Rattle.std.specs.Prelude.{option_map}
use Rattle.verbs.specs.declared.refusals.Refusal.TheVariants as refusal
use Rattle.verbs.specs.Asked.{is_claim_noted}
use Rattle.verbs.proofs.AskedLemmas.{claimed_bits, each_reached}
use Rattle.verbs.proofs.CountLemmas.{as_was, ends_as, failed, handed_on, input_ends, judging_failed, unfailed}
use Rattle.verbs.proofs.judging.judge_for_circuit.Goals as goal

pub returns-in_err-claim-clause-ends : goal.returns-in_err-claim-clause-ends
returns-in_err-claim-clause-ends g c =
    let is = failed c.from_residual-in_err-claim.result (refusal.Input c.in_err-claim.field-0.0) c.from_residual-in_err-claim.ensures in
    ends_as (unfailed (c.in_ok-circuit.ensures.ends.counted 0 0 0).0) (unfailed refl) as_was as_was (handed_on {T = ℕ} is input_ends)

pub returns-in_err-claimable-clause-ends : goal.returns-in_err-claimable-clause-ends
returns-in_err-claimable-clause-ends g c =
    let is = failed c.from_residual-in_err-claimable.result c.in_err-claimable.field-0.0 c.from_residual-in_err-claimable.ensures in
    ends_as (unfailed (c.in_ok-circuit.ensures.ends.counted 0 0 0).0) (unfailed refl) as_was as_was (handed_on is c.in_err-claimable.ensures.ends)

pub returns-in-Ok-clause-judged : goal.returns-in-Ok-clause-judged
returns-in-Ok-clause-judged g c =
    record {
      claim = c.in_ok-claim.claim;
      verdict = c.in-Ok.judgement;
      claimed = is_claim_noted c.in_ok-claim.claim c.in-Ok.firsts;
      is_circuit = c.inputs.ensures.valid;
      text = c.in_ok-circuit.ensures.read;
      claimable = c.in_ok-claimable.ensures.claimable;
      asked = c.in_ok-claim.ensures.asked;
      judged = c.in-Ok.ensures.judged;
      reached = each_reached (g.B.Source.to_come c.args.second.now) c.in-Ok.ensures.judged (λ witness. c.judged_claims_are_reached.ensures.circuit c.in_ok-circuit.circuit witness c.in-Ok.judgement c.inputs.ensures.valid);
      claims = claimed_bits c.in_ok-claim.claim (option_map (λ (word : Bor (List ℕ)). word.now) c.args.word) (g.B.Source.to_come c.args.second.now) c.in_ok-circuit.circuit c.in-Ok.judgement c.in-Ok.firsts c.inputs.ensures.valid c.in_ok-claim.ensures.asked c.in-Ok.ensures.judged c.in-Ok.ensures.rises c.exactly_one_bit_list.ensures.exists c.accepted_bit_claims_rise.ensures.claimed c.accepted_bit_claims_rise.ensures.others;
      rises = c.in-Ok.ensures.rises;
      outcome = c.outcome_of-outcome.ensures;
    }

pub returns-in-Ok-clause-ends : goal.returns-in-Ok-clause-ends
returns-in-Ok-clause-ends g c =
    record { counted = λ o e. ((c.in_ok-circuit.ensures.ends.counted 0 0 0).0, c.in-Ok.ensures.counted, refl, refl); unwritten = tt; untold = tt }

pub returns-in-Err-clause-ends : goal.returns-in-Err-clause-ends
returns-in-Err-clause-ends g c =
    rw c.from.ensures (record { counted = λ o e. judging_failed ℕ ℕ c.in-Err.fault _ _ _ _ (c.in_ok-circuit.ensures.ends.counted 0 0 0).0 c.in-Err.ensures.counted o e; unwritten = tt; untold = tt })
