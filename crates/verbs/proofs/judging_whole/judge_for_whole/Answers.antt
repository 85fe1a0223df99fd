use Rattle.std.proofs.Common.{ℕ, List, Bor, IfSome, Some, refl, subst}
use Rattle.std.specs.Prelude.{option_map}
use Rattle.full.specs.Lines.{FullLine}
use Rattle.fulljudge.specs.Rises.{JudgesFullWithRises}
use Rattle.spread.specs.Spread.{IsShort}
use Rattle.verbs.specs.declared.refusals.Refusal.TheVariants as refusal
use Rattle.verbs.specs.Asked.{IsNotFittedWith, is_claim_noted}
use Rattle.verbs.proofs.AskedLemmas.{claimed_whole}
use Rattle.verbs.proofs.CountLemmas.{as_is, as_was, ends_as, failed, handed_on, input_ends, unfailed}
use Rattle.verbs.proofs.WholeLemmas.{never_input, no_model_with, not_whole_with, unasked_whole}
use Rattle.verbs.proofs.judging_whole.judge_for_whole.Goals as goal

pub returns-in_err-model-clause-refused : goal.returns-in_err-model-clause-refused
returns-in_err-model-clause-refused g c =
    let is = failed c.from_residual.result c.in_err-model.field-0.0 c.from_residual.ensures in
    rw is (no_model_with (option_map (λ (word : Bor (List ℕ)). word.now) c.args.word) (Some c.args.text.now) c.in_err-model.field-0.0 c.in_err-model.ensures.no_model)

pub returns-in_err-claim-clause-refused : goal.returns-in_err-claim-clause-refused
returns-in_err-claim-clause-refused g c =
    let is = failed c.from_residual-in_err-claim.result (refusal.Input c.in_err-claim.field-0.0) c.from_residual-in_err-claim.ensures in
    rw is (unasked_whole (option_map (λ (word : Bor (List ℕ)). word.now) c.args.word) (Some c.args.text.now) c.in_ok-model.model c.in_err-claim.field-0.0 c.in_ok-model.ensures.stands c.in_err-claim.ensures.unasked)

pub returns-in_err-claim-clause-ends : goal.returns-in_err-claim-clause-ends
returns-in_err-claim-clause-ends g c =
    let is = failed c.from_residual-in_err-claim.result (refusal.Input c.in_err-claim.field-0.0) c.from_residual-in_err-claim.ensures in
    ends_as as_is (unfailed refl) as_was as_was (handed_on {T = ℕ} is input_ends)

pub returns-in_err-whole-clause-refused : goal.returns-in_err-whole-clause-refused
returns-in_err-whole-clause-refused g c =
    let is = failed c.from_residual-in_err-whole.result c.in_err-whole.field-0.0 c.from_residual-in_err-whole.ensures in
    rw is (not_whole_with (option_map (λ (word : Bor (List ℕ)). word.now) c.args.word) c.args.text.now c.in_ok-model.model c.in_err-whole.field-0.0 c.requires.not_profile c.in_ok-model.ensures.stands (rw c.model-2.ensures at c.in_err-whole.ensures.refused))

pub returns-in_err-whole-clause-ends : goal.returns-in_err-whole-clause-ends
returns-in_err-whole-clause-ends g c =
    let is = failed c.from_residual-in_err-whole.result c.in_err-whole.field-0.0 c.from_residual-in_err-whole.ensures in
    ends_as as_is (unfailed refl) as_was as_was (handed_on is c.in_err-whole.ensures.ends)

pub returns-clause-judged : goal.returns-clause-judged
returns-clause-judged g c =
    let law = c.accepted_claims_rise.ensures in
    let judged : IfSome (g.B.Source.to_come c.args.second.now) (λ text. IsShort text → JudgesFullWithRises c.in_ok-model.model text c.in_ok-judgement.judgement c.in_ok-judgement.firsts) =
    subst (λ (full : List FullLine). IfSome (g.B.Source.to_come c.args.second.now) (λ text. IsShort text → JudgesFullWithRises full text c.in_ok-judgement.judgement c.in_ok-judgement.firsts)) c.model-3.ensures c.in_ok-judgement.ensures.judged in
    record {
      claim = c.in_ok-claim.claim;
      verdict = c.in_ok-judgement.judgement;
      claimed = is_claim_noted c.in_ok-claim.claim c.in_ok-judgement.firsts;
      stands = c.in_ok-model.ensures.stands;
      asked = c.in_ok-claim.ensures.asked;
      judged = judged;
      claims = claimed_whole c.in_ok-claim.claim (option_map (λ (word : Bor (List ℕ)). word.now) c.args.word) (g.B.Source.to_come c.args.second.now) c.in_ok-model.model c.in_ok-judgement.judgement c.in_ok-judgement.firsts c.in_ok-claim.ensures.asked judged law.claimed law.others;
      outcome = c.outcome_of-outcome.ensures;
    }

pub returns-in_err-judgement-clause-refused : goal.returns-in_err-judgement-clause-refused
returns-in_err-judgement-clause-refused g c =
    let is = failed c.from_residual-in_err-judgement.result c.in_err-judgement.field-0.0 c.from_residual-in_err-judgement.ensures in
    rw is (never_input (IsNotFittedWith (option_map (λ (word : Bor (List ℕ)). word.now) c.args.word) (Some c.args.text.now)) c.in_err-judgement.field-0.0 c.in_err-judgement.ensures.refused)

pub returns-in_err-judgement-clause-ends : goal.returns-in_err-judgement-clause-ends
returns-in_err-judgement-clause-ends g c =
    let is = failed c.from_residual-in_err-judgement.result c.in_err-judgement.field-0.0 c.from_residual-in_err-judgement.ensures in
    ends_as as_is as_is as_was as_was (handed_on is c.in_err-judgement.ensures.ends)

pub returns-clause-ends : goal.returns-clause-ends
returns-clause-ends g c =
    record { counted = λ f o e. (refl, (c.in_ok-judgement.ensures.ends.counted f o e).1, refl, refl); unwritten = tt; untold = tt }
