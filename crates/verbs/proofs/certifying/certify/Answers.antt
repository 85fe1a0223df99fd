use Rattle.std.proofs.Common.{ℕ, refl, subst}
use Rattle.drup.specs.declared.judgement.Judgement.{Judgement}
use Rattle.verbs.specs.declared.refusals.Refusal.TheVariants as refusal
use Rattle.verbs.specs.Certificates.{IsCertifiedBy}
use Rattle.verbs.proofs.CertificateLemmas.{faulty_by, formless_by, never, not_certifiable}
use Rattle.verbs.proofs.CountLemmas.{all_handed_on, as_is, as_was, ends_all, ends_all_as, failed, handed_on, input_ends, no_second, unfailed}
use Rattle.verbs.proofs.certifying.certify.Goals as goal

pub returns-in_err-given-clause-second : goal.returns-in_err-given-clause-second
returns-in_err-given-clause-second g c =
    let is = failed c.from_residual.result c.in_err-given.field-0.0 c.from_residual.ensures in
    no_second _ (handed_on is c.in_err-given.ensures.ends)

pub returns-in_err-given-clause-ends : goal.returns-in_err-given-clause-ends
returns-in_err-given-clause-ends g c =
    let is = failed c.from_residual.result c.in_err-given.field-0.0 c.from_residual.ensures in
    ends_all_as as_is (unfailed refl) (unfailed refl) as_was as_was (ends_all (handed_on is c.in_err-given.ensures.ends))

pub returns-in_err-claim-clause-refused : goal.returns-in_err-claim-clause-refused
returns-in_err-claim-clause-refused g c =
    let is = failed c.from_residual-in_err-claim.result (refusal.Input c.in_err-claim.field-0.0) c.from_residual-in_err-claim.ensures in
    rw is (not_certifiable c.args.of.by c.args.of.given c.args.of.choice (g.A.Source.to_come c.args.first.now) c.in_ok-given.given.circuit c.in_err-claim.field-0.0 c.in_ok-given.ensures.given.gives c.in_err-claim.ensures.unclaimed)

pub returns-in_err-claim-clause-ends : goal.returns-in_err-claim-clause-ends
returns-in_err-claim-clause-ends g c =
    let is = failed c.from_residual-in_err-claim.result (refusal.Input c.in_err-claim.field-0.0) c.from_residual-in_err-claim.ensures in
    ends_all_as (unfailed (c.in_ok-given.ensures.ends.counted 0 0 0).0) (unfailed refl) (unfailed refl) as_was as_was (ends_all (handed_on {T = ℕ} is input_ends))

pub returns-in_err-judgement-clause-refused : goal.returns-in_err-judgement-clause-refused
returns-in_err-judgement-clause-refused g c =
    let is = failed c.from_residual-in_err-judgement.result c.in_err-judgement.field-0.0 c.from_residual-in_err-judgement.ensures in
    rw is (formless_by c.args.of.by c.args.of.given c.args.of.choice (g.A.Source.to_come c.args.first.now) c.in_ok-given.given.circuit c.in_ok-claim.claim c.in_err-judgement.field-0.0 c.in_ok-given.ensures.given.gives c.in_ok-claim.ensures.claim c.in_err-judgement.ensures.refused)

pub returns-in_err-judgement-clause-second : goal.returns-in_err-judgement-clause-second
returns-in_err-judgement-clause-second g c =
    let is = failed c.from_residual-in_err-judgement.result c.in_err-judgement.field-0.0 c.from_residual-in_err-judgement.ensures in
    rw is (faulty_by c.args.of.by c.args.of.given c.args.of.choice (g.A.Source.to_come c.args.first.now) (g.B.Source.to_come c.args.second.now) c.in_ok-given.given.numbering c.in_ok-given.given.circuit c.in_ok-claim.claim c.in_err-judgement.field-0.0 c.in_ok-given.ensures.given.gives c.in_ok-given.ensures.given.is_numbering c.in_ok-claim.ensures.claim c.in_err-judgement.ensures.second)

pub returns-in_err-judgement-clause-ends : goal.returns-in_err-judgement-clause-ends
returns-in_err-judgement-clause-ends g c =
    let is = failed c.from_residual-in_err-judgement.result c.in_err-judgement.field-0.0 c.from_residual-in_err-judgement.ensures in
    ends_all_as (unfailed (c.in_ok-given.ensures.ends.counted 0 0 0).0) as_is as_is as_was as_was (all_handed_on is c.in_err-judgement.ensures.ends)

pub returns-clause-judged : goal.returns-clause-judged
returns-clause-judged g c =
    let given = c.in_ok-given.ensures.given in
    let circuit = c.in_ok-given.given.circuit in
    let numbering = c.in_ok-given.given.numbering in
    let claim = c.in_ok-claim.claim in
    let third = g.T.Source.to_come c.args.third.now in
    let certified = c.in_ok-judgement.ensures.certified in
    record {
      given = given;
      is_claim = c.in_ok-claim.ensures.claim;
      certified = certified;
      holds = λ line is. never c.args.of.given (g.A.Source.to_come c.args.first.now) circuit given.gives claim c.bad_properties_rise_alike.ensures
          (c.certified_never_rises.ensures c.args.of.by c.args.form numbering circuit claim (g.B.Source.to_come c.args.second.now) third line (subst (λ (j : Judgement). IsCertifiedBy c.args.of.by c.args.form numbering circuit claim (g.B.Source.to_come c.args.second.now) third j) is certified));
    }

pub returns-clause-ends : goal.returns-clause-ends
returns-clause-ends g c =
    let behind = c.in_ok-judgement.ensures.ends.counted 0 0 0 in
    record { counted = λ o e. (((c.in_ok-given.ensures.ends.counted 0 0 0).0, behind.0.1, refl, refl), behind.1); unwritten = tt; unwritten_second = tt; untold = tt }
