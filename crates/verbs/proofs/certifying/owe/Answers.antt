use Rattle.std.proofs.Common.{ℕ, refl}
use Rattle.verbs.specs.declared.refusals.Refusal.TheVariants as refusal
use Rattle.verbs.specs.Refusals.{IsFaultyBy, IsFaultyCertificate, IsNotCertifiable, IsWithoutFormBy}
use Rattle.verbs.specs.Statuses.{IfInput, IfSecond}
use Rattle.verbs.proofs.CertificateLemmas.{faulty_by, formless_by, not_certifiable, owed_so}
use Rattle.verbs.proofs.CountLemmas.{as_is, as_was, ends_all, ends_all_as, failed, handed_on, input_ends, no_second, unfailed}
use Rattle.verbs.proofs.GivenLemmas.{where_failed}
use Rattle.verbs.proofs.certifying.owe.Goals as goal

pub returns-in_err-given-clause-second : goal.returns-in_err-given-clause-second
returns-in_err-given-clause-second g c =
    let is = failed c.from_residual.result c.in_err-given.field-0.0 c.from_residual.ensures in
    no_second _ (handed_on is c.in_err-given.ensures.ends)

pub returns-in_err-given-clause-ends : goal.returns-in_err-given-clause-ends
returns-in_err-given-clause-ends g c =
    let is = failed c.from_residual.result c.in_err-given.field-0.0 c.from_residual.ensures in
    ends_all_as as_is (unfailed refl) as_is as_was as_was (ends_all (handed_on is c.in_err-given.ensures.ends))

pub returns-in_err-claim-clause-refused : goal.returns-in_err-claim-clause-refused
returns-in_err-claim-clause-refused g c =
    let is = failed c.from_residual-in_err-claim.result (refusal.Input c.in_err-claim.field-0.0) c.from_residual-in_err-claim.ensures in
    rw is (not_certifiable c.args.of.by c.args.of.given c.args.of.choice (g.A.Source.to_come c.args.first.now) c.in_ok-given.given.circuit c.in_err-claim.field-0.0 c.in_ok-given.ensures.given.gives c.in_err-claim.ensures.unclaimed)

pub returns-in_err-claim-clause-ends : goal.returns-in_err-claim-clause-ends
returns-in_err-claim-clause-ends g c =
    let is = failed c.from_residual-in_err-claim.result (refusal.Input c.in_err-claim.field-0.0) c.from_residual-in_err-claim.ensures in
    ends_all_as (unfailed (c.in_ok-given.ensures.ends.counted 0 0 0).0) (unfailed refl) as_is as_was as_was (ends_all (handed_on {T = ℕ} is input_ends))

pub returns-clause-owed : goal.returns-clause-owed
returns-clause-owed g c = owed_so c.owed.result c.args.of (g.A.Source.to_come c.args.first.now) (g.B.Source.to_come c.args.second.now) c.in_ok-given.given.numbering c.in_ok-given.given.circuit c.in_ok-claim.claim c.in_ok-given.ensures.given.gives c.in_ok-given.ensures.given.is_numbering c.in_ok-claim.ensures.claim c.owed.ensures.owed

pub returns-clause-refused : goal.returns-clause-refused
returns-clause-refused g c =
    where_failed c.owed.result (IfInput (IsWithoutFormBy c.args.of.by c.in_ok-given.given.circuit c.in_ok-claim.claim)) (IfInput (IsNotCertifiable c.args.of.by c.args.of.given c.args.of.choice (g.A.Source.to_come c.args.first.now)))
    (λ x. formless_by c.args.of.by c.args.of.given c.args.of.choice (g.A.Source.to_come c.args.first.now) c.in_ok-given.given.circuit c.in_ok-claim.claim x c.in_ok-given.ensures.given.gives c.in_ok-claim.ensures.claim) c.owed.ensures.refused

pub returns-clause-second : goal.returns-clause-second
returns-clause-second g c =
    where_failed c.owed.result (IfSecond (IsFaultyBy c.args.of.by c.in_ok-given.given.numbering c.in_ok-given.given.circuit c.in_ok-claim.claim (g.B.Source.to_come c.args.second.now))) (IfSecond (IsFaultyCertificate c.args.of.by c.args.of.given c.args.of.choice (g.A.Source.to_come c.args.first.now) (g.B.Source.to_come c.args.second.now)))
    (λ x. faulty_by c.args.of.by c.args.of.given c.args.of.choice (g.A.Source.to_come c.args.first.now) (g.B.Source.to_come c.args.second.now) c.in_ok-given.given.numbering c.in_ok-given.given.circuit c.in_ok-claim.claim x c.in_ok-given.ensures.given.gives c.in_ok-given.ensures.given.is_numbering c.in_ok-claim.ensures.claim) c.owed.ensures.second

pub returns-clause-ends : goal.returns-clause-ends
returns-clause-ends g c = ends_all_as (unfailed (c.in_ok-given.ensures.ends.counted 0 0 0).0) as_is as_is as_was as_was c.owed.ensures.ends
