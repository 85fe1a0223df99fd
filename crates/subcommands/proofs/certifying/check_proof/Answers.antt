use Rattle.std.proofs.Common.{rules, ◌≡◌, ℕ, List, Err, OnOk, subst}
use Rattle.std.specs.Io.KnownBytes.{Appends}
use Rattle.subcommands.specs.Certificates.{verdict_written}
use Rattle.subcommands.specs.Subjects.{holds_said, where_named}
use Rattle.std.specs.Io.KnownBytes.{Appends}
use Rattle.subcommands.specs.Certificates.{verdict_written}
use Rattle.subcommands.specs.Subjects.{holds_said, where_named}
use Rattle.verbs.proofs.CountLemmas.{all_handed_on, as_is, as_was, ends_all, ends_all_as, idle, no_second, unfailed, unrefused}
use Rattle.subcommands.proofs.AnswerLemmas.{tells_only}
use Rattle.subcommands.proofs.CertificateLemmas.{certified}
use Rattle.subcommands.proofs.certifying.check_proof.Goals as goal

pub returns-in_err-judged-clause-ends : goal.returns-in_err-judged-clause-ends
returns-in_err-judged-clause-ends g c =
    let is : c.from_residual.result ≡ Err c.in_err-judged.field-0.0 = search rules in
    ends_all_as as_is as_is as_is idle idle (all_handed_on is c.in_err-judged.ensures.ends)

pub returns-clause-done : goal.returns-clause-done
returns-clause-done g c =
    let judged = c.in_ok-judged.judged in
    let order = c.args.order.now in
    let before = g.O.Sink.written c.args.out.now in
    let now = g.O.Sink.written c.tell_verdict.new.out in
    let told = g.E.Sink.written c.args.err.now in
    let told' = g.E.Sink.written c.tell_verdict.new.err in
    let Written : List ℕ → Type 0 = λ what. OnOk c.tell_verdict.result (Appends before now (verdict_written order.as_json what judged.claim judged.judgement)) in
    let Said : List ℕ → Type 0 = λ what. OnOk c.tell_verdict.result (Appends told told' (where_named order.named (holds_said judged.judgement what))) in
    certified order.named order.as_json c.tell_verdict.result c.args.of c.args.form (g.A.Source.to_come c.args.first.now) (g.B.Source.to_come c.args.second.now) (g.T.Source.to_come c.args.third.now) before now told told' judged
    c.in_ok-judged.ensures.judged (subst Written (c.subject_of-subject.ensures.names judged.claim) c.tell_verdict.ensures.written) (subst Said (c.subject_of-subject.ensures.says judged.claim) c.tell_verdict.ensures.told) c.tell_verdict.ensures.so

pub returns-clause-second : goal.returns-clause-second
returns-clause-second g c = no_second _ (unrefused c.tell_verdict.ensures.ends)

pub returns-clause-ends : goal.returns-clause-ends
returns-clause-ends g c =
    let before = c.in_ok-judged.ensures.ends.counted 0 0 in
    ends_all_as (unfailed before.0.0) (unfailed before.0.1) (unfailed before.1) as_was as_was (ends_all (unrefused c.tell_verdict.ensures.ends))

pub returns-clause-refused : goal.returns-clause-refused
returns-clause-refused g c = tells_only c.tell_verdict.result _ c.tell_verdict.ensures.ends.no_input
