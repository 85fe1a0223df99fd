use Rattle.std.proofs.Common.{rules, ◌≡◌, Err}
use Rattle.verbs.proofs.CountLemmas.{as_is, as_was, ends_as, handed_on, idle, unfailed, unrefused}
use Rattle.verbs.specs.Whole.{IsJudgedFitted}
use Rattle.subcommands.proofs.JudgedLemmas.{written}
use Rattle.subcommands.proofs.fitted.check_fitted.Goals as goal

pub returns-in_err-judgement-clause-ends : goal.returns-in_err-judgement-clause-ends
returns-in_err-judgement-clause-ends g c =
    let is : c.from_residual.result ≡ Err c.in_err-judgement.field-0.0 = search rules in
    ends_as as_is as_is idle as_was (handed_on is c.in_err-judgement.ensures.ends)

pub returns-clause-done : goal.returns-clause-done
returns-clause-done g c = written c.write_judgement.result (IsJudgedFitted (g.A.Source.to_come c.args.first.now) (g.B.Source.to_come c.args.second.now)) (g.O.Sink.written c.args.out.now) (g.O.Sink.written c.write_judgement.new.out) c.in_ok-judgement.judgement c.in_ok-judgement.ensures.judged c.write_judgement.ensures.written c.write_judgement.ensures.so

pub returns-clause-ends : goal.returns-clause-ends
returns-clause-ends g c =
    let before = c.in_ok-judgement.ensures.ends.counted 0 0 in
    ends_as (unfailed before.0) (unfailed before.1) as_was as_was (unrefused c.write_judgement.ensures.ends)
