use Rattle.std.proofs.Common.{rules, ◌≡◌, Err}
use Rattle.verbs.proofs.CountLemmas.{as_is, as_was, ends_as, handed_on, idle, told_behind}
use Rattle.verbs.specs.Whole.{IsUnfitted}
use Rattle.subcommands.proofs.JudgedLemmas.{written}
use Rattle.subcommands.proofs.fitted.unfit_witness.Goals as goal

pub returns-in_err-judgement-clause-ends : goal.returns-in_err-judgement-clause-ends
returns-in_err-judgement-clause-ends g c =
    let is : c.from_residual.result ≡ Err c.in_err-judgement.field-0.0 = search rules in
    ends_as as_is as_is as_was idle (handed_on is c.in_err-judgement.ensures.ends)

pub returns-clause-done : goal.returns-clause-done
returns-clause-done g c =
    written c.tell_line.result (IsUnfitted c.args.named (g.A.Source.to_come c.args.first.now) (g.B.Source.to_come c.args.second.now) (g.O.Sink.written c.args.out.now) (g.O.Sink.written c.unfit.new.out))
    (g.E.Sink.written c.args.err.now) (g.E.Sink.written c.tell_line.new.err) c.in_ok-judgement.judgement c.in_ok-judgement.ensures.unfitted c.tell_line.ensures.written c.tell_line.ensures.so

pub returns-clause-ends : goal.returns-clause-ends
returns-clause-ends g c =
    let before = c.in_ok-judgement.ensures.ends.counted 0 in
    told_behind before.0 before.1 before.2 c.tell_line.ensures.ends
