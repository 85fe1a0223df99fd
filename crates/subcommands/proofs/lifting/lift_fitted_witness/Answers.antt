use Rattle.std.proofs.Common.{rules, ◌≡◌, Err}
use Rattle.verbs.proofs.CountLemmas.{as_is, as_was, ends_as, handed_on, idle, told_behind}
use Rattle.subcommands.proofs.AnswerLemmas.{tells_only}
use Rattle.subcommands.proofs.RestoreLemmas.{lifts_fitted}
use Rattle.subcommands.proofs.lifting.lift_fitted_witness.Goals as goal

pub returns-in_err-lifted-clause-ends : goal.returns-in_err-lifted-clause-ends
returns-in_err-lifted-clause-ends g c =
    let is : c.from_residual.result ≡ Err c.in_err-lifted.field-0.0 = search rules in
    ends_as as_is as_is as_was idle (handed_on is c.in_err-lifted.ensures.ends)

pub returns-clause-done : goal.returns-clause-done
returns-clause-done g c = lifts_fitted c.tell_judgement.result _ _ _ _ _ _ _ c.in_ok-lifted.lifted c.in_ok-lifted.ensures.lifted c.tell_judgement.ensures.written c.tell_judgement.ensures.so

pub returns-clause-ends : goal.returns-clause-ends
returns-clause-ends g c =
    let before = c.in_ok-lifted.ensures.ends.counted 0 in
    told_behind before.0 before.1 before.2 c.tell_judgement.ensures.ends

pub returns-clause-refused : goal.returns-clause-refused
returns-clause-refused g c = tells_only c.tell_judgement.result _ c.tell_judgement.ensures.ends.no_input
