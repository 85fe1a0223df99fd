use Rattle.std.proofs.Common.{rules, ◌≡◌, Err}
use Rattle.verbs.proofs.CountLemmas.{all_handed_on, as_is, as_was, ends_all, ends_all_as, idle, no_second, unfailed, unrefused}
use Rattle.subcommands.proofs.certifying.write_obligation.Goals as goal

pub returns-in_err-formula-clause-ends : goal.returns-in_err-formula-clause-ends
returns-in_err-formula-clause-ends g c =
    let is : c.from_residual.result ≡ Err c.in_err-formula.field-0.0 = search rules in
    ends_all_as as_is as_is as_is idle as_was (all_handed_on is c.in_err-formula.ensures.ends)

pub returns-clause-second : goal.returns-clause-second
returns-clause-second g c = no_second _ (unrefused c.write_owed.ensures.ends)

pub returns-clause-ends : goal.returns-clause-ends
returns-clause-ends g c =
    let before = c.in_ok-formula.ensures.ends.counted 0 0 0 in
    ends_all_as (unfailed before.0.0) (unfailed before.0.1) as_is as_was as_was (ends_all (unrefused c.write_owed.ensures.ends))
