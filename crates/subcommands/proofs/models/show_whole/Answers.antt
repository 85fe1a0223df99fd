use Rattle.std.proofs.Common.{rules, ◌≡◌, Err}
use Rattle.verbs.proofs.CountLemmas.{as_is, as_was, ends_as, handed_on, idle, unfailed, unrefused}
use Rattle.subcommands.proofs.models.show_whole.Goals as goal

pub returns-in_err-model-clause-ends : goal.returns-in_err-model-clause-ends
returns-in_err-model-clause-ends g c =
    let is : c.from_residual.result ≡ Err c.in_err-model.field-0.0 = search rules in
    ends_as as_is as_is idle as_was (handed_on is c.in_err-model.ensures.ends)

pub returns-clause-ends : goal.returns-clause-ends
returns-clause-ends g c = ends_as (unfailed (c.in_ok-model.ensures.ends.counted 0 0 0).0) as_is as_was as_was (unrefused c.write_whole.ensures.ends)
