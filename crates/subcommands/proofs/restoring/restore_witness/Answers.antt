use Rattle.std.proofs.Common.{rules, ◌≡◌, Err}
use Rattle.verbs.proofs.CountLemmas.{as_is, as_was, ends_as, handed_on, idle, told_behind}
use Rattle.subcommands.proofs.RestoreLemmas.{restores_form}
use Rattle.subcommands.proofs.restoring.restore_witness.Goals as goal

pub returns-in_err-restored-clause-ends : goal.returns-in_err-restored-clause-ends
returns-in_err-restored-clause-ends g c =
    let is : c.from_residual.result ≡ Err c.in_err-restored.field-0.0 = search rules in
    ends_as as_is as_is as_was idle (handed_on is c.in_err-restored.ensures.ends)

pub returns-clause-done : goal.returns-clause-done
returns-clause-done g c =
    restores_form c.tell_form_line.result _ _ _ _ _ _ _ c.in_ok-restored.restored c.in_ok-restored.ensures.restored (rw c.bads-count.ensures.items at c.tell_form_line.ensures.written) c.tell_form_line.ensures.so

pub returns-clause-ends : goal.returns-clause-ends
returns-clause-ends g c =
    let before = c.in_ok-restored.ensures.ends.counted 0 in
    told_behind before.0 before.1 before.2 c.tell_form_line.ensures.ends
