use Rattle.std.proofs.Common.{rules, ◌≡◌, Err, OnOk, subst}
use Rattle.std.specs.Io.KnownBytes.{Appends}
use Rattle.verbs.specs.Subjects.{Told}
use Rattle.verbs.proofs.CountLemmas.{as_is, as_was, ends_as, handed_on, idle, unfailed, unrefused}
use Rattle.subcommands.specs.Asked.{outcome_said, outcome_written}
use Rattle.subcommands.specs.Objects.{line_names}
use Rattle.subcommands.specs.Subjects.{bad_line_said, line_judged, where_named}
use Rattle.subcommands.proofs.AnswerLemmas.{tells_only}
use Rattle.subcommands.proofs.JudgedLemmas.{judged_fitted_with}
use Rattle.subcommands.proofs.fitted.check_fitted_with.Goals as goal

pub returns-in_err-judged-clause-ends : goal.returns-in_err-judged-clause-ends
returns-in_err-judged-clause-ends g c =
    let is : c.from_residual.result ≡ Err c.in_err-judged.field-0.0 = search rules in
    ends_as as_is as_is idle idle (handed_on is c.in_err-judged.ensures.ends)

pub returns-clause-done : goal.returns-clause-done
returns-clause-done g c =
    let judged = c.in_ok-judged.judged in
    let order = c.args.order.now in
    let Written : Told → Type 0 = λ told. OnOk c.answer_told.result (Appends (g.O.Sink.written c.args.out.now) (g.O.Sink.written c.answer_told.new.out) (outcome_written order.as_json (line_names told) judged.firsts judged.outcome)) in
    let Said : Told → Type 0 = λ told. OnOk c.answer_told.result (Appends (g.E.Sink.written c.args.err.now) (g.E.Sink.written c.answer_told.new.err) (where_named order.named (outcome_said (line_judged told) (bad_line_said told) judged.firsts judged.outcome))) in
    judged_fitted_with c.answer_told.result _ _ _ _ _ _ _ _ _ judged c.in_ok-judged.ensures.judged (subst Written c.lines.ensures c.answer_told.ensures.written) (subst Said c.lines.ensures c.answer_told.ensures.told) c.answer_told.ensures.so

pub returns-clause-ends : goal.returns-clause-ends
returns-clause-ends g c =
    let before = c.in_ok-judged.ensures.ends.counted 0 0 in
    ends_as (unfailed before.0) (unfailed before.1) as_was as_was (unrefused c.answer_told.ensures.ends)

pub returns-clause-refused : goal.returns-clause-refused
returns-clause-refused g c = tells_only c.answer_told.result _ c.answer_told.ensures.ends.no_input
