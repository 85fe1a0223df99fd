use Rattle.std.proofs.Common.{rules, ◌≡◌}
use Rattle.invocation.specs.declared.tasks.TextTask.TheVariants as text
use Rattle.subcommands.proofs.AnswerLemmas.{answered_done, answered_ends, answered_refused}
use Rattle.commands.specs.Done.{Answers}
use Rattle.commands.specs.Refusals.{RefusesTask}
use Rattle.commands.proofs.running.obey_on_text.Goals as goal

pub returns-in-Lower-clause-done : goal.returns-in-Lower-clause-done
unfolding Answers
returns-in-Lower-clause-done g c = λ second third told.
    let is : c.args.task ≡ text.Lower = search rules in
    rw (is, c.answered.ensures) (answered_done c.lower.result _ c.lower.ensures.done (λ did. did))

pub returns-in-Lower-clause-refused : goal.returns-in-Lower-clause-refused
unfolding RefusesTask
returns-in-Lower-clause-refused g c =
    let is : c.args.task ≡ text.Lower = search rules in
    rw (is, c.answered.ensures) (answered_refused c.lower.result _ c.lower.ensures.refused)

pub returns-in-Lower-clause-ends : goal.returns-in-Lower-clause-ends
returns-in-Lower-clause-ends g c = rw c.answered.ensures (answered_ends c.lower.result c.lower.ensures.ends)

pub returns-in-Fit-clause-done : goal.returns-in-Fit-clause-done
unfolding Answers
returns-in-Fit-clause-done g c = λ second third told.
    let is : c.args.task ≡ text.Fit = search rules in
    rw (is, c.answered-in-Fit.ensures) (answered_done c.fit.result _ c.fit.ensures.done (λ did. did))

pub returns-in-Fit-clause-refused : goal.returns-in-Fit-clause-refused
unfolding RefusesTask
returns-in-Fit-clause-refused g c =
    let is : c.args.task ≡ text.Fit = search rules in
    rw (is, c.answered-in-Fit.ensures) (answered_refused c.fit.result _ c.fit.ensures.refused)

pub returns-in-Fit-clause-ends : goal.returns-in-Fit-clause-ends
returns-in-Fit-clause-ends g c = rw c.answered-in-Fit.ensures (answered_ends c.fit.result c.fit.ensures.ends)
