use Rattle.std.proofs.Common.{rules, ◌≡◌, refl}
use Rattle.invocation.specs.declared.tasks.CircuitTask.TheVariants as circuit
use Rattle.verbs.proofs.CountLemmas.{as_is, as_was, ends_as, idle, unfailed}
use Rattle.subcommands.proofs.AnswerLemmas.{answered_done, answered_ends, answered_refused}
use Rattle.commands.specs.Done.{Answers, is_quiet}
use Rattle.commands.specs.Refusals.{RefusesTask}
use Rattle.commands.proofs.TaskLemmas.{not_named}
use Rattle.commands.proofs.running.obey_on_circuit.Goals as goal

pub returns-in-AigConvert-clause-done : goal.returns-in-AigConvert-clause-done
unfolding Answers
returns-in-AigConvert-clause-done g c = λ third.
    let is : c.args.task ≡ circuit.AigConvert = search rules in
    rw (is, c.answered.ensures) (answered_done c.convert.result _ c.convert.ensures.done (λ did. did))

pub returns-in-AigConvert-clause-refused : goal.returns-in-AigConvert-clause-refused
unfolding RefusesTask
returns-in-AigConvert-clause-refused g c =
    let is : c.args.task ≡ circuit.AigConvert = search rules in
    rw (is, c.answered.ensures) (answered_refused c.convert.result _ c.convert.ensures.refused)

pub returns-in-AigConvert-clause-ends : goal.returns-in-AigConvert-clause-ends
returns-in-AigConvert-clause-ends g c = rw c.answered.ensures (ends_as as_is (unfailed refl) as_was idle (answered_ends c.convert.result c.convert.ensures.ends))

pub returns-in-ConvertForEngines-clause-done : goal.returns-in-ConvertForEngines-clause-done
unfolding Answers
returns-in-ConvertForEngines-clause-done g c = λ third.
    let is : c.args.task ≡ (circuit.ConvertForEngines c.in-ConvertForEngines.choice) = search rules in
    rw (is, c.answered-in-ConvertForEngines.ensures) (answered_done c.convert_for_engines.result _ c.convert_for_engines.ensures.done (λ did. did))

pub returns-in-ConvertForEngines-clause-refused : goal.returns-in-ConvertForEngines-clause-refused
unfolding RefusesTask
returns-in-ConvertForEngines-clause-refused g c =
    let is : c.args.task ≡ (circuit.ConvertForEngines c.in-ConvertForEngines.choice) = search rules in
    rw (is, c.answered-in-ConvertForEngines.ensures) (answered_refused c.convert_for_engines.result _ c.convert_for_engines.ensures.refused)

pub returns-in-ConvertForEngines-clause-ends : goal.returns-in-ConvertForEngines-clause-ends
returns-in-ConvertForEngines-clause-ends g c = rw c.answered-in-ConvertForEngines.ensures (ends_as as_is (unfailed refl) as_was idle (answered_ends c.convert_for_engines.result c.convert_for_engines.ensures.ends))

pub returns-in-ConvertOutputs-clause-done : goal.returns-in-ConvertOutputs-clause-done
unfolding Answers
returns-in-ConvertOutputs-clause-done g c = λ third.
    let is : c.args.task ≡ circuit.ConvertOutputs = search rules in
    rw (is, c.answered-in-ConvertOutputs.ensures) (answered_done c.convert_outputs.result _ c.convert_outputs.ensures.done (λ did. did))

pub returns-in-ConvertOutputs-clause-refused : goal.returns-in-ConvertOutputs-clause-refused
unfolding RefusesTask
returns-in-ConvertOutputs-clause-refused g c =
    let is : c.args.task ≡ circuit.ConvertOutputs = search rules in
    rw (is, c.answered-in-ConvertOutputs.ensures) (answered_refused c.convert_outputs.result _ c.convert_outputs.ensures.refused)

pub returns-in-ConvertOutputs-clause-ends : goal.returns-in-ConvertOutputs-clause-ends
returns-in-ConvertOutputs-clause-ends g c = rw c.answered-in-ConvertOutputs.ensures (ends_as as_is (unfailed refl) as_was idle (answered_ends c.convert_outputs.result c.convert_outputs.ensures.ends))

pub returns-in-ConvertOutputsForEngines-clause-done : goal.returns-in-ConvertOutputsForEngines-clause-done
unfolding Answers
returns-in-ConvertOutputsForEngines-clause-done g c = λ third.
    let is : c.args.task ≡ (circuit.ConvertOutputsForEngines c.in-ConvertOutputsForEngines.choice) = search rules in
    rw (is, c.answered-in-ConvertOutputsForEngines.ensures) (answered_done c.convert_outputs_for_engines.result _ c.convert_outputs_for_engines.ensures.done (λ did. did))

pub returns-in-ConvertOutputsForEngines-clause-refused : goal.returns-in-ConvertOutputsForEngines-clause-refused
unfolding RefusesTask
returns-in-ConvertOutputsForEngines-clause-refused g c =
    let is : c.args.task ≡ (circuit.ConvertOutputsForEngines c.in-ConvertOutputsForEngines.choice) = search rules in
    rw (is, c.answered-in-ConvertOutputsForEngines.ensures) (answered_refused c.convert_outputs_for_engines.result _ c.convert_outputs_for_engines.ensures.refused)

pub returns-in-ConvertOutputsForEngines-clause-ends : goal.returns-in-ConvertOutputsForEngines-clause-ends
returns-in-ConvertOutputsForEngines-clause-ends g c = rw c.answered-in-ConvertOutputsForEngines.ensures (ends_as as_is (unfailed refl) as_was idle (answered_ends c.convert_outputs_for_engines.result c.convert_outputs_for_engines.ensures.ends))

pub returns-in-CheckAig-clause-done : goal.returns-in-CheckAig-clause-done
returns-in-CheckAig-clause-done g c = λ third.
    let is : c.args.task ≡ circuit.CheckAig = search rules in
    rw is (c.judge_on_circuit.ensures.done third)

pub returns-in-CheckAig-clause-refused : goal.returns-in-CheckAig-clause-refused
returns-in-CheckAig-clause-refused g c =
    let is : c.args.task ≡ circuit.CheckAig = search rules in
    rw is c.judge_on_circuit.ensures.refused

pub returns-in-CheckAig-clause-quiet : goal.returns-in-CheckAig-clause-quiet
unfolding is_quiet
returns-in-CheckAig-clause-quiet g c = λ quiet.
    let is : c.args.task ≡ circuit.CheckAig = search rules in
    c.judge_on_circuit.ensures.quiet (not_named c.args.order.now.named (rw is at quiet))

pub returns-in-Restore-clause-done : goal.returns-in-Restore-clause-done
unfolding Answers
returns-in-Restore-clause-done g c = λ third.
    let is : c.args.task ≡ (circuit.Restore c.in-Restore.choice) = search rules in
    rw is c.restore_counterexample.ensures.done

pub returns-in-Restore-clause-refused : goal.returns-in-Restore-clause-refused
unfolding RefusesTask
returns-in-Restore-clause-refused g c =
    let is : c.args.task ≡ (circuit.Restore c.in-Restore.choice) = search rules in
    rw is c.restore_counterexample.ensures.refused

pub returns-in-RestoreForm-clause-done : goal.returns-in-RestoreForm-clause-done
unfolding Answers
returns-in-RestoreForm-clause-done g c = λ third.
    let is : c.args.task ≡ (circuit.RestoreForm c.in-RestoreForm.choice) = search rules in
    rw is c.restore_witness.ensures.done

pub returns-in-RestoreForm-clause-refused : goal.returns-in-RestoreForm-clause-refused
unfolding RefusesTask
returns-in-RestoreForm-clause-refused g c =
    let is : c.args.task ≡ (circuit.RestoreForm c.in-RestoreForm.choice) = search rules in
    rw is c.restore_witness.ensures.refused
