use Rattle.std.proofs.Common.{rules, ◌≡◌, refl}
use Rattle.invocation.specs.declared.tasks.Language.TheVariants as language
use Rattle.invocation.specs.declared.tasks.ModelTask.TheVariants as model
use Rattle.verbs.proofs.CountLemmas.{as_is, as_was, ends_as, idle, unfailed}
use Rattle.subcommands.proofs.AnswerLemmas.{answered_done, answered_ends, answered_refused}
use Rattle.commands.specs.Done.{Answers, is_quiet}
use Rattle.commands.specs.Refusals.{RefusesTask}
use Rattle.commands.proofs.TaskLemmas.{done_so, not_named}
use Rattle.commands.proofs.running.obey_on_model.Goals as goal

pub returns-in-LowerForEngines-clause-done : goal.returns-in-LowerForEngines-clause-done
unfolding Answers
returns-in-LowerForEngines-clause-done g c = λ third.
    let is : c.args.task ≡ (model.LowerForEngines c.in-LowerForEngines.choice) = search rules in
    rw (is, c.answered.ensures) (answered_done c.lower_for_engines.result _ c.lower_for_engines.ensures.done (λ did. did))

pub returns-in-LowerForEngines-clause-refused : goal.returns-in-LowerForEngines-clause-refused
unfolding RefusesTask
returns-in-LowerForEngines-clause-refused g c =
    let is : c.args.task ≡ (model.LowerForEngines c.in-LowerForEngines.choice) = search rules in
    rw (is, c.answered.ensures) (answered_refused c.lower_for_engines.result _ c.lower_for_engines.ensures.refused)

pub returns-in-LowerForEngines-clause-ends : goal.returns-in-LowerForEngines-clause-ends
returns-in-LowerForEngines-clause-ends g c = rw c.answered.ensures (ends_as as_is (unfailed refl) as_was idle (answered_ends c.lower_for_engines.result c.lower_for_engines.ensures.ends))

pub returns-in-CheckBtor-clause-done : goal.returns-in-CheckBtor-clause-done
returns-in-CheckBtor-clause-done g c = λ third.
    let is : c.args.task ≡ model.CheckBtor = search rules in
    rw is (c.judge_on_model.ensures.done third)

pub returns-in-CheckBtor-clause-refused : goal.returns-in-CheckBtor-clause-refused
returns-in-CheckBtor-clause-refused g c =
    let is : c.args.task ≡ model.CheckBtor = search rules in
    rw is c.judge_on_model.ensures.refused

pub returns-in-CheckBtor-clause-quiet : goal.returns-in-CheckBtor-clause-quiet
unfolding is_quiet
returns-in-CheckBtor-clause-quiet g c = λ quiet.
    let is : c.args.task ≡ model.CheckBtor = search rules in
    c.judge_on_model.ensures.quiet (not_named c.args.order.now.named (rw is at quiet))

pub returns-in-Show-clause-done : goal.returns-in-Show-clause-done
unfolding Answers
returns-in-Show-clause-done g c = λ third.
    let is : c.args.task ≡ model.Show = search rules in
    rw is (done_so c.show.result _ c.show.ensures.done c.show.ensures.answer (λ did. did))

pub returns-in-Show-clause-ends : goal.returns-in-Show-clause-ends
returns-in-Show-clause-ends g c = ends_as as_is (unfailed refl) as_was idle c.show.ensures.ends

pub returns-in-ShowWhole-clause-done : goal.returns-in-ShowWhole-clause-done
unfolding Answers
returns-in-ShowWhole-clause-done g c = λ third.
    let is : c.args.task ≡ model.ShowWhole = search rules in
    rw is (done_so c.show_whole.result _ c.show_whole.ensures.done c.show_whole.ensures.answer (λ did. did))

pub returns-in-ShowWhole-clause-ends : goal.returns-in-ShowWhole-clause-ends
returns-in-ShowWhole-clause-ends g c = ends_as as_is (unfailed refl) as_was idle c.show_whole.ensures.ends

pub returns-in-Cost-clause-done : goal.returns-in-Cost-clause-done
unfolding Answers
returns-in-Cost-clause-done g c = λ third.
    let is : c.args.task ≡ model.Cost = search rules in
    rw is (done_so c.tell_cost.result _ c.tell_cost.ensures.done c.tell_cost.ensures.answer (λ did. did))

pub returns-in-Cost-clause-ends : goal.returns-in-Cost-clause-ends
returns-in-Cost-clause-ends g c = ends_as as_is (unfailed refl) as_was idle c.tell_cost.ensures.ends

pub returns-in-Lift-Profile-clause-done : goal.returns-in-Lift-Profile-clause-done
unfolding Answers
returns-in-Lift-Profile-clause-done g c = λ third.
    let is : c.args.task ≡ (model.Lift language.Profile) = search rules in
    rw is c.lift_witness.ensures.done

pub returns-in-Lift-Profile-clause-refused : goal.returns-in-Lift-Profile-clause-refused
unfolding RefusesTask
returns-in-Lift-Profile-clause-refused g c =
    let is : c.args.task ≡ (model.Lift language.Profile) = search rules in
    rw is c.lift_witness.ensures.refused

pub returns-in-LiftFound-Profile-default-clause-done : goal.returns-in-LiftFound-Profile-default-clause-done
unfolding Answers
returns-in-LiftFound-Profile-default-clause-done g c = λ third.
    let is : c.args.task ≡ (model.LiftFound language.Profile c.in-LiftFound-Profile-default.choice) = search rules in
    rw is c.lift_counterexample.ensures.done

pub returns-in-LiftFound-Profile-default-clause-refused : goal.returns-in-LiftFound-Profile-default-clause-refused
unfolding RefusesTask
returns-in-LiftFound-Profile-default-clause-refused g c =
    let is : c.args.task ≡ (model.LiftFound language.Profile c.in-LiftFound-Profile-default.choice) = search rules in
    rw is c.lift_counterexample.ensures.refused

pub returns-in-LiftForm-Profile-default-clause-done : goal.returns-in-LiftForm-Profile-default-clause-done
unfolding Answers
returns-in-LiftForm-Profile-default-clause-done g c = λ third.
    let is : c.args.task ≡ (model.LiftForm language.Profile c.in-LiftForm-Profile-default.choice) = search rules in
    rw is c.lift_form_witness.ensures.done

pub returns-in-LiftForm-Profile-default-clause-refused : goal.returns-in-LiftForm-Profile-default-clause-refused
unfolding RefusesTask
returns-in-LiftForm-Profile-default-clause-refused g c =
    let is : c.args.task ≡ (model.LiftForm language.Profile c.in-LiftForm-Profile-default.choice) = search rules in
    rw is c.lift_form_witness.ensures.refused

pub returns-in-Lift-Whole-clause-done : goal.returns-in-Lift-Whole-clause-done
unfolding Answers
returns-in-Lift-Whole-clause-done g c = λ third.
    let is : c.args.task ≡ (model.Lift language.Whole) = search rules in
    rw is c.lift_fitted_witness.ensures.done

pub returns-in-Lift-Whole-clause-refused : goal.returns-in-Lift-Whole-clause-refused
unfolding RefusesTask
returns-in-Lift-Whole-clause-refused g c =
    let is : c.args.task ≡ (model.Lift language.Whole) = search rules in
    rw is c.lift_fitted_witness.ensures.refused

pub returns-in-LiftFound-Whole-default-clause-done : goal.returns-in-LiftFound-Whole-default-clause-done
unfolding Answers
returns-in-LiftFound-Whole-default-clause-done g c = λ third.
    let is : c.args.task ≡ (model.LiftFound language.Whole c.in-LiftFound-Whole-default.choice) = search rules in
    rw is c.lift_fitted_counterexample.ensures.done

pub returns-in-LiftFound-Whole-default-clause-refused : goal.returns-in-LiftFound-Whole-default-clause-refused
unfolding RefusesTask
returns-in-LiftFound-Whole-default-clause-refused g c =
    let is : c.args.task ≡ (model.LiftFound language.Whole c.in-LiftFound-Whole-default.choice) = search rules in
    rw is c.lift_fitted_counterexample.ensures.refused

pub returns-in-LiftForm-Whole-default-clause-done : goal.returns-in-LiftForm-Whole-default-clause-done
unfolding Answers
returns-in-LiftForm-Whole-default-clause-done g c = λ third.
    let is : c.args.task ≡ (model.LiftForm language.Whole c.in-LiftForm-Whole-default.choice) = search rules in
    rw is c.lift_fitted_form_witness.ensures.done

pub returns-in-LiftForm-Whole-default-clause-refused : goal.returns-in-LiftForm-Whole-default-clause-refused
unfolding RefusesTask
returns-in-LiftForm-Whole-default-clause-refused g c =
    let is : c.args.task ≡ (model.LiftForm language.Whole c.in-LiftForm-Whole-default.choice) = search rules in
    rw is c.lift_fitted_form_witness.ensures.refused

pub returns-in-Wave-clause-done : goal.returns-in-Wave-clause-done
unfolding Answers
returns-in-Wave-clause-done g c = λ third.
    let is : c.args.task ≡ (model.Wave c.in-Wave.shown) = search rules in
    rw is c.dump_witness.ensures.done

pub returns-in-Wave-clause-refused : goal.returns-in-Wave-clause-refused
unfolding RefusesTask
returns-in-Wave-clause-refused g c =
    let is : c.args.task ≡ (model.Wave c.in-Wave.shown) = search rules in
    rw is c.dump_witness.ensures.refused

pub returns-in-CheckFitted-clause-done : goal.returns-in-CheckFitted-clause-done
unfolding Answers
returns-in-CheckFitted-clause-done g c = λ third.
    let is : c.args.task ≡ model.CheckFitted = search rules in
    rw is (c.judge_on_fitted.ensures.done third)

pub returns-in-CheckFitted-clause-refused : goal.returns-in-CheckFitted-clause-refused
unfolding RefusesTask
returns-in-CheckFitted-clause-refused g c =
    let is : c.args.task ≡ model.CheckFitted = search rules in
    rw is c.judge_on_fitted.ensures.refused

pub returns-in-CheckFitted-clause-quiet : goal.returns-in-CheckFitted-clause-quiet
unfolding is_quiet
returns-in-CheckFitted-clause-quiet g c = λ quiet.
    let is : c.args.task ≡ model.CheckFitted = search rules in
    c.judge_on_fitted.ensures.quiet (not_named c.args.order.now.named (rw is at quiet))

pub returns-in-Unfit-clause-done : goal.returns-in-Unfit-clause-done
unfolding Answers
returns-in-Unfit-clause-done g c = λ third.
    let is : c.args.task ≡ model.Unfit = search rules in
    rw is c.unfit_witness.ensures.done

pub returns-in-Unfit-clause-refused : goal.returns-in-Unfit-clause-refused
unfolding RefusesTask
returns-in-Unfit-clause-refused g c =
    let is : c.args.task ≡ model.Unfit = search rules in
    rw is c.unfit_witness.ensures.refused

pub returns-in-Spread-clause-done : goal.returns-in-Spread-clause-done
unfolding Answers
returns-in-Spread-clause-done g c = λ third.
    let is : c.args.task ≡ model.Spread = search rules in
    rw is c.spread_witness.ensures.done

pub returns-in-Spread-clause-refused : goal.returns-in-Spread-clause-refused
unfolding RefusesTask
returns-in-Spread-clause-refused g c =
    let is : c.args.task ≡ model.Spread = search rules in
    rw is c.spread_witness.ensures.refused

pub returns-in-LowerFitted-clause-done : goal.returns-in-LowerFitted-clause-done
unfolding Answers
returns-in-LowerFitted-clause-done g c = λ third.
    let is : c.args.task ≡ model.LowerFitted = search rules in
    rw (is, c.answered-in-LowerFitted.ensures) (answered_done c.lower_fitted.result _ c.lower_fitted.ensures.done (λ did. did))

pub returns-in-LowerFitted-clause-refused : goal.returns-in-LowerFitted-clause-refused
unfolding RefusesTask
returns-in-LowerFitted-clause-refused g c =
    let is : c.args.task ≡ model.LowerFitted = search rules in
    rw (is, c.answered-in-LowerFitted.ensures) (answered_refused c.lower_fitted.result _ c.lower_fitted.ensures.refused)

pub returns-in-LowerFitted-clause-ends : goal.returns-in-LowerFitted-clause-ends
returns-in-LowerFitted-clause-ends g c = rw c.answered-in-LowerFitted.ensures (ends_as as_is (unfailed refl) as_was idle (answered_ends c.lower_fitted.result c.lower_fitted.ensures.ends))

pub returns-in-LowerFittedForEngines-clause-done : goal.returns-in-LowerFittedForEngines-clause-done
unfolding Answers
returns-in-LowerFittedForEngines-clause-done g c = λ third.
    let is : c.args.task ≡ (model.LowerFittedForEngines c.in-LowerFittedForEngines.choice) = search rules in
    rw (is, c.answered-in-LowerFittedForEngines.ensures) (answered_done c.lower_fitted_for_engines.result _ c.lower_fitted_for_engines.ensures.done (λ did. did))

pub returns-in-LowerFittedForEngines-clause-refused : goal.returns-in-LowerFittedForEngines-clause-refused
unfolding RefusesTask
returns-in-LowerFittedForEngines-clause-refused g c =
    let is : c.args.task ≡ (model.LowerFittedForEngines c.in-LowerFittedForEngines.choice) = search rules in
    rw (is, c.answered-in-LowerFittedForEngines.ensures) (answered_refused c.lower_fitted_for_engines.result _ c.lower_fitted_for_engines.ensures.refused)

pub returns-in-LowerFittedForEngines-clause-ends : goal.returns-in-LowerFittedForEngines-clause-ends
returns-in-LowerFittedForEngines-clause-ends g c = rw c.answered-in-LowerFittedForEngines.ensures (ends_as as_is (unfailed refl) as_was idle (answered_ends c.lower_fitted_for_engines.result c.lower_fitted_for_engines.ensures.ends))

pub returns-in-CostFitted-clause-done : goal.returns-in-CostFitted-clause-done
unfolding Answers
returns-in-CostFitted-clause-done g c = λ third.
    let is : c.args.task ≡ model.CostFitted = search rules in
    rw is (done_so c.tell_cost_fitted.result _ c.tell_cost_fitted.ensures.done c.tell_cost_fitted.ensures.answer (λ did. did))

pub returns-in-CostFitted-clause-ends : goal.returns-in-CostFitted-clause-ends
returns-in-CostFitted-clause-ends g c = ends_as as_is (unfailed refl) as_was idle c.tell_cost_fitted.ensures.ends
