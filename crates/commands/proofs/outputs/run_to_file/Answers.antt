use Rattle.std.proofs.Common.{◌<◌, ℕ, List, Option, Bor, inr, arith}
use Rattle.std.specs.Prelude.{option_map}
use Rattle.subcommands.specs.Refusals.{device_line, output_name}
use Rattle.commands.specs.Done.{Answers}
use Rattle.commands.proofs.FailureLemmas.{answered_by, told_or_failed}
use Rattle.commands.proofs.outputs.run_to_file.Goals as goal

pub returns-in-Err-clause-failed : goal.returns-in-Err-clause-failed
returns-in-Err-clause-failed g c = λ three.
    let few : c.run-status.result < 2 = omega (arith, c.if-status-gt-NOT_ACCEPTED.false) in
    let unfailed = c.run-status.ensures.unfailed (λ is. absurd (omega (arith, few, is))) in
    let judged : Option (List ℕ) = g.E.Sink.written c.run-status.new.err in
    let output : Option (List ℕ) = option_map (λ (name : Bor (List ℕ)). name.now) c.args.order.now.output in
    let done = answered_by (λ a. Answers c.args.order.now c.args.order.now.task a (g.A.Source.to_come c.args.first.now) (g.B.Source.to_come c.args.second.now) (g.T.Source.to_come c.args.third.now) (g.O.Sink.written c.args.out.now) (g.O.Sink.written c.run-status.new.out) (g.E.Sink.written c.args.err.now) judged)
    c.run-status.result few c.run-status.ensures.done c.run-status.ensures.not_accepted in
    inr (record {
      answer = done.0;
      judged = judged;
      reason = c.reason.result;
      answered = done.1;
      unfailed = (unfailed.0, unfailed.1, unfailed.2, unfailed.3);
      counted = c.in-Err.ensures.failures;
      line = told_or_failed c.tell_output.result judged (g.E.Sink.written c.tell_output.new.err) (device_line (output_name output) c.reason.result) (g.E.Sink.failures c.args.err.now) (g.E.Sink.failures c.run-status.new.err) (g.E.Sink.failures c.tell_output.new.err)
          unfailed.4 c.tell_output.ensures.told c.tell_output.ensures.counted;
    })
