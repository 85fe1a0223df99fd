use Rattle.std.proofs.Common.{ap}
use Rattle.base.specs.Shown.{Shown}
use Rattle.engine_form.proofs.OutputLemmas.{initial_after, initial_before, trace_after, trace_before, shows, bad_bit, output_shown, bad_rises_after, bad_rises_before, output_rises_after, output_rises_before}
use Rattle.engine_form.proofs.laws.outputs_rise_as_bads.Goals as goal

pub returns-clause-initial : goal.returns-clause-initial
returns-clause-initial x c d h state = (initial_after c d state h, initial_before c d state h)

pub returns-clause-traces : goal.returns-clause-traces
returns-clause-traces x c d h state inputs vs = (trace_after c d state inputs vs h, trace_before c d state inputs vs h)

pub returns-clause-outputs_shown : goal.returns-clause-outputs_shown
returns-clause-outputs_shown x c d h v k = output_shown c d v k h

pub returns-clause-bads_shown : goal.returns-clause-bads_shown
returns-clause-bads_shown x c d h v b inside = bad_bit c d v b h inside

pub returns-clause-constraints_shown : goal.returns-clause-constraints_shown
returns-clause-constraints_shown x c d h v = ap (λ (s : Shown). s.constraints) (shows c d v h)

pub returns-clause-bads_rise : goal.returns-clause-bads_rise
returns-clause-bads_rise x c d h b inside = (bad_rises_after c d b h inside, bad_rises_before c d b h inside)

pub returns-clause-outputs_rise : goal.returns-clause-outputs_rise
returns-clause-outputs_rise x c d h k = (output_rises_after c d k h, output_rises_before c d k h)
