use Rattle.std.proofs.Common.{ℕ}
use Rattle.verbs.proofs.FitLemmas.{held_lift_ends, lifted_so, no_input_held_lift}
use Rattle.verbs.proofs.lifting_fitted.lift_held.Goals as goal

pub returns-in-Ok-clause-lifted : goal.returns-in-Ok-clause-lifted
returns-in-Ok-clause-lifted g c =
    lifted_so c.args.named c.narrow.result.now _ c.args.lowered.now.circuit _ _ _ c.in-Ok.judgement c.in-Ok.firsts c.narrow.ensures c.in-Ok.ensures.judged c.in-Ok.ensures.rises c.in-Ok.ensures.written c.in-Ok.ensures.kept

pub returns-in-Err-clause-refused : goal.returns-in-Err-clause-refused
returns-in-Err-clause-refused g c = rw c.of_held_lift.ensures (no_input_held_lift c.in-Err.fault _)

pub returns-in-Err-clause-ends : goal.returns-in-Err-clause-ends
returns-in-Err-clause-ends g c = rw c.of_held_lift.ensures (held_lift_ends ℕ _ c.in-Err.fault _ _ c.in-Err.ensures.counted)
