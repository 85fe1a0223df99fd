use Rattle.std.proofs.Common.{ℕ, refl}
use Rattle.invocation.specs.declared.tasks.Given.TheVariants as given
use Rattle.verbs.proofs.CountLemmas.{as_is, as_was, ends_as, failed, handed_on, idle, lifting_failed, unfailed}
use Rattle.verbs.proofs.GivenLemmas.{gives_lowered, none_claimable, not_claimable, unlifted}
use Rattle.verbs.proofs.lifting.lift.Goals as goal

pub returns-in_err-lowered-clause-refused : goal.returns-in_err-lowered-clause-refused
returns-in_err-lowered-clause-refused g c =
    let is = failed c.from_residual.result c.in_err-lowered.field-0.0 c.from_residual.ensures in
    rw is (none_claimable given.Model (g.A.Source.to_come c.args.first.now) c.in_err-lowered.field-0.0 c.in_err-lowered.ensures.refused)

pub returns-in_err-lowered-clause-ends : goal.returns-in_err-lowered-clause-ends
returns-in_err-lowered-clause-ends g c =
    let is = failed c.from_residual.result c.in_err-lowered.field-0.0 c.from_residual.ensures in
    ends_as as_is (unfailed refl) idle as_was (handed_on is c.in_err-lowered.ensures.ends)

pub returns-in_err-claimable-clause-refused : goal.returns-in_err-claimable-clause-refused
returns-in_err-claimable-clause-refused g c =
    let is = failed c.from_residual-in_err-claimable.result c.in_err-claimable.field-0.0 c.from_residual-in_err-claimable.ensures in
    rw is (not_claimable given.Model (g.A.Source.to_come c.args.first.now) c.in_ok-lowered.lowered.circuit c.in_err-claimable.field-0.0 (gives_lowered (g.A.Source.to_come c.args.first.now) c.in_ok-lowered.lowered c.in_ok-lowered.ensures.lowered) c.in_err-claimable.ensures.refused)

pub returns-in_err-claimable-clause-ends : goal.returns-in_err-claimable-clause-ends
returns-in_err-claimable-clause-ends g c =
    let is = failed c.from_residual-in_err-claimable.result c.in_err-claimable.field-0.0 c.from_residual-in_err-claimable.ensures in
    ends_as (unfailed (c.in_ok-lowered.ensures.ends.counted 0 0 0).0) (unfailed refl) idle as_was (handed_on is c.in_err-claimable.ensures.ends)

pub returns-in-Ok-clause-ends : goal.returns-in-Ok-clause-ends
returns-in-Ok-clause-ends g c = record { counted = λ e. ((c.in_ok-lowered.ensures.ends.counted 0 0 0).0, c.in-Ok.ensures.counted.0, c.in-Ok.ensures.counted.1, refl); unwritten = tt; untold = tt }

pub returns-in-Ok-clause-lifted : goal.returns-in-Ok-clause-lifted
returns-in-Ok-clause-lifted g c = record {
  lowered = c.in_ok-lowered.ensures.lowered;
  claimable = c.in_ok-claimable.ensures.claimable;
  lifts = record { judged = c.in-Ok.ensures.judged; rises = c.in-Ok.ensures.rises; lifted = c.in-Ok.ensures.written; kept = c.in-Ok.ensures.kept };
}

pub returns-in-Err-clause-refused : goal.returns-in-Err-clause-refused
returns-in-Err-clause-refused g c = rw c.from.ensures (unlifted c.in-Err.fault _)

pub returns-in-Err-clause-ends : goal.returns-in-Err-clause-ends
returns-in-Err-clause-ends g c =
    rw c.from.ensures (record { counted = λ e. lifting_failed ℕ ℕ c.in-Err.fault _ _ _ _ _ _ (c.in_ok-lowered.ensures.ends.counted 0 0 0).0 c.in-Err.ensures.counted e; unwritten = unlifted c.in-Err.fault _; untold = tt })
