use Rattle.std.proofs.Common.{ℕ}
use Rattle.verbs.proofs.FitLemmas.{held_counts, no_input_held}
use Rattle.verbs.proofs.lifting_fitted.lift_form_held.Goals as goal

pub returns-in-Err-clause-refused : goal.returns-in-Err-clause-refused
returns-in-Err-clause-refused g c = rw c.of_held.ensures (no_input_held c.in-Err.fault.why _)

pub returns-in-Err-clause-ends : goal.returns-in-Err-clause-ends
returns-in-Err-clause-ends g c =
    rw c.of_held.ensures (record { counted = λ f o e. held_counts ℕ c.in-Err.fault.why _ _ _ _ f o e c.in-Err.ensures.counted; unwritten = tt; untold = tt })
