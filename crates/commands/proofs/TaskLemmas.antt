-- What a command answers that is done.
use Rattle.std.proofs.Common.{◌≡◌, Bool, true, false, not, Result, Ok, Err, IfOk, OnOk, refl, sym, subst}
use Rattle.subcommands.specs.declared.answers.Answer.{Answer}
use Rattle.subcommands.specs.declared.answers.Answer.TheVariants as answer
use Rattle.verbs.specs.declared.refusals.Refusal.{Refusal}

-- a command that answers only that all is done has done what it says
pub done_so : (r : Result Answer Refusal) {P : Type 0} (A : Answer → Type 0) → OnOk r P → IfOk r (λ a. a ≡ answer.Done) → (P → A answer.Done) → IfOk r A
done_so (Ok a) {P} A did is so = subst A (sym is) (so did)
done_so (Err e) {P} A did is so = tt

-- without names
pub not_named : (named : Bool) → not named ≡ true → named ≡ false
not_named false e = refl
not_named true e = absurd (cc)
