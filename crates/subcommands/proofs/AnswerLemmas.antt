-- The answer of a verb that is done or not.
use Rattle.std.proofs.Common.{Result, Ok, Err, IfOk, IfErr, OnOk, refl}
use Rattle.verbs.specs.declared.refusals.Fault.{Fault}
use Rattle.verbs.specs.declared.refusals.Refusal.{Refusal}
use Rattle.verbs.specs.declared.refusals.Refusal.TheVariants as refusal
use Rattle.verbs.specs.Statuses.{Ends, IfInput, IsOfNoInput, Use}
use Rattle.verbs.proofs.CountLemmas.{handed_on}
use Rattle.subcommands.specs.declared.answers.Answer.{Answer}
use Rattle.subcommands.specs.declared.answers.Answer.TheVariants as answer
use Rattle.subcommands.specs.Done.{answered}

-- where it is done, what it says is
pub answered_done : (r : Result (Unit {0}) Refusal) {P : Type 0} (A : Answer → Type 0) → OnOk r P → (P → A answer.Done) → IfOk (answered r) A
answered_done (Ok u) {P} A did so = so did
answered_done (Err e) {P} A did so = tt

-- and why it is not
pub answered_refused : (r : Result (Unit {0}) Refusal) (P : Refusal → Type 0) → IfErr r P → IfErr (answered r) P
answered_refused (Ok u) P why = tt
answered_refused (Err e) P why = why

pub answered_ends : (r : Result (Unit {0}) Refusal) {first second out err : Use} → Ends r first second out err → Ends (answered r) first second out err
answered_ends (Ok u) {first} {second} {out} {err} h = record { counted = h.counted; unwritten = h.unwritten; untold = h.untold }
answered_ends (Err e) {first} {second} {out} {err} h = handed_on refl h

-- what is told refuses no text
pub tells_only : (r : Result Answer Refusal) (P : Fault → Type 0) → IsOfNoInput r → IfErr r (IfInput P)
tells_only (Ok a) P h = tt
tells_only (Err (refusal.Input f)) P h = absurd h
tells_only (Err _) P h = tt
