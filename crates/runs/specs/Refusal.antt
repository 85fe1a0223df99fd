-- Which models have no run.
use Rattle.std.specs.Prelude.{◌≡◌, ℕ, Option, Some, None, Result, Ok, Err}
use Rattle.runs.specs.declared.fault.NewFault.{NewFault}
use Rattle.runs.specs.declared.fault.NewFault.TheVariants as fault

-- a run is made where there is no such state, but for want of memory; else that state is told
abbrev pub AnswersNew : {T : Type 0} → Result T NewFault → Option ℕ → Type 0
AnswersNew (Ok run) lacking = lacking ≡ None
AnswersNew (Err e) None = e ≡ fault.NoMemory
AnswersNew (Err e) (Some id) = e ≡ fault.NoNext id
