-- What the exit statuses 2, 3 and 4 of a command say.
use Rattle.std.specs.Prelude.{◌≡◌, ℕ, List, Option, Err, ◌⊎◌}
use Rattle.std.specs.Io.KnownBytes.{Appends}
use Rattle.base.specs.Device.{HasRisen}
use Rattle.base.specs.declared.reasons.Reason.{Reason}
use Rattle.invocation.specs.declared.tasks.Order.{Order}
use Rattle.verbs.specs.declared.refusals.Device.TheVariants as device
use Rattle.verbs.specs.declared.refusals.Fault.{Fault}
use Rattle.verbs.specs.declared.refusals.Refusal.{Refusal}
use Rattle.verbs.specs.declared.refusals.Refusal.TheVariants as refusal
use Rattle.subcommands.specs.declared.answers.Answer.{Answer}
use Rattle.subcommands.specs.Refusals.{device_line, fault_line, output_name, refusal_line, second_name, status_of_fault}
use Rattle.subcommands.specs.Objects.{refusal_written}
use Rattle.verbs.specs.Statuses.{CountsAll}
use Rattle.commands.specs.Done.{asked_of, name_of}
use Rattle.commands.specs.Refusals.{RefusesTask, RefusesSecond}

-- the first text has a fault for which a command refuses it; the line that tells that fault of the first file was written to standard error, and an object that tells it to standard output where one is asked for
pub record IsFirstRefused (o : Order) (first before now told told' : Option (List ℕ)) : Type 0 where
  pub fault : Fault
  pub has : RefusesTask o.task (asked_of o) first fault
  pub status : status_of_fault fault ≡ 2
  pub written : Appends before now (refusal_written o.as_json o.first.now fault)
  pub line : Appends told told' (fault_line o.first.now fault)

-- the same of the second text, and of the second file
pub record IsSecondRefused (o : Order) (first second before now told told' : Option (List ℕ)) : Type 0 where
  pub fault : Fault
  pub has : RefusesSecond o.task first second fault
  pub status : status_of_fault fault ≡ 2
  pub written : Appends before now (refusal_written o.as_json (second_name (name_of o.second)) fault)
  pub line : Appends told told' (fault_line (second_name (name_of o.second)) fault)

-- Status 2: the first file is refused, or the second one; the line names the file that it is about.
abbrev pub IsRefused : Order → Option (List ℕ) → Option (List ℕ) → Option (List ℕ) → Option (List ℕ) → Option (List ℕ) → Option (List ℕ) → Type 0
IsRefused o first second before now told told' = IsFirstRefused o first before now told told' ⊎ IsSecondRefused o first second before now told told'

-- Status 4: words leave open which bad property of the first text is claimed, or ask for one by a name that two have, and the line that says so was written, and an object where one is asked for.
pub record IsLeftOpen (o : Order) (first before now told told' : Option (List ℕ)) : Type 0 where
  pub fault : Fault
  pub has : RefusesTask o.task (asked_of o) first fault
  pub status : status_of_fault fault ≡ 4
  pub written : Appends before now (refusal_written o.as_json o.first.now fault)
  pub line : Appends told told' (fault_line o.first.now fault)

-- a refusal is none of an input, and standard error did not fail
abbrev pub IsTold : Refusal → Type 0
IsTold (refusal.Input f) = ⊥
IsTold (refusal.Second f) = ⊥
IsTold (refusal.Failed device.Error) = ⊥
IsTold _ = Unit {0}

-- a file or the output failed, no other did, and the line that names it was written, with one of the reasons or none; or none failed, and `no memory` was written
pub record TellsFailure (file : List ℕ) (second third output : Option (List ℕ)) (told told' : Option (List ℕ)) (f f' s s' t t' o o' e e' : ℕ) : Type 0 where
  pub why : Refusal
  pub reason : Option Reason
  pub is_told : IsTold why
  pub counted : CountsAll {T = Unit {0}} (Err why) f f' s s' t t' o o' e e'
  pub line : Appends told told' (refusal_line file second third output reason why)

-- Status 3: standard error failed, or a failure was told.
abbrev pub HasFailed : List ℕ → Option (List ℕ) → Option (List ℕ) → Option (List ℕ) → Option (List ℕ) → Option (List ℕ) → ℕ → ℕ → ℕ → ℕ → ℕ → ℕ → ℕ → ℕ → ℕ → ℕ → Type 0
HasFailed file second third output told told' f f' s s' t t' o o' e e' = HasRisen e e' ⊎ TellsFailure file second third output told told' f f' s s' t t' o o' e e'

-- A result was written and could not be given its name, and nothing else failed; and behind what the command told of it stands the line that says so, or standard error failed. `Answered` says what was done by an answer, of the bytes of the files, of the result and of standard error.
pub record IsUnnamed (Answered : Answer → Option (List ℕ) → Option (List ℕ) → Option (List ℕ) → Option (List ℕ) → Option (List ℕ) → Option (List ℕ) → Option (List ℕ) → Type 0) (first second third before now output told told' : Option (List ℕ)) (f f' s s' t t' o o' e e' n n' : ℕ) : Type 0 where
  pub answer : Answer
  pub judged : Option (List ℕ)
  pub reason : Option Reason
  pub answered : Answered answer first second third before now told judged
  pub unfailed : (f' ≡ f) × (s' ≡ s) × (t' ≡ t) × (o' ≡ o)
  pub counted : HasRisen n n'
  pub line : HasRisen e e' ⊎ Appends judged told' (device_line (output_name output) reason)
