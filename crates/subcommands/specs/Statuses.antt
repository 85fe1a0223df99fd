-- What is told of a task that is not done, with which exit status.
use Rattle.std.specs.Prelude.{◌≡◌, ℕ, List, Option, ◌⊎◌, codes}
use Rattle.std.specs.Io.KnownBytes.{Appends}
use Rattle.base.specs.declared.reasons.Reason.{Reason}
use Rattle.verbs.specs.declared.refusals.Device.TheVariants as device
use Rattle.verbs.specs.declared.refusals.Fault.{Fault}
use Rattle.verbs.specs.declared.refusals.Refusal.{Refusal}
use Rattle.verbs.specs.declared.refusals.Refusal.TheVariants as refusal
use Rattle.subcommands.specs.Refusals.{fault_line, refusal_line, second_name, status_of_fault}

-- what was told of the fault of a file, and the status: its line and its own, or `no memory` where there was none for the line
abbrev pub TellsFault : List ℕ → Fault → ℕ → Option (List ℕ) → Option (List ℕ) → Type 0
TellsFault file fault status told told' = ((status ≡ status_of_fault fault) × Appends told told' (fault_line file fault)) ⊎ ((status ≡ 3) × Appends told told' (codes "no memory\n"))

-- what was told of a refusal, by the names of the files and the reason of a device that failed, and the status
abbrev pub Tells : List ℕ → Option (List ℕ) → Option (List ℕ) → Option (List ℕ) → Option Reason → Refusal → ℕ → Option (List ℕ) → Option (List ℕ) → Type 0
Tells file second third output why (refusal.Input f) status told told' = TellsFault file f status told told'
Tells file second third output why (refusal.Second f) status told told' = TellsFault (second_name second) f status told told'
Tells file second third output why (refusal.Failed device.Error) status told told' = status ≡ 3
Tells file second third output why r status told told' = (status ≡ 3) × Appends told told' (refusal_line file second third output why r)
