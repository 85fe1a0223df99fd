-- What is answered where a text is not tidied to its end: the numbers and the names of the faults.
use Rattle.std.specs.Prelude.{◌≡◌, ℕ, List, Result, Ok, Err, codes}
use Rattle.base.specs.Device.{HasRisen}
use Rattle.tidy.specs.declared.fault.TidyFault.{TidyFault}
use Rattle.tidy.specs.declared.fault.TidyFault.TheVariants as fault

abbrev pub tidy_fault_number : TidyFault → ℕ
tidy_fault_number fault.Read = 200
tidy_fault_number fault.Write = 201

abbrev pub tidy_fault_name : TidyFault → List ℕ
tidy_fault_name fault.Read = codes "Read"
tidy_fault_name fault.Write = codes "Write"

-- the source failed once where that is answered, the sink where that is, and else neither
abbrev pub CountsTidy : {T : Type 0} → Result T TidyFault → ℕ → ℕ → ℕ → ℕ → Type 0
CountsTidy (Err fault.Read) read read' written written' = HasRisen read read' × (written' ≡ written)
CountsTidy (Err fault.Write) read read' written written' = (read' ≡ read) × HasRisen written written'
CountsTidy (Ok x) read read' written written' = (read' ≡ read) × (written' ≡ written)
