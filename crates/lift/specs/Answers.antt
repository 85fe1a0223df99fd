-- What is answered where no judgement is: the numbers and the names of the faults.
use Rattle.std.specs.Prelude.{◌≡◌, ℕ, List, Result, Ok, Err, codes}
use Rattle.base.specs.Device.{HasRisen}
use Rattle.lift.specs.declared.fault.LiftFault.{LiftFault}
use Rattle.lift.specs.declared.fault.LiftFault.TheVariants as fault

abbrev pub lift_fault_number : LiftFault → ℕ
lift_fault_number fault.Read = 130
lift_fault_number fault.Write = 131
lift_fault_number fault.NoMemory = 132

abbrev pub lift_fault_name : LiftFault → List ℕ
lift_fault_name fault.Read = codes "Read"
lift_fault_name fault.Write = codes "Write"
lift_fault_name fault.NoMemory = codes "NoMemory"

-- the source failed once where that is answered, the sink where that is, and else neither
abbrev pub CountsLift : {J : Type 0} → Result J LiftFault → ℕ → ℕ → ℕ → ℕ → Type 0
CountsLift (Ok j) read read' written written' = (read' ≡ read) × (written' ≡ written)
CountsLift (Err fault.Read) read read' written written' = HasRisen read read' × (written' ≡ written)
CountsLift (Err fault.Write) read read' written written' = (read' ≡ read) × HasRisen written written'
CountsLift (Err fault.NoMemory) read read' written written' = (read' ≡ read) × (written' ≡ written)
