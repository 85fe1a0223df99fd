-- What is answered where no judgement is: the numbers and the names of the faults.
use Rattle.std.specs.Prelude.{◌≡◌, ℕ, List, Option, Some, None, Result, Err, codes}
use Rattle.base.specs.Device.{HasRisen}
use Rattle.base.specs.declared.sources.ReadAllFault.{ReadAllFault}
use Rattle.base.specs.declared.sources.ReadAllFault.TheVariants as cause
use Rattle.rejoin.specs.declared.fault.UnfitFault.{UnfitFault}
use Rattle.rejoin.specs.declared.fault.UnfitFault.TheVariants as fault

-- the number that is printed for a fault
abbrev pub unfit_fault_number : UnfitFault → ℕ
unfit_fault_number (fault.NoNext id) = 70
unfit_fault_number fault.Read = 136
unfit_fault_number fault.Write = 137
unfit_fault_number fault.NoMemory = 138

-- its name
abbrev pub unfit_fault_name : UnfitFault → List ℕ
unfit_fault_name (fault.NoNext id) = codes "NoNext"
unfit_fault_name fault.Read = codes "Read"
unfit_fault_name fault.Write = codes "Write"
unfit_fault_name fault.NoMemory = codes "NoMemory"

-- a fault names a state with an init and no next
abbrev pub NamesState : UnfitFault → Type 0
NamesState (fault.NoNext id) = Unit {0}
NamesState _ = ⊥

-- a state with an init and no next is named exactly where there is one, and it is the first
abbrev pub AnswersUnfit : {T : Type 0} → Result T UnfitFault → Option ℕ → Type 0
AnswersUnfit (Err (fault.NoNext id)) lacking = lacking ≡ Some id
AnswersUnfit _ lacking = lacking ≡ None

-- the source failed once where that is answered, the sink where that is, and else neither
abbrev pub CountsUnfit : {J : Type 0} → Result J UnfitFault → ℕ → ℕ → ℕ → ℕ → Type 0
CountsUnfit (Err fault.Read) read read' written written' = HasRisen read read' × (written' ≡ written)
CountsUnfit (Err fault.Write) read read' written written' = (read' ≡ read) × HasRisen written written'
CountsUnfit _ read read' written written' = (read' ≡ read) × (written' ≡ written)

-- what is answered where a source could not be read to its end
abbrev pub unread_fault : ReadAllFault → UnfitFault
unread_fault cause.Device = fault.Read
unread_fault cause.NoMemory = fault.NoMemory
