-- What is answered where no judgement is: the numbers and the names of the faults.
use Rattle.std.specs.Prelude.{◌≡◌, ℕ, List, Option, Some, None, Result, Ok, Err, codes}
use Rattle.base.specs.Device.{HasRisen}
use Rattle.vcd.specs.declared.fault.WaveFault.{WaveFault}
use Rattle.vcd.specs.declared.fault.WaveFault.TheVariants as fault

abbrev pub wave_fault_number : WaveFault → ℕ
wave_fault_number fault.Read = 170
wave_fault_number fault.Write = 171
wave_fault_number fault.NoMemory = 172
wave_fault_number (fault.NoNext id) = 70

abbrev pub wave_fault_name : WaveFault → List ℕ
wave_fault_name fault.Read = codes "Read"
wave_fault_name fault.Write = codes "Write"
wave_fault_name fault.NoMemory = codes "NoMemory"
wave_fault_name (fault.NoNext id) = codes "NoNext"

-- a state with an init and no next is named exactly where there is one, and it is the first
abbrev pub AnswersWave : {T : Type 0} → Result T WaveFault → Option ℕ → Type 0
AnswersWave (Err (fault.NoNext id)) lacking = lacking ≡ Some id
AnswersWave _ lacking = lacking ≡ None

-- the source failed once where that is answered, the sink where that is, and else neither
abbrev pub CountsWave : {T : Type 0} → Result T WaveFault → ℕ → ℕ → ℕ → ℕ → Type 0
CountsWave (Err fault.Read) read read' written written' = HasRisen read read' × (written' ≡ written)
CountsWave (Err fault.Write) read read' written written' = (read' ≡ read) × HasRisen written written'
CountsWave _ read read' written written' = (read' ≡ read) × (written' ≡ written)

-- a device's fault, and one that is answered before anything is read or written
abbrev pub IsDeviceFault : WaveFault → Type 0
IsDeviceFault fault.Read = Unit {0}
IsDeviceFault fault.Write = Unit {0}
IsDeviceFault _ = ⊥

abbrev pub IsEarly : WaveFault → Type 0
IsEarly fault.NoMemory = Unit {0}
IsEarly (fault.NoNext id) = Unit {0}
IsEarly _ = ⊥

abbrev pub IsBefore : {T : Type 0} → Result T WaveFault → Type 0
IsBefore (Ok j) = ⊥
IsBefore (Err e) = IsEarly e
