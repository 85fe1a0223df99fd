-- Faults of a circuit: their numbers and names, and what an answer says of the first fault that applies.
use Rattle.std.specs.Prelude.{◌≡◌, ℕ, List, codes, ◌⊎◌, Option, None, Some, Result, Ok, Err}
use Rattle.aiger.specs.declared.fault.CircuitFault.{CircuitFault}
use Rattle.aiger.specs.declared.fault.CircuitFault.TheVariants.{LiteralOutOfRange, OrderBroken, TooBig, NoMemory, NoSuchPosition, NameTaken, BadName}

-- done only where there is no fault; an error is the first fault, or want of memory where there is none
abbrev pub RefusesBy : {T : Type 0} → Result T CircuitFault → Option CircuitFault → Type 0
RefusesBy (Ok x) fault = fault ≡ None
RefusesBy (Err e) fault = (fault ≡ Some e) ⊎ ((fault ≡ None) × (e ≡ NoMemory))

-- the same of a call that takes no memory: done exactly where there is no fault
abbrev pub RefusesOnlyBy : {T : Type 0} → Result T CircuitFault → Option CircuitFault → Type 0
RefusesOnlyBy (Ok x) fault = fault ≡ None
RefusesOnlyBy (Err e) fault = fault ≡ Some e

-- the number that is printed for a fault
abbrev pub circuit_fault_number : CircuitFault → ℕ
circuit_fault_number LiteralOutOfRange = 40
circuit_fault_number OrderBroken = 41
circuit_fault_number TooBig = 42
circuit_fault_number NoMemory = 43
circuit_fault_number NoSuchPosition = 44
circuit_fault_number NameTaken = 45
circuit_fault_number BadName = 46

-- the name that is printed for a fault
abbrev pub circuit_fault_name : CircuitFault → List ℕ
circuit_fault_name LiteralOutOfRange = codes "LiteralOutOfRange"
circuit_fault_name OrderBroken = codes "OrderBroken"
circuit_fault_name TooBig = codes "TooBig"
circuit_fault_name NoMemory = codes "NoMemory"
circuit_fault_name NoSuchPosition = codes "NoSuchPosition"
circuit_fault_name NameTaken = codes "NameTaken"
circuit_fault_name BadName = codes "BadName"
