-- What is told where a model is not written out: a number, a space and a name are printed of it.
use Rattle.std.specs.Prelude.{ℕ, List, Option, Some, None, codes}
use Rattle.writeout.specs.declared.fault.WriteFault.{WriteFault}
use Rattle.writeout.specs.declared.fault.WriteFault.TheVariants as fault

-- the number that is printed for a refusal
abbrev pub write_fault_number : WriteFault → ℕ
write_fault_number (fault.Justice id) = 220
write_fault_number (fault.Fair id) = 221
write_fault_number fault.TooManyItems = 222
write_fault_number fault.NoMemory = 223
write_fault_number (fault.Circle id) = 224

-- the id of the line that it is about, where it is about one
abbrev pub write_fault_item : WriteFault → Option ℕ
write_fault_item (fault.Justice id) = Some id
write_fault_item (fault.Fair id) = Some id
write_fault_item (fault.Circle id) = Some id
write_fault_item _ = None

-- the name that is printed for a refusal
abbrev pub write_fault_name : WriteFault → List ℕ
write_fault_name (fault.Justice id) = codes "Justice"
write_fault_name (fault.Fair id) = codes "Fair"
write_fault_name fault.TooManyItems = codes "TooManyItems"
write_fault_name fault.NoMemory = codes "NoMemory"
write_fault_name (fault.Circle id) = codes "InitCircle"
