-- What is printed of the refusals of an engine form: a number, a space and a name.
use Rattle.std.specs.Prelude.{ℕ, List, codes}
use Rattle.engine_form.specs.declared.fault.EngineFault.{EngineFault}
use Rattle.engine_form.specs.declared.fault.EngineFault.TheVariants as fault

-- the number that is printed for a refusal
abbrev pub engine_fault_number : EngineFault → ℕ
engine_fault_number fault.Justice = 140
engine_fault_number fault.Fair = 141
engine_fault_number fault.NoBad = 145
engine_fault_number fault.NoSuchBad = 142
engine_fault_number fault.TooBig = 143
engine_fault_number fault.NoMemory = 144

-- the name that is printed for a refusal
abbrev pub engine_fault_name : EngineFault → List ℕ
engine_fault_name fault.Justice = codes "Justice"
engine_fault_name fault.Fair = codes "Fair"
engine_fault_name fault.NoBad = codes "NoBad"
engine_fault_name fault.NoSuchBad = codes "NoSuchBad"
engine_fault_name fault.TooBig = codes "TooBig"
engine_fault_name fault.NoMemory = codes "NoMemory"
