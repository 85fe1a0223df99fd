-- What is printed of the refusals of a gate maker: a number, a space and a name.
use Rattle.std.specs.Prelude.{ℕ, List, codes}
use Rattle.gates.specs.declared.fault.GateFault.{GateFault}
use Rattle.gates.specs.declared.fault.GateFault.TheVariants.{TooBig, NoMemory}

-- the number that is printed for a refusal
abbrev pub gate_fault_number : GateFault → ℕ
gate_fault_number TooBig = 80
gate_fault_number NoMemory = 81

-- the name that is printed for a refusal
abbrev pub gate_fault_name : GateFault → List ℕ
gate_fault_name TooBig = codes "TooBig"
gate_fault_name NoMemory = codes "NoMemory"
