-- What is printed of the refusals of a new run: a number, a space and a name, and before them the id of the state's line where one is told.
use Rattle.std.specs.Prelude.{ℕ, List, codes}
use Rattle.runs.specs.declared.fault.NewFault.{NewFault}
use Rattle.runs.specs.declared.fault.NewFault.TheVariants as fault

-- the number that is printed for a refusal
abbrev pub new_number : NewFault → ℕ
new_number (fault.NoNext id) = 70
new_number fault.NoMemory = 71

-- the name that is printed for a refusal
abbrev pub new_name : NewFault → List ℕ
new_name (fault.NoNext id) = codes "NoNext"
new_name fault.NoMemory = codes "NoMemory"
