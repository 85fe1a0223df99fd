-- What is told where a model with words of any width is not fitted: a number, a space and a name are printed of it.
use Rattle.std.specs.Prelude.{ℕ, List, Option, Some, None, codes}
use Rattle.pieces.specs.declared.shortage.Shortage.TheVariants as shortage
use Rattle.fitting.specs.declared.unfitted.Unfitted.{Unfitted}
use Rattle.fitting.specs.declared.unfitted.Unfitted.TheVariants as unfitted
use Rattle.fitting.specs.declared.fault.FitFault.{FitFault}
use Rattle.fitting.specs.declared.fault.FitFault.TheVariants as fault

-- the number that is printed for a refusal
abbrev pub fit_fault_number : FitFault → ℕ
fit_fault_number (fault.Justice id) = 220
fit_fault_number (fault.Fair id) = 221
fit_fault_number (fault.TooManyItems id) = 222
fit_fault_number fault.NoMemory = 223

-- the id of the line that it is about, where it is about one
abbrev pub fit_fault_item : FitFault → Option ℕ
fit_fault_item (fault.Justice id) = Some id
fit_fault_item (fault.Fair id) = Some id
fit_fault_item (fault.TooManyItems id) = Some id
fit_fault_item fault.NoMemory = None

-- the name that is printed for a refusal
abbrev pub fit_fault_name : FitFault → List ℕ
fit_fault_name (fault.Justice id) = codes "Justice"
fit_fault_name (fault.Fair id) = codes "Fair"
fit_fault_name (fault.TooManyItems id) = codes "TooManyItems"
fit_fault_name fault.NoMemory = codes "NoMemory"

-- the refusal of a model of which the line with an id is not fitted
abbrev pub fault_of : ℕ → Unfitted → FitFault
fault_of id unfitted.Justice = fault.Justice id
fault_of id unfitted.Fair = fault.Fair id
fault_of id (unfitted.Short shortage.TooManyItems) = fault.TooManyItems id
fault_of id (unfitted.Short shortage.NoMemory) = fault.NoMemory
