-- What is printed of the faults of this crate: a number, a space and a name.
use Rattle.std.specs.Prelude.{ℕ, List, codes}
use Rattle.drup.specs.declared.fault.ClauseFault.{ClauseFault}
use Rattle.drup.specs.declared.fault.ClauseFault.TheVariants as fault
use Rattle.drup.specs.declared.fault.FormulaFault.{FormulaFault}
use Rattle.drup.specs.declared.fault.FormulaFault.TheVariants as formula

-- the number that is printed for a fault
abbrev pub clause_number : ClauseFault → ℕ
clause_number fault.NoMemory = 160

-- the name that is printed for a fault
abbrev pub clause_name : ClauseFault → List ℕ
clause_name fault.NoMemory = codes "NoMemory"

-- the number that is printed for a fault of a formula
abbrev pub formula_number : FormulaFault → ℕ
formula_number formula.BadLiteral = 165
formula_number formula.NoMemory = 166

-- the name that is printed for a fault of a formula
abbrev pub formula_name : FormulaFault → List ℕ
formula_name formula.BadLiteral = codes "BadLiteral"
formula_name formula.NoMemory = codes "NoMemory"
