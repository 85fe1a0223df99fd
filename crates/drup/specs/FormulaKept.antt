-- How a formula is kept.
use Rattle.std.specs.Prelude.{ℕ, ◌<◌, List, All, Result, Ok, Err}
use Rattle.drup.specs.declared.fault.FormulaFault.{FormulaFault}
use Rattle.drup.specs.declared.fault.FormulaFault.TheVariants as fault
use Rattle.drup.specs.declared.formula.Formula.TheInside.{Inside}
use Rattle.drup.specs.Formula.{Formula, IsLiteral}

-- what contracts see of a formula
abbrev pub formula_of : Inside → Formula
formula_of f = record { variables = f.variables; clauses = f.clauses }

pub record IsKeptFormula (f : Inside) : Type 0 where
  pub few : f.variables < 2147483647
  pub literals : All (All (IsLiteral f.variables)) f.clauses

-- a clause is taken only where each literal is one of the formula's variables; it is refused as no clause exactly where one is not
abbrev pub RefusesClause : {T : Type 0} → Result T FormulaFault → Formula → List ℕ → Type 0
RefusesClause (Ok x) f clause = All (IsLiteral f.variables) clause
RefusesClause (Err fault.BadLiteral) f clause = All (IsLiteral f.variables) clause → ⊥
RefusesClause (Err fault.NoMemory) f clause = All (IsLiteral f.variables) clause
