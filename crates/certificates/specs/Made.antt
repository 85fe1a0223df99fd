-- Clauses put behind those of a formula.
use Rattle.std.specs.Prelude.{◌≡◌, ℕ, List, ◌++◌}
use Rattle.drup.specs.Formula.{Formula}

pub record AddsClauses (old new : Formula) (more : List (List ℕ)) : Type 0 where
  pub variables : new.variables ≡ old.variables
  pub clauses : new.clauses ≡ old.clauses ++ more
