-- Formulas in conjunctive normal form: a clause is a list of literals, one of which is to be true, and each clause of a formula is to be satisfied (the
-- form of DIMACS CNF). A clause without literals is never satisfied.
use Rattle.std.specs.Prelude.{◌≡◌, ℕ, ◌+◌, ◌*◌, ◌<◌, ◌≤◌, true, List, [], length, All, slice_index, slice_index_or}
use Rattle.base.specs.Literal.{Valuation, literal_value}

-- some literal of the clause is true
abbrev pub SatisfiesClause : Valuation → List ℕ → Type 0
SatisfiesClause a clause = (i : ℕ) × (i < length clause) × (literal_value a (slice_index clause i) ≡ true)

-- every clause is satisfied
abbrev pub SatisfiesClauses : Valuation → List (List ℕ) → Type 0
SatisfiesClauses a clauses = (k : ℕ) → k < length clauses → SatisfiesClause a (slice_index_or clauses k [])

-- A count of variables, and clauses.
pub record Formula : Type 0 where
  pub variables : ℕ
  pub clauses : List (List ℕ)

-- a literal of one of so many variables
abbrev pub IsLiteral : ℕ → ℕ → Type 0
IsLiteral variables l = (2 ≤ l) × (l < 2 * variables + 2)

abbrev pub IsFormula : Formula → Type 0
IsFormula f = All (λ clause. All (IsLiteral f.variables) clause) f.clauses

-- no assignment satisfies the formula
abbrev pub IsUnsatisfiable : Formula → Type 0
IsUnsatisfiable f = (a : Valuation) → SatisfiesClauses a f.clauses → ⊥
