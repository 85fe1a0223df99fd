-- Unit propagation: a clause all of whose literals but one are negated gives that one (the steps that proofs of solvers consist of are checked by it: N.
-- Wetzler, M. Heule, W. Hunt, "DRAT-trim: Efficient checking and trimming using expressive clausal proofs", SAT 2014).
use Rattle.std.specs.Prelude.{◌≡◌, ◌≢◌, ℕ, ◌<◌, Bool, true, false, List, [], length, slice_index, slice_index_or}
use Rattle.base.specs.Literal.{negation, Valuation, literal_value}
use Rattle.drup.specs.Formula.{SatisfiesClauses}

-- a set of literals
abbrev pub Literals : Type 0
Literals = ℕ → Bool

-- no literals
abbrev pub no_literal : Literals
no_literal l = false

-- the set has the negation of each literal of a clause
abbrev pub AllNegated : List ℕ → Literals → Type 0
AllNegated clause s = (i : ℕ) → i < length clause → s (negation (slice_index clause i)) ≡ true

-- the set has the negation of each literal of a clause other than one
abbrev pub OthersNegated : List ℕ → ℕ → Literals → Type 0
OthersNegated clause l s = (i : ℕ) → i < length clause → slice_index clause i ≢ l → s (negation (slice_index clause i)) ≡ true

-- the set has each literal of a clause all of whose others are negated in it
abbrev pub IsClosedUnder : List ℕ → Literals → Type 0
IsClosedUnder clause s = (i : ℕ) → i < length clause → OthersNegated clause (slice_index clause i) s → s (slice_index clause i) ≡ true

abbrev pub IsClosed : List (List ℕ) → Literals → Type 0
IsClosed clauses s = (k : ℕ) → k < length clauses → IsClosedUnder (slice_index_or clauses k []) s

-- the second set has all literals of the first
abbrev pub Holds : Literals → Literals → Type 0
Holds t s = (l : ℕ) → t l ≡ true → s l ≡ true

-- what follows from clauses and given literals: the least closed set that has these
pub record IsClosure (clauses : List (List ℕ)) (given s : Literals) : Type 0 where
  pub holds : Holds given s
  pub closed : IsClosed clauses s
  pub least : (t : Literals) → IsClosed clauses t → Holds given t → Holds s t

-- the set has a literal and its negation, or the negations of all literals of a clause
pub data Conflict (clauses : List (List ℕ)) (s : Literals) : Type 0 where
  opposite : (l : ℕ) → s l ≡ true → s (negation l) ≡ true → Conflict clauses s
  falsified : (k : ℕ) → k < length clauses → AllNegated (slice_index_or clauses k []) s → Conflict clauses s

-- propagation from given literals meets a conflict: so does each closed set that has them, and thereby the least one
abbrev pub MeetsConflict : List (List ℕ) → Literals → Type 0
MeetsConflict clauses given = (s : Literals) → IsClosed clauses s → Holds given s → Conflict clauses s

-- propagation from given literals and the negations of a clause's literals meets a conflict
abbrev pub Implied : List (List ℕ) → Literals → List ℕ → Type 0
Implied clauses given clause = (s : Literals) → IsClosed clauses s → Holds given s → AllNegated clause s → Conflict clauses s

-- an assignment satisfies the clauses, and the given literals are true in it
pub record IsModel (a : Valuation) (clauses : List (List ℕ)) (given : Literals) : Type 0 where
  pub satisfies : SatisfiesClauses a clauses
  pub holds : Holds given (literal_value a)
