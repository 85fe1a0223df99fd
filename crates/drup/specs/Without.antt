-- A clause taken away: the last one that has the same literals.
use Rattle.std.specs.Prelude.{◌≡◌, ℕ, suc, ◌<◌, ◌≤◌, ◌==◌, List, [], length, slice_index_or}
use Rattle.std.specs.List.{count_by, remove}

-- how often a literal stands in a clause
abbrev pub times : ℕ → List ℕ → ℕ
times l clause = count_by (λ x. x == l) clause

-- two clauses have the same literals, each as often, in whatever order
abbrev pub AreSameClause : List ℕ → List ℕ → Type 0
AreSameClause one other = (l : ℕ) → times l one ≡ times l other

-- no clause from a place on is alike
abbrev pub NoneAlikeFrom : List (List ℕ) → List ℕ → ℕ → Type 0
NoneAlikeFrom clauses clause k = (j : ℕ) → k ≤ j → j < length clauses → ¬ AreSameClause clause (slice_index_or clauses j [])

-- the last clause that is alike stands at a place
pub record IsLastAlike (clauses : List (List ℕ)) (clause : List ℕ) (k : ℕ) : Type 0 where
  pub inside : k < length clauses
  pub alike : AreSameClause clause (slice_index_or clauses k [])
  pub later : NoneAlikeFrom clauses clause (suc k)

-- clauses without the last one that is alike; or all of them, where none is
pub data IsWithout (clauses : List (List ℕ)) (clause : List ℕ) (left : List (List ℕ)) : Type 0 where
  last : (k : ℕ) → IsLastAlike clauses clause k → left ≡ remove clauses k → IsWithout clauses clause left
  none : NoneAlikeFrom clauses clause 0 → left ≡ clauses → IsWithout clauses clause left
