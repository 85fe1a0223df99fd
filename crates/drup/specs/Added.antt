-- A clause put behind the others.
use Rattle.std.specs.Prelude.{◌≡◌, ℕ, ◌+◌, ◌*◌, ◌++◌, List, [], ◌∷◌, length, Contains}
use Rattle.drup.specs.Lists.{list_at, IsListed}

pub record Added (clauses : List (List ℕ)) (watched : List ℕ) (lists : List (List ℕ)) (clause : List ℕ) (first second : ℕ) (clauses' : List (List ℕ)) (watched' : List ℕ) (lists' : List (List ℕ)) : Type 0 where
  pub clauses_are : clauses' ≡ clauses ++ clause ∷ []
  pub watched_are : watched' ≡ (watched ++ first ∷ []) ++ second ∷ []
  pub listed : IsListed lists lists'
  pub first_listed : Contains (list_at lists' first) (2 * length clauses)
  pub second_listed : Contains (list_at lists' second) (2 * length clauses + 1)

pub record Unchanged (clauses : List (List ℕ)) (watched : List ℕ) (lists clauses' : List (List ℕ)) (watched' : List ℕ) (lists' : List (List ℕ)) : Type 0 where
  pub clauses_are : clauses' ≡ clauses
  pub watched_are : watched' ≡ watched
  pub listed : IsListed lists lists'
