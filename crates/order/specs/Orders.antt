-- Orders of numbers by what each needs. The row at place k has the numbers that the number k needs.
use Rattle.std.specs.Prelude.{◌≡◌, ℕ, ◌<◌, ◌==◌, List, [], ◌∷◌, Some, unwrap_or, length, slice_get, count_by, take, Contains}
use Rattle.std.specs.List.{AllByRecursion}

-- the numbers that a number needs, none where it has no row
abbrev pub needs_of : List (List ℕ) → ℕ → List ℕ
needs_of needs k = unwrap_or (slice_get needs k) []

-- each number that is needed has a row
abbrev pub AreNumbers : List (List ℕ) → Type 0
AreNumbers needs = AllByRecursion (AllByRecursion (λ m. m < length needs)) needs

-- each of a list stands behind all that it needs
abbrev pub StandBehind : List (List ℕ) → List ℕ → Type 0
StandBehind needs list = (i k : ℕ) → slice_get list i ≡ Some k → AllByRecursion (Contains (take i list)) (needs_of needs k)

-- A list is an order of the numbers with rows: these alone stand in it, each of them once, and behind all that it needs.
pub record IsOrder (needs : List (List ℕ)) (list : List ℕ) : Type 0 where
  pub numbers : AllByRecursion (λ k. k < length needs) list
  pub once : (k : ℕ) → k < length needs → count_by (λ x. x == k) list ≡ 1
  pub behind : StandBehind needs list

-- a number needs the first of a list, each of the list the next one, and the last of them another number
abbrev pub IsPath : List (List ℕ) → ℕ → List ℕ → ℕ → Type 0
IsPath needs k [] last = Contains (needs_of needs k) last
IsPath needs k (next ∷ between) last = Contains (needs_of needs k) next × IsPath needs next between last

-- a number lies on a circle of needs: a path leads from it back to it
abbrev pub IsInCircle : List (List ℕ) → ℕ → Type 0
IsInCircle needs k = (between : List ℕ) × IsPath needs k between k
