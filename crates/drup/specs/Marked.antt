-- A set of literals below a limit, with the order in which they came.
use Rattle.std.specs.Prelude.{◌≡◌, ◌≢◌, ℕ, ◌%◌, ◌<◌, Bool, true, false, List, length, take, slice_index, slice_index_or}
use Rattle.std.specs.List.{count_by}
use Rattle.base.specs.Literal.{negation}
use Rattle.drup.specs.Propagation.{Literals, AllNegated, IsClosedUnder, IsClosed}
use Rattle.drup.specs.declared.trail.Trail.TheInside.{Inside}

pub record Marked : Type 0 where
  pub marks : List Bool
  pub order : List ℕ

abbrev pub set_of : Marked → Literals
set_of m l = slice_index_or m.marks l false

-- what contracts see of a trail
abbrev pub marked_of : Inside → Marked
marked_of t = record { marks = t.marks.items; order = take t.count t.literals.items }

-- the marked literals are those in the first places
pub record AreMarkedFirst (marks : List Bool) (literals : List ℕ) (count : ℕ) : Type 0 where
  pub as_many : length literals ≡ length marks
  pub counted : count_by (λ b. b) marks ≡ count
  pub placed : (l : ℕ) → slice_index_or marks l false ≡ true → (j : ℕ) × (j < count) × (slice_index literals j ≡ l)
  pub marked : (j : ℕ) → j < count → slice_index_or marks (slice_index literals j) false ≡ true
  pub distinct : (i j : ℕ) → i < j → j < count → slice_index literals i ≢ slice_index literals j

abbrev pub IsTrail : Inside → Type 0
IsTrail t = AreMarkedFirst t.marks.items t.literals.items t.count

-- every marked literal is in the set
abbrev pub IsWithin : Marked → Literals → Type 0
IsWithin m s = (l : ℕ) → set_of m l ≡ true → s l ≡ true

-- no literal is marked along with its negation
abbrev pub IsConsistent : Marked → Type 0
IsConsistent m = (l : ℕ) → set_of m l ≡ true → set_of m (negation l) ≡ true → ⊥

-- a clause neither gives a literal that is not marked nor is falsified
pub record IsSettled (clause : List ℕ) (s : Literals) : Type 0 where
  pub closed : IsClosedUnder clause s
  pub open_still : AllNegated clause s → ⊥

-- what is marked later follows from what was marked: by one clause, and by all
abbrev pub FollowsBy : List ℕ → Marked → Marked → Type 0
FollowsBy clause old new = (s : Literals) → IsClosedUnder clause s → IsWithin old s → IsWithin new s

abbrev pub Follows : List (List ℕ) → Marked → Marked → Type 0
Follows clauses old new = (s : Literals) → IsClosed clauses s → IsWithin old s → IsWithin new s

-- each literal below the limit has its negation there
abbrev pub IsEven : Marked → Type 0
IsEven m = length m.marks % 2 ≡ 0

-- what is marked stays marked
abbrev pub IsKept : Marked → Marked → Type 0
IsKept old new = (l : ℕ) → set_of old l ≡ true → set_of new l ≡ true

-- what came stays in its place
abbrev pub IsPrefix : Marked → Marked → Type 0
IsPrefix old new = (j : ℕ) → j < length old.order → slice_index new.order j ≡ slice_index old.order j

-- the literals in the order are the marked ones
abbrev pub AreMarked : Marked → Type 0
AreMarked m = (j : ℕ) → j < length m.order → set_of m (slice_index m.order j) ≡ true

abbrev pub ArePlaced : Marked → Type 0
ArePlaced m = (l : ℕ) → set_of m l ≡ true → (j : ℕ) × (j < length m.order) × (slice_index m.order j ≡ l)
