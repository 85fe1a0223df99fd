-- What a step of unit propagation does to a set of marked literals.
use Rattle.std.specs.Prelude.{◌≡◌, ◌≢◌, ℕ, ◌<◌, ◌≤◌, Bool, true, false, List, [], length, Contains, slice_index, slice_index_or}
use Rattle.base.specs.Literal.{negation}
use Rattle.drup.specs.Propagation.{Literals, AllNegated}
use Rattle.drup.specs.Marked.{Marked, set_of, IsConsistent, IsSettled, IsWithin, IsKept, IsPrefix, FollowsBy, Follows}

-- a literal of a clause that is not negated
abbrev pub IsOpen : List ℕ → ℕ → Literals → Type 0
IsOpen clause l s = Contains clause l × (s (negation l) ≡ false)

-- the place of a literal of a clause, other than one, that is not negated
abbrev pub IsOpenPlace : List ℕ → ℕ → ℕ → Literals → Type 0
IsOpenPlace clause place one s = (place < length clause) × (s (negation (slice_index clause place)) ≡ false) × (slice_index clause place ≢ one)

-- each literal of a stretch of a clause, other than one, is negated
abbrev pub StretchNegated : List ℕ → ℕ → ℕ → ℕ → Literals → Type 0
StretchNegated clause start end one s = (i : ℕ) → start ≤ i → i < end → slice_index clause i ≢ one → s (negation (slice_index clause i)) ≡ true

-- a set of marked literals has grown: by what follows, within its limit, and consistently
pub record GrowsMarked (clauses : List (List ℕ)) (old new : Marked) : Type 0 where
  pub follows : Follows clauses old new
  pub consistent : IsConsistent new
  pub as_many : length new.marks ≡ length old.marks
  pub longer : length old.order ≤ length new.order
  pub kept : IsKept old new
  pub prefix : IsPrefix old new

-- what was done with one clause
pub record GrowsBy (clause : List ℕ) (old new : Marked) : Type 0 where
  pub follows : FollowsBy clause old new
  pub consistent : IsConsistent new
  pub as_many : length new.marks ≡ length old.marks
  pub longer : length old.order ≤ length new.order
  pub kept : IsKept old new
  pub prefix : IsPrefix old new

abbrev pub Took : List ℕ → Marked → Marked → Bool → Type 0
Took clause old new true = (new ≡ old) × AllNegated clause (set_of new)
Took clause old new false = GrowsBy clause old new × (length new.order ≡ length old.order → (new ≡ old) × IsSettled clause (set_of new))

-- some clause is falsified; every clause is settled
abbrev pub Falsifies : List (List ℕ) → Marked → Type 0
Falsifies clauses m = (k : ℕ) × (0 < length (slice_index_or clauses k [])) × AllNegated (slice_index_or clauses k []) (set_of m)

abbrev pub AreSettled : List (List ℕ) → Marked → Type 0
AreSettled clauses m = (k : ℕ) → 0 < length (slice_index_or clauses k []) → IsSettled (slice_index_or clauses k []) (set_of m)

-- after all passes: whether a conflict was met
abbrev pub Finished : List (List ℕ) → Marked → Marked → Bool → Type 0
Finished clauses old new true = GrowsMarked clauses old new × Falsifies clauses new
Finished clauses old new false = GrowsMarked clauses old new × AreSettled clauses new

pub record Assumes (l : ℕ) (old new : Marked) : Type 0 where
  pub follows : (s : Literals) → IsWithin old s → s (negation l) ≡ true → IsWithin new s
  pub consistent : IsConsistent new
  pub as_many : length new.marks ≡ length old.marks
  pub longer : length old.order ≤ length new.order
  pub kept : IsKept old new
  pub prefix : IsPrefix old new
  pub negated : set_of new (negation l) ≡ true

-- a literal's negation is assumed, or the literal was
abbrev pub AssumedOne : ℕ → Marked → Marked → Bool → Type 0
AssumedOne l old new true = (set_of old l ≡ true) × (new ≡ old)
AssumedOne l old new false = Assumes l old new

-- the negations of a clause's literals are assumed, or they contradict one another
pub record AssumesAll (clause : List ℕ) (i : ℕ) (old new : Marked) : Type 0 where
  pub follows : (s : Literals) → IsWithin old s → AllNegated clause s → IsWithin new s
  pub consistent : IsConsistent new
  pub as_many : length new.marks ≡ length old.marks
  pub longer : length old.order ≤ length new.order
  pub kept : IsKept old new
  pub prefix : IsPrefix old new
  pub negated : (j : ℕ) → j < i → set_of new (negation (slice_index clause j)) ≡ true

-- marks were added behind the others
pub record Extends (old new : Marked) : Type 0 where
  pub as_many : length new.marks ≡ length old.marks
  pub longer : length old.order ≤ length new.order
  pub kept : IsKept old new
  pub prefix : IsPrefix old new

abbrev pub Contradicts : List ℕ → Marked → Type 0
Contradicts clause old = (s : Literals) → IsWithin old s → AllNegated clause s → (l : ℕ) × (s l ≡ true) × (s (negation l) ≡ true)

abbrev pub Assumed : List ℕ → Marked → Marked → Bool → Type 0
Assumed clause old new true = Contradicts clause old × Extends old new
Assumed clause old new false = AssumesAll clause (length clause) old new
