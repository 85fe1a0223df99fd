-- Two watched literals of each clause: watch 2k and watch 2k + 1 are those of clause k.
use Rattle.std.specs.Prelude.{◌≡◌, ◌≢◌, ℕ, ◌+◌, ◌*◌, ◌/◌, ◌<◌, ◌≤◌, ◌++◌, ◌∷◌, ◌⊎◌, Bool, true, false, List, [], Option, Some, None, Contains, length, slice_set, slice_index, slice_index_or}
use Rattle.std.specs.List.{swap_remove}
use Rattle.base.specs.Literal.{negation}
use Rattle.drup.specs.Propagation.{AllNegated}
use Rattle.drup.specs.Marked.{Marked, set_of}
use Rattle.drup.specs.Growth.{IsOpen, GrowsBy, Falsifies}
use Rattle.drup.specs.Lists.{list_at}
use Rattle.drup.specs.declared.watches.Visit.{Visit}
use Rattle.drup.specs.declared.watches.Visit.TheVariants as visit

-- whether a watch is that of a literal
abbrev pub Watches : List ℕ → ℕ → ℕ → Bool → Type 0
Watches watched n l true = (n < length watched) × (slice_index watched n ≡ l)
Watches watched n l false = n < length watched → slice_index watched n ≢ l

-- what a look at a clause shows
abbrev pub Visited : List ℕ → ℕ → Marked → Marked → Visit → Type 0
Visited clause other old new visit.Conflict = (new ≡ old) × AllNegated clause (set_of new)
Visited clause other old new visit.Keep = GrowsBy clause old new × (set_of new other ≡ true)
Visited clause other old new (visit.Move l) = (new ≡ old) × IsOpen clause l (set_of old) × (l ≢ other)

-- the clause of a watch
abbrev pub clause_at : List (List ℕ) → ℕ → List ℕ
clause_at clauses n = slice_index_or clauses (n / 2) []

-- Two watches for each clause: literals of it; two different ones, if it has two; and each watch stands in the list of its literal.
-- As many lists as literals; what else stands in them counts for nothing.
pub record IsWatched (clauses : List (List ℕ)) (watched : List ℕ) (lists : List (List ℕ)) (limit : ℕ) : Type 0 where
  pub two_each : length watched ≡ 2 * length clauses
  pub many_lists : length lists ≡ limit
  pub inside : (n : ℕ) → n < length watched → slice_index watched n < limit → Contains (clause_at clauses n) (slice_index watched n)
  pub listed : (n : ℕ) → n < length watched → slice_index watched n < limit → Contains (list_at lists (slice_index watched n)) n
  pub live : (n : ℕ) → n < length watched → 0 < length (clause_at clauses n) → slice_index watched n < limit
  pub differ : (n : ℕ) → n < length watched → slice_index watched n ≡ slice_index watched (negation n) → (i : ℕ) → i < length (clause_at clauses n) → slice_index (clause_at clauses n) i ≡ slice_index watched n

-- some literal of a clause is marked
abbrev pub IsMet : List ℕ → Marked → Type 0
IsMet clause m = (l : ℕ) × Contains clause l × (set_of m l ≡ true)

-- each clause that watches the negation of one of the first literals of a trail has a marked literal
abbrev pub Processed : List (List ℕ) → List ℕ → Marked → ℕ → Type 0
Processed clauses watched m head =
    (n j : ℕ) → n < length watched → j < head → slice_index m.order j ≡ negation (slice_index watched n) → IsMet (clause_at clauses n) m

-- each clause that watches a literal has a marked literal, or stands in the literal's list from a place on
abbrev pub IsAhead : List (List ℕ) → List ℕ → List (List ℕ) → ℕ → ℕ → Marked → ℕ → Type 0
IsAhead clauses watched lists negated place m n =
    slice_index watched n ≡ negated → IsMet (clause_at clauses n) m ⊎ ((j : ℕ) × (place ≤ j) × (j < length (list_at lists negated)) × (slice_index (list_at lists negated) j ≡ n))

abbrev pub Walks : List (List ℕ) → List ℕ → List (List ℕ) → ℕ → ℕ → Marked → Type 0
Walks clauses watched lists negated place m = (n : ℕ) → n < length watched → IsAhead clauses watched lists negated place m n

-- the other watch of a watch's clause is of a marked literal
abbrev pub IsPassed : List ℕ → ℕ → Marked → Type 0
IsPassed watched n m = (negation n < length watched) × (set_of m (slice_index watched (negation n)) ≡ true)

-- so it is with each watch of a stretch of a list
abbrev pub ArePassed : List ℕ → List ℕ → ℕ → ℕ → Marked → Type 0
ArePassed list watched place next m = (j : ℕ) → place ≤ j → j < next → IsPassed watched (slice_index list j) m

-- a watch was moved from a place of one list to the end of another
pub record Moved (watched : List ℕ) (lists : List (List ℕ)) (negated place literal : ℕ) (watched' : List ℕ) (lists' : List (List ℕ)) : Type 0 where
  pub watch : watched' ≡ slice_set watched (slice_index (list_at lists negated) place) literal
  pub left : list_at lists' negated ≡ swap_remove (list_at lists negated) place 0
  pub came : list_at lists' literal ≡ list_at lists literal ++ slice_index (list_at lists negated) place ∷ []
  pub others : (l : ℕ) → l ≢ negated → l ≢ literal → list_at lists' l ≡ list_at lists l
  pub as_many : length lists' ≡ length lists

-- what a look at the watch at a place keeps and brings: a watch changes only to a literal that is not negated
pub record AdvancesWatch (clauses : List (List ℕ)) (negated place : ℕ) (watched : List ℕ) (lists : List (List ℕ)) (old : Marked) (watched' : List ℕ) (lists' : List (List ℕ)) (new : Marked) (next : ℕ) : Type 0 where
  pub ahead : Walks clauses watched lists negated place old → Walks clauses watched' lists' negated next new
  pub processed : (head : ℕ) → head ≤ length old.order → Processed clauses watched old head → Processed clauses watched' new head
  pub as_many : length watched' ≡ length watched
  pub nearer : length (list_at lists' negated) + place < length (list_at lists negated) + next
  pub within : next ≤ length (list_at lists' negated)

abbrev pub Entered : List (List ℕ) → ℕ → ℕ → List ℕ → List (List ℕ) → Marked → List ℕ → List (List ℕ) → Marked → Option ℕ → Type 0
Entered clauses negated place watched lists old watched' lists' new None = Falsifies clauses new
Entered clauses negated place watched lists old watched' lists' new (Some next) = AdvancesWatch clauses negated place watched lists old watched' lists' new next

-- what going through the list of a literal keeps and brings
pub record Walked (clauses : List (List ℕ)) (negated : ℕ) (watched : List ℕ) (old : Marked) (watched' : List ℕ) (new : Marked) : Type 0 where
  pub all_met : (n : ℕ) → n < length watched' → slice_index watched' n ≡ negated → IsMet (clause_at clauses n) new
  pub processed : (head : ℕ) → head ≤ length old.order → Processed clauses watched old head → Processed clauses watched' new head
  pub as_many : length watched' ≡ length watched

abbrev pub WalkedTo : List (List ℕ) → ℕ → List ℕ → Marked → List ℕ → Marked → Bool → Type 0
WalkedTo clauses negated watched old watched' new true = Falsifies clauses new
WalkedTo clauses negated watched old watched' new false = Walked clauses negated watched old watched' new

-- each clause with a negated watch has a marked literal
abbrev pub AreMet : List (List ℕ) → List ℕ → Marked → Type 0
AreMet clauses watched m = (n : ℕ) → n < length watched → set_of m (negation (slice_index watched n)) ≡ true → IsMet (clause_at clauses n) m

abbrev pub Propagated : List (List ℕ) → List ℕ → Marked → Bool → Type 0
Propagated clauses watched new true = Falsifies clauses new
Propagated clauses watched new false = AreMet clauses watched new

-- each watch is what it was, or a literal that is not negated
pub record Stays (watched watched' : List ℕ) (m : Marked) : Type 0 where
  pub as_many : length watched' ≡ length watched
  pub same : (n : ℕ) → n < length watched' → (slice_index watched' n ≡ slice_index watched n) ⊎ (set_of m (negation (slice_index watched' n)) ≡ false)

-- a clause of one literal, however often; each has a marked literal
abbrev pub IsUnit : List ℕ → Type 0
IsUnit clause = (0 < length clause) × ((i : ℕ) → i < length clause → slice_index clause i ≡ slice_index clause 0)

abbrev pub UnitsMet : List (List ℕ) → Marked → Type 0
UnitsMet clauses m = (k : ℕ) → k < length clauses → IsUnit (slice_index_or clauses k []) → IsMet (slice_index_or clauses k []) m

-- the two literals that a new clause is to watch: one of them is marked, or both are not negated
pub record Chosen (clause : List ℕ) (first second : ℕ) (m : Marked) : Type 0 where
  pub first_in : Contains clause first
  pub second_in : Contains clause second
  pub only : second ≡ first → (i : ℕ) → i < length clause → slice_index clause i ≡ first
  pub fit : (set_of m first ≡ true) ⊎ ((set_of m (negation first) ≡ false) × (set_of m (negation second) ≡ false) × (second ≢ first))

-- two literals that a clause can watch: where one of them is negated, or the clause has one literal, another is marked
pub record CanWatch (clause : List ℕ) (first second : ℕ) (m : Marked) : Type 0 where
  pub first_in : Contains clause first
  pub second_in : Contains clause second
  pub only : second ≡ first → (i : ℕ) → i < length clause → slice_index clause i ≡ first
  pub first_met : set_of m (negation first) ≡ true → IsMet clause m
  pub second_met : set_of m (negation second) ≡ true → IsMet clause m
  pub unit_met : IsUnit clause → IsMet clause m

-- what a new clause brings: a conflict, or what follows of it and two literals to watch
abbrev pub Brought : List (List ℕ) → List ℕ → List ℕ → Marked → Option (ℕ × ℕ) → Type 0
Brought clauses clause watched m None = Falsifies clauses m ⊎ AllNegated clause (set_of m)
Brought clauses clause watched m (Some both) = AreMet clauses watched m × Chosen clause both.0 both.1 m
