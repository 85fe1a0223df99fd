-- Clauses that are kept by their ids.
use Rattle.std.specs.Prelude.{◌≡◌, ℕ, suc, ◌+◌, ◌*◌, ◌<◌, ◌≤◌, ◌==◌, nat_lt, Bool, false, if◌then◌else◌, List, [], ◌∷◌, length, All, slice_index_or, Option, Some, None}
use Rattle.drup.specs.declared.named.Named.TheInside.{Inside}
use Rattle.drup.specs.ClauseLists.{literal_count}
use Rattle.drup.specs.IdPlaces.{IdPlaces, place_of}

-- the clauses that are held by their places, with those that were taken away; the id of each; of each id that has a clause its place; and how many literals were
-- taken away, at most
pub record Kept : Type 0 where
  pub clauses : List (List ℕ)
  pub ids : List ℕ
  pub places : IdPlaces
  pub dead : ℕ

abbrev pub kept_of : Inside → Kept
kept_of n = record { clauses = n.clauses; ids = n.ids.items; places = n.places; dead = n.dead }

-- the clause at a place
abbrev pub at_place : List (List ℕ) → Option ℕ → Option (List ℕ)
at_place clauses None = None
at_place clauses (Some k) = Some (slice_index_or clauses k [])

-- the clause of an id, where it has one
abbrev pub clause_of : Kept → ℕ → Option (List ℕ)
clause_of n id = at_place n.clauses (place_of n.places id)

-- a place is this one
abbrev pub is_at : ℕ → Option ℕ → Bool
is_at k None = false
is_at k (Some p) = p == k

-- how many literals those of some clauses have together that stand, by the places of ids and from a place on
abbrev pub standing_from : (ℕ → Option ℕ) → ℕ → List (List ℕ) → List ℕ → ℕ
standing_from places k [] ids = 0
standing_from places k (clause ∷ clauses) [] = 0
standing_from places k (clause ∷ clauses) (id ∷ ids) = (if is_at k (places id) then length clause else 0) + standing_from places (suc k) clauses ids

abbrev pub standing_count : Kept → ℕ
standing_count n = standing_from (place_of n.places) 0 n.clauses n.ids

-- by the places of ids: each place has a clause of that id, literals are below a limit, and those that are held stand or were taken away
pub record AreNamedBy (places : ℕ → Option ℕ) (clauses : List (List ℕ)) (ids : List ℕ) (dead limit : ℕ) : Type 0 where
  pub as_many : length ids ≡ length clauses
  pub inside : (id k : ℕ) → places id ≡ Some k → k < length clauses
  pub own : (id k : ℕ) → places id ≡ Some k → slice_index_or ids k 0 ≡ id
  pub below : All (All (λ l. l < limit)) clauses
  pub held : literal_count clauses ≤ standing_from places 0 clauses ids + dead

abbrev pub AreNamed : Kept → ℕ → Type 0
AreNamed n limit = AreNamedBy (place_of n.places) n.clauses n.ids n.dead limit

-- no more literals are held than twice those of the clauses that stand, and some
abbrev pub IsTight : Kept → Type 0
IsTight n = literal_count n.clauses ≤ 2 * standing_count n + 2049

-- a place that is before another
abbrev pub before : ℕ → Option ℕ → Option ℕ
before k None = None
before k (Some p) = if nat_lt p k then Some p else None

-- of clauses by their ids those that stand before a place were put together anew
pub record IsSweptTo (k : ℕ) (old new : Kept) : Type 0 where
  pub same : (id : ℕ) → clause_of new id ≡ at_place old.clauses (before k (place_of old.places id))
  pub named : (limit : ℕ) → AreNamed old limit → AreNamed new limit
  pub none : new.dead ≡ 0
