-- Clauses that stand, with the literals that followed from them so far.
use Rattle.std.specs.Prelude.{◌≡◌, ℕ, ◌<◌, ◌++◌, ◌∷◌, Bool, true, false, List, [], length, All, slice_index_or}
use Rattle.drup.specs.declared.propagator.Propagator.TheInside.{Inside}
use Rattle.drup.specs.Propagation.{Literals, IsClosure, Conflict, MeetsConflict}
use Rattle.drup.specs.Marked.{Marked, IsEven, IsConsistent}
use Rattle.drup.specs.Watched.{IsWatched, AreMet, UnitsMet}
use Rattle.drup.specs.Flat.{standing}
use Rattle.drup.specs.Places.{last_at, AreLinked}

-- a literal's bit in a list tells whether it is in the set
abbrev pub in_list : List Bool → Literals
in_list marks l = slice_index_or marks l false

-- The clauses in the order in which they came, whose literals are below a limit, and for each literal below it whether it followed.
pub record State : Type 0 where
  pub limit : ℕ
  pub clauses : List (List ℕ)
  pub followed : List Bool

-- a clause was added, and what follows from all and from what followed before is kept; it has no conflict
pub record Extended (old : State) (clause : List ℕ) (new : State) : Type 0 where
  pub limit : new.limit ≡ old.limit
  pub clauses : new.clauses ≡ old.clauses ++ clause ∷ []
  pub closure : IsClosure new.clauses (in_list old.followed) (in_list new.followed)
  pub free : Conflict new.clauses (in_list new.followed) → ⊥

-- a clause was added; or propagation with it meets a conflict, and nothing was changed
abbrev pub AddedTo : State → List ℕ → State → Bool → Type 0
AddedTo old clause new true = (new ≡ old) × MeetsConflict (old.clauses ++ clause ∷ []) (in_list old.followed)
AddedTo old clause new false = Extended old clause new

-- what is seen of a propagator
abbrev pub state_of : Inside → State
state_of p = record { limit = length p.trail.marks; clauses = standing p.clauses; followed = p.trail.marks }

-- an even limit, literals below it, and all that follows is marked, without a conflict
pub record KeepsPropagator (clauses : List (List ℕ)) (watched : List ℕ) (lists : List (List ℕ)) (trail : Marked) : Type 0 where
  pub even : IsEven trail
  pub inside : All (All (λ l. l < length trail.marks)) clauses
  pub consistent : IsConsistent trail
  pub low : length trail.marks < 4294967296
  pub are_watched : IsWatched clauses watched lists (length trail.marks)
  pub are_met : AreMet clauses watched trail
  pub units_met : UnitsMet clauses trail

-- and the places of the clauses of each sum are kept
abbrev pub IsPropagator : Inside → Type 0
IsPropagator p =
    KeepsPropagator p.clauses p.watched.items p.lists p.trail × AreLinked p.clauses (last_at p.places) p.places.before.items
