-- Clauses that were put together anew.
use Rattle.std.specs.Prelude.{◌≡◌, ℕ, List}
use Rattle.drup.specs.declared.sweep.Swept.{Swept}
use Rattle.drup.specs.Marked.{Marked}
use Rattle.drup.specs.Places.{last_at, AreLinked}
use Rattle.drup.specs.Propagator.{KeepsPropagator}

-- they are these, with what followed from them
pub record IsSweptOf (s : Swept) (clauses : List (List ℕ)) (trail : Marked) : Type 0 where
  pub keeps : KeepsPropagator s.clauses s.watched.items s.lists trail
  pub linked : AreLinked s.clauses (last_at s.places) s.places.before.items
  pub is : s.clauses ≡ clauses
