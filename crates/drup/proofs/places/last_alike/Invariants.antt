use Rattle.std.proofs.Common.{◌≤◌, length}
use Rattle.drup.specs.Places.{last_at, IsLink}
use Rattle.drup.specs.Without.{NoneAlikeFrom}
use Rattle.drup.proofs.places.last_alike.Given as goal

-- the link to the place stands behind, and from there on none is alike
abbrev pub invariant-loop-place : goal.invariant-loop-place
invariant-loop-place l = record {
  link : IsLink l.clauses (last_at l.places) l.places.before.items l.sum l.place l.behind;
  none : NoneAlikeFrom l.clauses l.clause l.behind;
  within : l.behind ≤ length l.clauses;
}

abbrev pub decreases-loop-place : goal.decreases-loop-place
decreases-loop-place l = l.behind
