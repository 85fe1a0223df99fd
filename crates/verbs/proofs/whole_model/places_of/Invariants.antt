use Rattle.verbs.specs.Subjects.{test_of}
use Rattle.verbs.proofs.PlaceLemmas.{AreFirst}
use Rattle.verbs.proofs.whole_model.places_of.Given as goal

-- the lines of the kind so far stand at these places
abbrev pub invariant-loop-place : goal.invariant-loop-place
invariant-loop-place l = record { first : AreFirst (test_of l.kind) l.model l.place l.places.items }
