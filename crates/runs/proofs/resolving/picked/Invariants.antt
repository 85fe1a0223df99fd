use Rattle.std.proofs.Common.{◌≡◌, map, take, get_or}
use Rattle.runs.proofs.resolving.picked.Given as goal

abbrev pub invariant-loop-place : goal.invariant-loop-place
invariant-loop-place l = l.chosen.items ≡ map (λ k. get_or l.slots k 0) (take l.place-index l.places)
