use Rattle.std.proofs.Common.{subst}
use Rattle.drup.specs.Marked.{ArePlaced}
use Rattle.drup.proofs.TrailLemmas.{placed_in}
use Rattle.drup.proofs.trail.Trail.len.Goals as goal

pub returns-clause-placed : goal.returns-clause-placed
returns-clause-placed c = subst ArePlaced c.self.view_is (placed_in _ _ _ c.self.invariant)
