use Rattle.std.proofs.Common.{List, ℕ, length, ap, ◌∙◌}
use Rattle.drup.specs.Flat.{standing}
use Rattle.drup.proofs.StandingLemmas.{standing-twice}
use Rattle.drup.proofs.propagator.Propagator.sweep.Goals as goal

pub returns-in-Ok : goal.returns-in-Ok
returns-in-Ok c =
    ap (λ (cs : List (List ℕ)). record { limit = length c.self.inside.trail.marks; clauses = cs; followed = c.self.inside.trail.marks })
    (ap standing c.in-Ok.ensures.is ∙ standing-twice c.self.inside.clauses) ∙ c.self.view_is
