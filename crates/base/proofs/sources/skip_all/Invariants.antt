use Rattle.std.proofs.Common.{◌≡◌}
use Rattle.base.proofs.sources.skip_all.Given as goal

abbrev pub invariant-loop : goal.invariant-loop
invariant-loop g l = g.S.Source.failures l.source ≡ g.S.Source.failures l.initial.source

abbrev pub decreases-loop : goal.decreases-loop
decreases-loop g l = g.S.Source.calls_left l.source
