use Rattle.std.proofs.Common.{◌≡◌}
use Rattle.std.specs.Io.KnownBytes.{Consumes}
use Rattle.base.proofs.sources.read_all.Given as goal

abbrev pub invariant-loop-text : goal.invariant-loop-text
invariant-loop-text g l = record {
  taken : Consumes (g.S.Source.to_come l.initial.source) (g.S.Source.to_come l.source) l.text.items;
  counted : g.S.Source.failures l.source ≡ g.S.Source.failures l.initial.source;
}

abbrev pub decreases-loop-text : goal.decreases-loop-text
decreases-loop-text g l = g.S.Source.calls_left l.source
