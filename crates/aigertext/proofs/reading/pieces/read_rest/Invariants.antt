use Rattle.std.proofs.Common.{◌≡◌}
use Rattle.std.specs.Io.KnownBytes.{prepend_known, Keeps}
use Rattle.aigertext.proofs.reading.pieces.read_rest.Given as goal

abbrev pub invariant-loop : goal.invariant-loop
invariant-loop g l = record {
  kept : Keeps (prepend_known l.initial.bytes.items (g.S.Source.to_come l.initial.source)) (prepend_known l.bytes.items (g.S.Source.to_come l.source));
  counted : g.S.Source.failures l.source ≡ g.S.Source.failures l.initial.source;
}

abbrev pub decreases-loop : goal.decreases-loop
decreases-loop g l = g.S.Source.calls_left l.source
