use Rattle.std.proofs.Common.{◌≡◌}
use Rattle.std.specs.Io.KnownBytes.{prepend_known, Keeps}
use Rattle.aigertext.proofs.reading.front.read_front.Given as goal

abbrev pub invariant-loop-text : goal.invariant-loop-text
invariant-loop-text g l = record {
  kept : Keeps (prepend_known l.initial.text.items (g.S.Source.to_come l.initial.source)) (prepend_known l.text.items (g.S.Source.to_come l.source));
  counted : g.S.Source.failures l.source ≡ g.S.Source.failures l.initial.source;
}

abbrev pub decreases-loop-text : goal.decreases-loop-text
decreases-loop-text g l = g.S.Source.calls_left l.source
