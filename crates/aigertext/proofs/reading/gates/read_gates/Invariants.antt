use Rattle.std.proofs.Common.{◌≡◌, ◌≤◌}
use Rattle.std.specs.Io.KnownBytes.{prepend_known}
use Rattle.aigertext.specs.InOrder.{PutsText}
use Rattle.aigertext.proofs.reading.gates.read_gates.Given as goal

abbrev pub invariant-loop-passed : goal.invariant-loop-passed
invariant-loop-passed g l = record {
  puts :
      PutsText (g.T.TakesGates.puts l.form l.greatest) l.initial.target l.target l.passed (prepend_known l.initial.window.items (g.S.Source.to_come l.initial.source)) (prepend_known l.window.items (g.S.Source.to_come l.source));
  few : g.T.TakesGates.count l.initial.target ≤ l.count → g.T.TakesGates.count l.target ≤ l.count;
  counted : g.S.Source.failures l.source ≡ g.S.Source.failures l.initial.source;
}

abbrev pub decreases-loop-passed : goal.decreases-loop-passed
decreases-loop-passed g l = g.S.Source.calls_left l.source
