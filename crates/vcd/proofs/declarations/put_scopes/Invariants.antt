use Rattle.std.proofs.Common.{◌≡◌, drop, flat_map}
use Rattle.base.specs.Lines.{text_of_lines}
use Rattle.base.proofs.PenLemmas.{Writing}
use Rattle.vcd.specs.Dumps.{scope_lines}
use Rattle.vcd.specs.Signals.{scopes}
use Rattle.vcd.specs.Stands.{scope_marks}
use Rattle.vcd.proofs.declarations.put_scopes.Given as goal

abbrev pub invariant-loop-scope : goal.invariant-loop-scope
invariant-loop-scope g l = record {
  puts : Writing g.K.Sink.written g.K.Sink.failures l.initial.sink l.sink l.initial.pen l.pen (text_of_lines (flat_map (scope_lines l.shown l.model) scopes)) (text_of_lines (flat_map (scope_lines l.shown l.model) (drop l.scope-index scopes)));
  marks : l.rest ≡ flat_map (scope_marks l.shown l.model) (drop l.scope-index scopes);
}
