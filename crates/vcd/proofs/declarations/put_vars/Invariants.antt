use Rattle.std.proofs.Common.{◌≡◌, ◌≤◌, drop, filter, length, map, take}
use Rattle.base.specs.Lines.{text_of_lines}
use Rattle.base.proofs.PenLemmas.{Writing}
use Rattle.vcd.specs.Dumps.{var_line}
use Rattle.vcd.specs.Signals.{is_in, signals_in}
use Rattle.vcd.proofs.declarations.put_vars.Given as goal

abbrev pub invariant-loop-place : goal.invariant-loop-place
invariant-loop-place g l = record {
  puts : Writing g.K.Sink.written g.K.Sink.failures l.initial.sink l.sink l.initial.pen l.pen (text_of_lines (map (var_line l.shown l.model l.scope) (signals_in l.shown l.model l.scope))) (text_of_lines (map (var_line l.shown l.model l.scope) (filter (is_in l.shown l.scope) (drop l.place l.model))));
  number : l.number ≡ length (filter (is_in l.shown l.scope) (take l.place l.model));
  few : l.number ≤ l.place;
}
