use Rattle.std.proofs.Common.{◌≡◌, ◌+◌, ◌-◌, ◌*◌, ◌≤◌, length, Some}
use Rattle.aiger.specs.Net.{variables}
use Rattle.aiger.specs.Circuit.{net}
use Rattle.aigertext.specs.InOrder.{ArePutGates, PutsText}
use Rattle.aigertext.proofs.reading.gates.CircuitTakesGates.push_gates.Given as goal

abbrev pub invariant-loop-index : goal.invariant-loop-index
invariant-loop-index l = record {
  puts : PutsText (ArePutGates l.form) l.initial.self l.self (length l.fn.text - length l.rest) (Some l.fn.text) (Some l.rest);
  own : l.own ≡ 2 * (variables (net l.self) + 1);
  few : length l.self.gates ≤ length l.initial.self.gates + l._index;
}
