use Rattle.std.proofs.Common.{◌≡◌, ◌+◌}
use Rattle.aigertext.proofs.AnyOrderLemmas.{PutsOwn}
use Rattle.aigertext.proofs.reading.any_order.push_own.Given as goal

abbrev pub invariant-loop-gate : goal.invariant-loop-gate
invariant-loop-gate l = record {
  puts : PutsOwn l.greatest l.first l.gates l.initial.lists l.lists l.variable l.gate-index;
  in_order : l.variable ≡ l.first + l.gate-index;
}
