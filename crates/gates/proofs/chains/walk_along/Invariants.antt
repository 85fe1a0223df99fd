use Rattle.std.proofs.Common.{◌≡◌, ◌≤◌, ◌-◌, length}
use Rattle.gates.specs.Chains.{walked}
use Rattle.gates.proofs.chains.walk_along.Given as goal

abbrev pub invariant-loop : goal.invariant-loop
invariant-loop l = record {
  inside : l.entry ≤ length l.gates;
  rest : walked l.gates l.before l.pair l.turns l.first ≡ walked l.gates l.before l.pair (l.turns - l.counter) l.entry;
}
