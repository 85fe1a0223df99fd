use Rattle.std.proofs.Common.{◌≤◌, length, take}
use Rattle.fitting.specs.Steps.{AddsInits}
use Rattle.fitting.proofs.transitions.begin.Given as goal

abbrev pub invariant-loop-k : goal.invariant-loop-k
invariant-loop-k l = record {
  within : l.k ≤ length l.state;
  adds : AddsInits l.fn.maker l.maker (take l.k l.state) (take l.k l.value);
}
