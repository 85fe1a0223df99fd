use Rattle.std.proofs.Common.{◌≡◌, ◌≤◌, All, map, flat_map, take}
use Rattle.vcd.specs.Signals.{scopes, signals_in}
use Rattle.vcd.specs.Stands.{signal_of}
use Rattle.vcd.proofs.signals.signals.Given as goal

abbrev pub invariant-loop-scope : goal.invariant-loop-scope
invariant-loop-scope l = record {
  pushed : l.signals.items ≡ map (signal_of l.model) (flat_map (signals_in l.shown l.model) (take l.scope-index scopes));
  kept : All (λ s. s.width ≤ 64) l.signals.items;
}
