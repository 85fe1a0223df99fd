use Rattle.std.proofs.Common.{◌≡◌, ◌≤◌, ◌++◌, All, map, filter, take}
use Rattle.vcd.specs.Signals.{is_in}
use Rattle.vcd.specs.Stands.{signal_of}
use Rattle.vcd.proofs.signals.push_signals.Given as goal

abbrev pub invariant-loop-place : goal.invariant-loop-place
invariant-loop-place l = record {
  pushed : l.signals.items ≡ l.fn.signals.items ++ map (signal_of l.model) (filter (is_in l.shown l.scope) (take l.place l.items));
  kept : All (λ s. s.width ≤ 64) l.signals.items;
}
