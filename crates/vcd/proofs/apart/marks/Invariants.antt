use Rattle.std.proofs.Common.{◌≡◌, flat_map, take}
use Rattle.vcd.specs.Signals.{scopes}
use Rattle.vcd.specs.Stands.{scope_marks}
use Rattle.vcd.proofs.apart.marks.Given as goal

abbrev pub invariant-loop-scope : goal.invariant-loop-scope
invariant-loop-scope l = l.marks.items ≡ flat_map (scope_marks l.shown l.model) (take l.scope-index scopes)
