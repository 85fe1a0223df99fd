use Rattle.std.proofs.Common.{◌≡◌, true, take}
use Rattle.std.specs.List.{list_all}
use Rattle.tidy.specs.Steps.{is_plain}
use Rattle.tidy.proofs.tidier.plain_run.Given as goal

abbrev pub invariant-loop-at : goal.invariant-loop-at
invariant-loop-at l = list_all (is_plain l.takes_x) (take l.at l.bytes) ≡ true
