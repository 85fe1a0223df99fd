use Rattle.std.proofs.Common.{◌≡◌, ◌-◌, ◌*◌, ◌^◌, ◌<◌}
use Rattle.pieces.proofs.shifts.stages.Given as goal

abbrev pub invariant-counting : goal.invariant-counting
invariant-counting l = record { power : l.power ≡ 2 ^ l.count; least : l.power < 2 * l.width }

abbrev pub decreases-counting : goal.decreases-counting
decreases-counting l = l.width - l.power
