use Rattle.std.proofs.Common.{◌≡◌, ◌-◌, ◌≤◌, length, drop}
use Rattle.certificates.specs.Reading.{without_zeros}
use Rattle.certificates.proofs.names.without_zeros.Given as goal

-- only zeros stand before, and the last digit is not among them
abbrev pub invariant-loop-at : goal.invariant-loop-at
invariant-loop-at l = (l.at ≤ length l.digits) × (without_zeros (drop l.at l.digits) ≡ without_zeros l.digits)

abbrev pub decreases-loop-at : goal.decreases-loop-at
decreases-loop-at l = length l.digits - l.at
