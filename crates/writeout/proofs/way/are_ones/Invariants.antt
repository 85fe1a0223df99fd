use Rattle.std.proofs.Common.{◌≡◌, nat_eq, drop}
use Rattle.base.specs.Operator.{ones}
use Rattle.wide.specs.Lines.{number_of_digits}
use Rattle.writeout.proofs.way.are_ones.Given as goal

abbrev pub invariant-loop-digit : goal.invariant-loop-digit
invariant-loop-digit l = nat_eq (number_of_digits l.digits) (ones l.bits) ≡ nat_eq (number_of_digits (drop l.digit-index l.digits)) (ones l.left)
