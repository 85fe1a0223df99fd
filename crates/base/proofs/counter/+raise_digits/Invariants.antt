use Rattle.std.proofs.Common.{length}
use Rattle.base.proofs.counter.+raise_digits.Given as goal

abbrev pub decreases-raise_digits : goal.decreases-raise_digits
decreases-raise_digits l = length l.digits.now
