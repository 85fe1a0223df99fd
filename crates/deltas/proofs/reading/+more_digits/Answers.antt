use Rattle.std.proofs.Common.{arith, ◌+◌, ◌-◌}
use Rattle.deltas.proofs.DigitReadLemmas.{power_low, power_high}
use Rattle.deltas.proofs.reading.+more_digits.Goals as goal

pub returns-then-byte-lt128-clause-small : goal.returns-then-byte-lt128-clause-small
returns-then-byte-lt128-clause-small t c = omega (arith, power_low c.args.more c.requires, c.if-byte-lt128.true, c.from.ensures)

pub overflow_mul-result : goal.overflow_mul-result
overflow_mul-result t c = omega (arith, power_high (c.args.more - 1 + 1) (omega arith), c.in_ok-higher-in-len1-up.ensures.small)

pub overflow_add-result : goal.overflow_add-result
overflow_add-result t c = omega (arith, power_high (c.args.more - 1 + 1) (omega arith), c.in_ok-higher-in-len1-up.ensures.small, c.from-in-len1-up.ensures, c.type_inv.text 0)
