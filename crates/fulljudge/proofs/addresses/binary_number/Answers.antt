use Rattle.std.proofs.Common.{arith}
use Rattle.fulljudge.proofs.AddressLemmas.{digits_small, digit_more}
use Rattle.fulljudge.proofs.addresses.binary_number.Goals as goal

pub overflow_mul-number : goal.overflow_mul-number
overflow_mul-number c = omega (arith, digits_small c.loop-byte.number c.args.digits.now c.loop-byte.byte-index c.loop-byte.invariant c.loop-byte-test.true c.requires)

pub loop-byte-preserved : goal.loop-byte-preserved
loop-byte-preserved c = digit_more c.loop-byte.number c.in_ok-bit.bit c.args.digits.now c.loop-byte.byte-index c.loop-byte.invariant c.loop-byte-test.true c.in_ok-bit.ensures.0 c.in_ok-bit.ensures.1
