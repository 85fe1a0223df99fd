use Rattle.std.proofs.Common.{arith}
use Rattle.aigertext.proofs.PlainNumberLemmas.{first_digit, zero_before, next_digit}
use Rattle.aigertext.proofs.reading.plain_numbers.number_before.Goals as goal

pub loop-at-init : goal.loop-at-init
loop-at-init c = record {
  read = rw c.from-value.ensures (first_digit c.args.text.now c.if-first-ge49.true c.if-first-le57.true);
  some = omega (arith, c.from-value.ensures, c.if-first-ge49.true);
}

pub returns-in-len2-up : goal.returns-in-len2-up
returns-in-len2-up c = zero_before c.args.text.now c.args.end c.in-len2-up.len_at_least c.if-first-eq48.true c.if-byte-end.true

pub loop-at-preserved : goal.loop-at-preserved
loop-at-preserved c = record {
  read = rw c.from.ensures (next_digit c.args.text.now c.loop-at.at c.loop-at.value c.loop-at.invariant.read c.loop-at-test.true (c.if-byte-lt48.false, c.if-byte-gt57.false) c.loop-at.invariant.some c.if-value-gt-ROOM.false);
  some = omega (arith, c.loop-at.invariant.some);
}
