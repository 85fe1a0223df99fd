use Rattle.std.proofs.Common.{sym, ap, ◌∙◌, length, arith}
use Rattle.std.proofs.lemmas.Fmt.{decimal_nonempty}
use Rattle.base.proofs.CounterLemmas.{low_digit, high_digit}
use Rattle.base.proofs.counter.+raise_digits.Goals as goal

pub returns-in_default-clause-next : goal.returns-in_default-clause-next
returns-in_default-clause-next t c n small is = absurd (omega (arith, c.in_default.ensures.cases, ap length is, decimal_nonempty n small))

pub returns-then-last-lt57-clause-next : goal.returns-then-last-lt57-clause-next
returns-then-last-lt57-clause-next t c n small is = low_digit n c.in-Some.front.now c.in-Some.last.now small (sym c.in-Some.ensures.cases.0 ∙ is) c.if-last-lt57.true

pub returns-clause-next : goal.returns-clause-next
returns-clause-next t c n small is =
    high_digit n c.in-Some.front.now c.raise_digits.new.digits c.in-Some.last.now c.raise_digits.result small (sym c.in-Some.ensures.cases.0 ∙ is) c.if-last-lt57.false c.raise_digits.ensures.none c.raise_digits.ensures.next
