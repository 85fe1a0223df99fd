use Rattle.std.proofs.Common.{◌++◌, List, ℕ, ap, refl, ◌∙◌, arith}
use Rattle.unfit.proofs.DigitLemmas.{digits_more, all_digits}
use Rattle.unfit.proofs.digits.add_digits.Goals as goal

pub loop-place-init : goal.loop-place-init
loop-place-init c = record { digits = refl; many = omega arith }

pub loop-place-preserved : goal.loop-place-preserved
loop-place-preserved c =
    rw (c.byte.ensures, c.digit.ensures, c.bit_at.ensures) (record {
      digits = digits_more c.args.width c.args.word c.loop-place.place _ c.loop-place.line c.loop-place-test.true c.loop-place.invariant.digits;
      many = omega (arith, c.loop-place.invariant.many);
    })

pub returns-clause-digits : goal.returns-clause-digits
returns-clause-digits c = c.loop-place.invariant.digits ∙ ap (λ (l : List ℕ). l ++ c.args.line.now) (all_digits c.args.width c.args.word c.loop-place.place (omega arith))
