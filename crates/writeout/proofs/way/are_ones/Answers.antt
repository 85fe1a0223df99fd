use Rattle.std.proofs.Common.{ℕ, ◌+◌, ◌≤◌, nat_eq, sym, ap, ◌∙◌, arith}
use Rattle.std.proofs.lemmas.List.{at_drop_more, at_drop_all}
use Rattle.base.specs.Operator.{ones}
use Rattle.wide.specs.Lines.{number_of_digits}
use Rattle.writeout.proofs.DigitLemmas.{ones_digit, other_digit, power_is, no_digits}
use Rattle.writeout.proofs.way.are_ones.Goals as goal

pub loop-digit-preserved : goal.loop-digit-preserved
loop-digit-preserved c =
    let few : c.min-part.result ≤ 64 = omega (arith, c.min-part.ensures) in
    c.loop-digit.invariant
    ∙ at_drop_more (λ ds. nat_eq (number_of_digits ds) (ones c.loop-digit.left)) c.args.digits.now c.loop-digit.digit-index 0 c.loop-digit-test.true
    ∙ ones_digit c.loop-digit.left c.min-part.result _ _ c.min-part.ensures (ap (λ (n : ℕ). n + 1) (sym c.from.ensures) ∙ c.if-from-part.false ∙ power_is c.min-part.result few)

pub returns-then-from-part : goal.returns-then-from-part
returns-then-from-part c =
    let few : c.min-part.result ≤ 64 = omega (arith, c.min-part.ensures) in
    sym
    (c.loop-digit.invariant
    ∙ at_drop_more (λ ds. nat_eq (number_of_digits ds) (ones c.loop-digit.left)) c.args.digits.now c.loop-digit.digit-index 0 c.loop-digit-test.true
    ∙ other_digit c.loop-digit.left c.min-part.result _ _ c.min-part.ensures (omega (arith, c.type_inv.digits c.loop-digit.digit-index))
    (λ e. c.if-from-part.true (ap (λ (n : ℕ). n + 1) c.from.ensures ∙ e ∙ sym (power_is c.min-part.result few))))

pub returns : goal.returns
returns c =
    sym
    (c.loop-digit.invariant
    ∙ at_drop_all (λ ds. nat_eq (number_of_digits ds) (ones c.loop-digit.left)) c.args.digits.now c.loop-digit.digit-index c.loop-digit-test.false
    ∙ no_digits c.loop-digit.left)
