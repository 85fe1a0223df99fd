use Rattle.std.proofs.Common.{get_or, refl, sym, ◌∙◌, arith}
use Rattle.base.proofs.DecimalLemmas.{digit_range}
use Rattle.lrat.proofs.WordAtLemmas.{read_first, read_more, room}
use Rattle.lrat.proofs.word_at.number_at.Goals as goal

pub loop-end-init : goal.loop-end-init
loop-end-init c =
    let first = get_or c.args.bytes.now c.args.at 0 in
    let digit = sym c.is_digit.ensures ∙ c.if-not-is_digit.false in
    rw c.from-value.ensures (read_first c.args.bytes.now c.args.at first c.requires refl digit (omega (arith, digit_range first digit, c.if-first-eq48.false)))

pub overflow_mul-value : goal.overflow_mul-value
overflow_mul-value c = omega (arith, room c.args.bytes.now c.args.at c.loop-end.end c.loop-end.value c.loop-end.invariant (omega (arith, c.saturating_add.ensures, c.min-most.ensures, c.loop-end-test.true)))

pub overflow_add-value : goal.overflow_add-value
overflow_add-value c =
    omega
    (arith, room c.args.bytes.now c.args.at c.loop-end.end c.loop-end.value c.loop-end.invariant (omega (arith, c.saturating_add.ensures, c.min-most.ensures, c.loop-end-test.true)), c.from.ensures, digit_range (get_or c.args.bytes.now c.loop-end.end 0) (sym c.is_digit-in-loop-end.ensures ∙ c.if-not-is_digit-2.false))

pub loop-end-preserved : goal.loop-end-preserved
loop-end-preserved c =
    rw c.from.ensures
    (read_more c.args.bytes.now c.args.at c.loop-end.end c.loop-end.value c.loop-end.invariant (omega (arith, c.min-most.ensures, c.loop-end-test.true)) (sym c.is_digit-in-loop-end.ensures ∙ c.if-not-is_digit-2.false)
    (omega (arith, c.saturating_add.ensures, c.min-most.ensures, c.loop-end-test.true)))
