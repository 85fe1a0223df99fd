use Rattle.std.proofs.Common.{◌≡◌, ◌-◌, List, ℕ, ◌∷◌, ◌++◌, None, decimal, length, get_or, sym, ap, subst, ◌∙◌, arith}
use Rattle.base.proofs.DecimalLemmas.{digit_range}
use Rattle.witness.proofs.PlainLineLemmas.{IsRead, read_first, read_more, room, first_there, number_ends}
use Rattle.witness.proofs.plain_line.number_before.Goals as goal

pub loop-at-init : goal.loop-at-init
loop-at-init c = rw c.from-value.ensures (read_first c.args.text.now c.in_ok-first.field-0-1.now c.in_ok-first.first.now c.in_ok-first.ensures.cases.0 (sym c.is_digit.ensures ∙ c.if-not-is_digit.false), omega (arith, c.from-value.ensures, c.if-value-eq0.false))

pub overflow_mul-value : goal.overflow_mul-value
overflow_mul-value c = omega (arith, room c.args.text.now c.loop-at.at c.loop-at.value c.loop-at.invariant.0 (omega arith))

pub overflow_add-value : goal.overflow_add-value
overflow_add-value c =
    omega (arith, room c.args.text.now c.loop-at.at c.loop-at.value c.loop-at.invariant.0 (omega arith), c.from.ensures, digit_range (get_or c.args.text.now c.loop-at.at 0) (sym c.is_digit-in-loop-at.ensures ∙ c.if-not-is_digit-2.false))

pub loop-at-preserved : goal.loop-at-preserved
loop-at-preserved c =
    rw c.from.ensures (read_more c.args.text.now c.loop-at.at c.loop-at.value c.loop-at.invariant.0 (omega (arith, c.min-most.ensures, c.loop-at-test.true)) (sym c.is_digit-in-loop-at.ensures ∙ c.if-not-is_digit-2.false) c.loop-at.invariant.1 (omega (arith, c.min-most.ensures, c.loop-at-test.true)), omega (arith, c.loop-at.invariant.1))

pub returns-then-not-is_digit : goal.returns-then-not-is_digit
returns-then-not-is_digit c n rest few is =
    let there = first_there c.args.text.now rest c.args.end n few is in
    absurd (cc (there.1, ap (λ (l : List ℕ). get_or l 0 0) c.in_ok-first.ensures.cases.0, c.is_digit.ensures, c.if-not-is_digit.true))

pub returns-in-Some : goal.returns-in-Some
returns-in-Some c =
    let told = c.in-Some.ensures in
    let read = read_first c.args.text.now c.in_ok-first.field-0-1.now c.in_ok-first.first.now c.in_ok-first.ensures.cases.0 (sym c.is_digit.ensures ∙ c.if-not-is_digit.false) in
    (omega (arith, told.0, c.from-value.type_inv), told.1 ∙ ap (λ (l : List ℕ). l ++ c.args.end ∷ c.in-Some.alone.1.now) (read.digits ∙ ap decimal (sym (told.0 ∙ c.from-value.ensures))))

pub returns-then-value-eq0 : goal.returns-then-value-eq0
returns-then-value-eq0 c =
    let zero : c.in_ok-first.first.now - 48 ≡ 0 = sym c.from-value.ensures ∙ c.if-value-eq0.true in
    let read = subst (IsRead c.args.text.now 1) zero (read_first c.args.text.now c.in_ok-first.field-0-1.now c.in_ok-first.first.now c.in_ok-first.ensures.cases.0 (sym c.is_digit.ensures ∙ c.if-not-is_digit.false)) in
    number_ends None (λ (x : List ℕ). x) c.args.text.now c.args.end 1 0 c.requires (omega arith) (omega arith) read (λ inside digit more few. omega (arith, more)) c.in_default.ensures

pub returns-then-not-is_digit-2 : goal.returns-then-not-is_digit-2
returns-then-not-is_digit-2 c =
    number_ends c.ended-then-not-is_digit-2.result (λ x. x.now) c.args.text.now c.args.end c.loop-at.at c.loop-at.value c.requires (omega arith) (omega arith) c.loop-at.invariant.0
    (λ inside digit more few. absurd (cc (digit, c.is_digit-in-loop-at.ensures, c.if-not-is_digit-2.true))) c.ended-then-not-is_digit-2.ensures

pub returns : goal.returns
returns c =
    let ends : c.loop-at.at ≡ c.min-most.result = omega (arith, c.loop-at-test.false, c.min-most.ensures, ap length c.in_ok-first.ensures.cases.0) in
    number_ends c.ended-2.result (λ x. x.now) c.args.text.now c.args.end c.min-most.result c.loop-at.value c.requires (omega (arith, ends)) (omega arith) (subst (λ (n : ℕ). IsRead c.args.text.now n c.loop-at.value) ends c.loop-at.invariant.0)
    (λ inside digit more few. omega (arith, inside, few, c.min-most.ensures)) c.ended-2.ensures
