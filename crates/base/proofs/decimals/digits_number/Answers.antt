use Rattle.std.proofs.Common.{◌≡◌, ◌≤◌, get_or, true, inl, inr, refl, sym, subst, ◌∙◌, Some}
use Rattle.std.proofs.lemmas.List.{take_all}
use Rattle.base.specs.Decimals.{are_digits, capped_value}
use Rattle.base.proofs.DecimalLemmas.{capped_value-nil, capped_value_more, digits_more, digits_not, digits_all}
use Rattle.base.proofs.decimals.digits_number.Goals as goal
use Rattle.base.proofs.decimals.digits_number.Goals.{then-byte-lt48-via-then-byte-lt48, then-byte-lt48-via-else-byte-lt48+then-byte-gt57}

pub loop-byte-init : goal.loop-byte-init
loop-byte-init c = (refl, capped_value-nil)

pub returns-then-byte-lt48 : goal.returns-then-byte-lt48
returns-then-byte-lt48 c = sym (digits_not c.args.bytes.now c.loop-byte.byte-index c.loop-byte-test.true
    (elim c.then-byte-lt48.branch [
      | then-byte-lt48-via-then-byte-lt48 w ↦ inl w.if-byte-lt48.true
      | then-byte-lt48-via-else-byte-lt48+then-byte-gt57 w ↦ inr w.if-byte-gt57.true
    ]))

pub loop-byte-preserved : goal.loop-byte-preserved
loop-byte-preserved c =
    let range : (48 ≤ get_or c.args.bytes.now c.loop-byte.byte-index 0) × (get_or c.args.bytes.now c.loop-byte.byte-index 0 ≤ 57) = (c.if-byte-lt48.false, c.if-byte-gt57.false) in
    let more = capped_value_more c.args.bytes.now c.loop-byte.byte-index c.loop-byte-test.true range in (
      digits_more c.args.bytes.now c.loop-byte.byte-index c.loop-byte-test.true range c.loop-byte.invariant.0,
      c.with_digit-value.ensures ∙ (rw (c.from.ensures, c.loop-byte.invariant.1) (sym more)),
    )

pub returns : goal.returns
returns c =
    let whole = take_all c.loop-byte.byte-index c.args.bytes.now c.loop-byte-test.false in
    sym (digits_all c.args.bytes.now (subst (λ l. are_digits l ≡ true) whole c.loop-byte.invariant.0)
    ∙ subst (λ l. Some (capped_value l) ≡ Some c.loop-byte.value) whole (rw (c.loop-byte.invariant.1) refl))
