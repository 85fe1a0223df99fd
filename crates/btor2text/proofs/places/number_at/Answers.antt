use Rattle.std.proofs.Common.{◌≡◌, ◌≤◌, get_or, true, inl, inr, refl, arith}
use Rattle.btor2text.specs.Tokens.{is_blank}
use Rattle.btor2text.proofs.NumberLemmas.{read_more, read_to_blank, read_to_end}
use Rattle.btor2text.proofs.places.number_at.Goals as goal

pub loop-at-preserved : goal.loop-at-preserved
loop-at-preserved c = read_more c.args.line.now c.loop-at.at c.loop-at.value c.from-digit.result c.loop-at.invariant c.loop-at-test.true c.from-digit.ensures (omega (arith, c.from-digit.ensures, c.type_inv.line c.loop-at.at)) c.if-digit-gt9.false

pub returns-then-digit-gt9 : goal.returns-then-digit-gt9
returns-then-digit-gt9 c =
    let blank : is_blank (get_or c.args.line.now c.loop-at.at 0) ≡ true =
    elim c.if-byte-ne9.either [
      | inl tab ↦ rw tab.1 refl
      | inr space ↦ rw space refl
    ] in
    rw (c.from-then-digit-gt9.ensures, c.split_at.ensures.back) (read_to_blank c.args.line.now c.loop-at.at c.loop-at.value c.in-len1-up.len_at_least (c.if-first-ge49.true, c.if-first-le57.true) c.loop-at.invariant c.if-at-gt-MOST_DIGITS.false c.loop-at-test.true blank)

pub returns : goal.returns
returns c =
    let few : c.loop-at.at ≤ 9 = omega (arith, c.loop-at.auto.at-end c.in-len1-up.len_at_least, c.if-line-gt-MOST_DIGITS.false) in
    rw (c.from-2.ensures, c.split_at-2.ensures.back) (read_to_end c.args.line.now c.loop-at.at c.loop-at.value c.in-len1-up.len_at_least (c.if-first-ge49.true, c.if-first-le57.true) c.loop-at.invariant few c.loop-at-test.false)
