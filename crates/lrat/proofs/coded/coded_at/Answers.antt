use Rattle.std.proofs.Common.{get_or, refl, arith}
use Rattle.std.proofs.lemmas.Bool.{le-ltb}
use Rattle.lrat.proofs.CodedLemmas.{coded_first, coded_room, coded_part, coded_more, coded_there}
use Rattle.lrat.proofs.coded.coded_at.Goals as goal

pub loop-end-init : goal.loop-end-init
loop-end-init c = coded_first c.args.bytes.now c.args.at

pub overflow_mul-value : goal.overflow_mul-value
overflow_mul-value c =
    rw c.from.ensures
    (omega
    (arith, coded_room c.args.bytes.now c.args.at c.loop-end.end c.loop-end.value c.loop-end.unit c.loop-end.invariant (omega (arith, c.saturating_add.ensures, c.min-most.ensures, c.loop-end-test.true)), coded_part (get_or c.args.bytes.now c.loop-end.end 0) c.loop-end.unit))

pub overflow_add-value : goal.overflow_add-value
overflow_add-value c =
    rw c.from.ensures
    (omega
    (arith, c.loop-end.invariant.low, coded_room c.args.bytes.now c.args.at c.loop-end.end c.loop-end.value c.loop-end.unit c.loop-end.invariant (omega (arith, c.saturating_add.ensures, c.min-most.ensures, c.loop-end-test.true)), coded_part (get_or c.args.bytes.now c.loop-end.end 0) c.loop-end.unit))

pub overflow_mul-unit : goal.overflow_mul-unit
overflow_mul-unit c = omega (arith, coded_room c.args.bytes.now c.args.at c.loop-end.end c.loop-end.value c.loop-end.unit c.loop-end.invariant (omega (arith, c.saturating_add.ensures, c.min-most.ensures, c.loop-end-test.true)))

pub returns-then-byte-lt128 : goal.returns-then-byte-lt128
returns-then-byte-lt128 c =
    rw c.from.ensures
    (coded_there c.args.bytes.now c.args.at c.loop-end.end c.loop-end.value c.loop-end.unit (get_or c.args.bytes.now c.loop-end.end 0) c.loop-end.invariant (omega (arith, c.min-most.ensures, c.loop-end-test.true)) refl (omega (arith, c.if-byte-lt128.true))
    (omega (arith, c.if-byte-eq0.false)) (omega (arith, c.saturating_add.ensures, c.min-most.ensures, c.loop-end-test.true)))

pub loop-end-preserved : goal.loop-end-preserved
loop-end-preserved c =
    rw c.from.ensures
    (coded_more c.args.bytes.now c.args.at c.loop-end.end c.loop-end.value c.loop-end.unit (get_or c.args.bytes.now c.loop-end.end 0) c.loop-end.invariant (omega (arith, c.min-most.ensures, c.loop-end-test.true)) refl (le-ltb (get_or c.args.bytes.now c.loop-end.end 0) 128 (omega (arith, c.if-byte-lt128.false)))
    (omega (arith, c.saturating_add.ensures, c.min-most.ensures, c.loop-end-test.true)))
