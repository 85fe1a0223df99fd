use Rattle.std.proofs.Common.{min, ap₂, ◌+◌, ◌≡◌, ◌≤◌, ◌*◌, ◌^◌, ℕ, Some, get_or, sym, ap, ◌∙◌, arith}
use Rattle.std.specs.Char.{digit_value}
use Rattle.std.proofs.Math.Nat.{mul-le-mul_right}
use Rattle.btor2text.proofs.DigitLemmas.{number_none, number_small, number_more, number_stops, digit_is, not_digit}
use Rattle.btor2text.proofs.constants.number_in.Goals as goal

pub loop-byte-init : goal.loop-byte-init
loop-byte-init c = number_none c.args.radix

pub overflow_mul-number : goal.overflow_mul-number
overflow_mul-number c =
    let small = number_small c.args.radix _ c.loop-byte.number c.loop-byte.invariant in
    let most : c.loop-byte.number * c.from-in-Some.result ≤ 2 ^ 64 * c.from-in-Some.result = mul-le-mul_right c.from-in-Some.result small in
    omega (arith, most, c.from-in-Some.ensures, c.requires.most)

pub overflow_add-number : goal.overflow_add-number
overflow_add-number c =
    let small = number_small c.args.radix _ c.loop-byte.number c.loop-byte.invariant in
    let most : c.loop-byte.number * c.from-in-Some.result ≤ 2 ^ 64 * c.from-in-Some.result = mul-le-mul_right c.from-in-Some.result small in
    omega (arith, most, c.from-in-Some.ensures, c.from-in-Some-2.ensures, c.in-Some.ensures.value, c.requires.most)

pub returns-in-None-clause-number : goal.returns-in-None-clause-number
returns-in-None-clause-number c =
    let byte : c.from.result ≡ get_or c.args.bytes.now c.loop-byte.byte-index 0 = c.from.ensures in
    sym (number_stops c.args.radix c.args.bytes.now c.loop-byte.byte-index (omega arith) (not_digit (get_or c.args.bytes.now c.loop-byte.byte-index 0) c.args.radix (rw byte at c.in-None.ensures.value)))

pub loop-byte-preserved : goal.loop-byte-preserved
loop-byte-preserved c =
    let byte : c.from.result ≡ get_or c.args.bytes.now c.loop-byte.byte-index 0 = c.from.ensures in
    let value : c.from-in-Some-2.result ≡ digit_value (get_or c.args.bytes.now c.loop-byte.byte-index 0) = c.from-in-Some-2.ensures ∙ (c.in-Some.ensures.value.1 ∙ ap digit_value byte) in
    let more = number_more c.args.radix c.args.bytes.now c.loop-byte.byte-index c.loop-byte.number (omega (arith, c.requires.least)) (omega arith) c.loop-byte.invariant (digit_is (get_or c.args.bytes.now c.loop-byte.byte-index 0) c.args.radix (rw byte at c.in-Some.ensures.value.0)) in
    more ∙ ap (λ (n : ℕ). Some n) (ap₂ (λ (r d : ℕ). min (c.loop-byte.number * r + d) (2 ^ 64)) (sym c.from-in-Some.ensures) (sym value) ∙ sym c.min-number.ensures)

pub returns-clause-small : goal.returns-clause-small
returns-clause-small c = number_small c.args.radix _ c.loop-byte.number c.loop-byte.invariant
