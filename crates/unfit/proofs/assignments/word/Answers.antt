use Rattle.std.proofs.Common.{ℕ, ◌<◌, ◌^◌, subst, sym, arith}
use Rattle.base.proofs.BitLemmas.{bit_number_small}
use Rattle.unfit.proofs.DigitLemmas.{word_fits}
use Rattle.unfit.proofs.assignments.word.Goals as goal

pub overflow_mul-word : goal.overflow_mul-word
overflow_mul-word c =
    let fits = subst (λ (w : ℕ). w < 2 ^ 63) (sym c.loop-digit.invariant) (word_fits c.args.digits.now c.loop-digit.digit-index (omega arith) c.requires) in
    omega (arith, fits)

pub overflow_add-word : goal.overflow_add-word
overflow_add-word c =
    let fits = subst (λ (w : ℕ). w < 2 ^ 63) (sym c.loop-digit.invariant) (word_fits c.args.digits.now c.loop-digit.digit-index (omega arith) c.requires) in
    let small : c.bit_number.result < 2 = subst (λ (n : ℕ). n < 2) (sym c.bit_number.ensures) (bit_number_small _) in
    omega (arith, fits, small)
