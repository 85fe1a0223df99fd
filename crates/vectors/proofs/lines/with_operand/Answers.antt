use Rattle.std.proofs.Common.{◌≡◌, ◌<◌, ◌^◌, refl, ap, ◌∙◌, subst, sym, ℕ, decimal, arith}
use Rattle.base.specs.Widths.{unary_width}
use Rattle.vectors.proofs.NoneLemmas.{below, first_number, unary_range}
use Rattle.vectors.proofs.lines.with_operand.Goals as goal

pub returns-in-None-word_of_bits-clause-none : goal.returns-in-None-word_of_bits-clause-none
returns-in-None-word_of_bits-clause-none c = λ _ a r v e.
    let w = c.args.width in
    let bits : c.width.result ≡ unary_width c.args.operator w = c.width.ensures ∙ ap (unary_width c.args.operator) c.bits-bits.ensures.same in
    let range = unary_range c.args.operator w v.0 v.1 in
    let same = first_number c.args.line.now c.in-Some.rest.now (decimal r) c.in-Some.operand a (below w _ v.1 c.in-Some.ensures.fits) (below w a v.1 v.2) c.in-Some.ensures.written e in
    c.in-None-word_of_bits.ensures.none refl (omega (arith, range)) (omega (arith, range)) r (let P : ℕ → Type 0 = λ n. r < 2 ^ n in subst P (sym bits) v.3) same.1
