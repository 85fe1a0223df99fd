use Rattle.std.proofs.Common.{◌≡◌, ◌^◌, ◌≤◌, ◌==◌, false, ap, ap₂, ◌∙◌, arith, rules, FitsSigned, w64, unsigned_abs, int_div}
use Rattle.std.proofs.lemmas.Bool.{ne_eqb}
use Rattle.std.proofs.lemmas.Int.{to_z-of_z}
use Rattle.base.specs.Signed.{wrapped, truncated}
use Rattle.base.proofs.DivisionLemmas.{quotient_small}
use Rattle.base.proofs.WrapLemmas.{wrapped_cast_back}
use Rattle.base.proofs.divisions.sdiv.Goals as goal

pub returns-then-b-ne0 : goal.returns-then-b-ne0
returns-then-b-ne0 c =
    let fits_a : FitsSigned w64 c.signed-dividend.result = search rules in
    let fits_b : FitsSigned w64 c.signed.result = search rules in
    let fits : FitsSigned w64 c.wrapping_div.result = search rules in
    let quotient = int_div c.signed-dividend.result c.signed.result in
    let small_dividend : unsigned_abs c.signed-dividend.result ≤ 2 ^ 63 = search rules in
    let small : unsigned_abs quotient ≤ 2 ^ 63 = omega (arith, quotient_small c.signed-dividend.result c.signed.result) in
    let word = simp to_z-of_z at c.wrap_signed.ensures in
    let divided = simp to_z-of_z at c.wrapping_div.ensures in
    let not_zero : (c.args.b == 0) ≡ false = ne_eqb c.args.b 0 c.if-b-ne0.true in
    rw not_zero (
    word ∙ ap₂ wrapped c.bits.ensures.same divided ∙ wrapped_cast_back c.args.w quotient (omega arith) small
    ∙ ap (wrapped c.args.w) (ap₂ truncated c.signed-dividend.ensures c.signed.ensures)
    )
