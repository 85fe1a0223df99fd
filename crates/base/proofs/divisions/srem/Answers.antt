use Rattle.std.proofs.Common.{◌≡◌, ◌==◌, false, sym, ap₂, ◌∙◌, rules, FitsSigned, w64, ◌-ℤ◌, ◌*ℤ◌}
use Rattle.std.proofs.lemmas.Bool.{ne_eqb}
use Rattle.std.proofs.lemmas.Int.{to_z-of_z}
use Rattle.base.specs.Signed.{wrapped, truncated}
use Rattle.base.proofs.DivisionLemmas.{truncated_rest}
use Rattle.base.proofs.divisions.srem.Goals as goal

pub returns-else-b-eq0 : goal.returns-else-b-eq0
returns-else-b-eq0 c =
    let fits_a : FitsSigned w64 c.signed.result = search rules in
    let fits_b : FitsSigned w64 c.signed-else-b-eq0.result = search rules in
    let fits : FitsSigned w64 c.wrapping_rem.result = search rules in
    let word = simp to_z-of_z at c.wrap_signed.ensures in
    let rest = simp to_z-of_z at c.wrapping_rem.ensures in
    let not_zero : (c.args.b == 0) ≡ false = ne_eqb c.args.b 0 c.if-b-eq0.false in
    rw not_zero (
    word ∙ ap₂ wrapped c.bits.ensures.same (
    rest ∙ sym (truncated_rest c.signed.result c.signed-else-b-eq0.result)
    ∙ ap₂ (λ a b. a -ℤ b *ℤ truncated a b) c.signed.ensures c.signed-else-b-eq0.ensures
    )
    )
