use Rattle.std.proofs.Common.{ap₂, ◌∙◌, arith, rules, FitsSigned, w64, ◌-ℤ◌}
use Rattle.std.specs.Int.{w128}
use Rattle.std.proofs.lemmas.Int.{to_z-of_z}
use Rattle.base.specs.Signed.{overflows}
use Rattle.base.proofs.overflows.ssubo.Goals as goal

pub returns : goal.returns
returns c =
    let fits_a : FitsSigned w64 c.signed.result = search rules in
    let fits_b : FitsSigned w64 c.signed-2.result = search rules in
    let wide_a : FitsSigned w128 c.from.result = search rules in
    let wide_b : FitsSigned w128 c.from-2.result = search rules in
    let a = simp to_z-of_z at c.from.ensures in
    let b = simp to_z-of_z at c.from-2.ensures in
    let fits : FitsSigned w128 (c.from.result -ℤ c.from-2.result) = search rules in
    let outside = simp to_z-of_z at c.is_outside.ensures in
    let meaning = ap₂ (λ x y. overflows c.args.w (x -ℤ y)) (a ∙ c.signed.ensures) (b ∙ c.signed-2.ensures) in
    let result = outside ∙ meaning in
    grind arith
