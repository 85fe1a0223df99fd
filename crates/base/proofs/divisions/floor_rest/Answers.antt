use Rattle.std.proofs.Common.{◌≡◌, ◌≢◌, true, inl, inr, sym, ap, ◌∙◌, arith, rules, FitsSigned, of_z, w64, pos, ◌+ℤ◌, int_rem}
use Rattle.std.proofs.lemmas.Int.{ints, to_z-of_z}
use Rattle.base.proofs.DivisionLemmas.{differ, floored_same, floored_other_sign}
use Rattle.base.proofs.divisions.floor_rest.Goals as goal
use Rattle.base.proofs.divisions.floor_rest.Goals.{else-rest-ne0-via-then-rest-ne0+else-rest-b, else-rest-ne0-via-else-rest-ne0}

pub returns-then-rest-b : goal.returns-then-rest-b
returns-then-rest-b c =
    let fits_a : FitsSigned w64 c.args.a = c.ranges.a in
    let fits_b : FitsSigned w64 c.args.b = c.ranges.b in
    let fits_rest : FitsSigned w64 c.wrapping_rem-rest.result = search rules in
    let fits_sum : FitsSigned w64 (c.wrapping_rem-rest.result +ℤ c.args.b) = search rules in
    let rest = simp to_z-of_z at c.wrapping_rem-rest.ensures in
    let tested = simp to_z-of_z at c.if-rest-b.true in
    let other : differ (int_rem c.args.a c.args.b) c.args.b ≡ true = ap (λ r. differ r c.args.b) (sym rest) ∙ tested in
    let some : int_rem c.args.a c.args.b ≢ pos 0 = λ e. c.if-rest-ne0.true (ap (of_z w64) (rest ∙ e)) in
    simp to_z-of_z (ap (λ r. r +ℤ c.args.b) rest ∙ floored_other_sign c.args.a c.args.b c.requires some other)

pub returns-else-rest-ne0 : goal.returns-else-rest-ne0
returns-else-rest-ne0 c =
    let fits_a : FitsSigned w64 c.args.a = c.ranges.a in
    let fits_b : FitsSigned w64 c.args.b = c.ranges.b in
    let fits_rest : FitsSigned w64 c.wrapping_rem-rest.result = search rules in
    let rest = simp to_z-of_z at c.wrapping_rem-rest.ensures in
    simp to_z-of_z (rest ∙ floored_same c.args.a c.args.b c.requires (elim c.else-rest-ne0.branch [
      | else-rest-ne0-via-then-rest-ne0+else-rest-b w ↦
          let tested = simp to_z-of_z at w.if-rest-b.false in
          inr (ap (λ r. differ r c.args.b) (sym rest) ∙ tested)
      | else-rest-ne0-via-else-rest-ne0 w ↦
          let none : c.wrapping_rem-rest.result ≡ pos 0 = omega (arith, ints, w.if-rest-ne0.false) in
          inl (sym rest ∙ none)
    ]))
