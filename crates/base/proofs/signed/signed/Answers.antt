use Rattle.std.proofs.Common.{◌-◌, ap, ◌∙◌, arith, rules, FitsSigned, w64}
use Rattle.std.specs.Int.{int_shr}
use Rattle.std.proofs.lemmas.Int.{to_z-of_z}
use Rattle.base.proofs.SignedLemmas.{signed_by_shifts}
use Rattle.base.proofs.signed.signed.Goals as goal

pub returns : goal.returns
returns c =
    let fits : FitsSigned w64 c.cast_signed.result = search rules in
    let moved = signed_by_shifts c.args.w (64 - c.args.w) c.args.x (omega arith) (omega arith) c.requires in
    let cast = simp c.bits-above.ensures.same at c.cast_signed.ensures in
    let shifted : FitsSigned w64 (int_shr c.cast_signed.result (64 - c.args.w)) = search rules in
    simp (to_z-of_z, c.bits-above.ensures.same) (ap (λ z. int_shr z (64 - c.args.w)) cast ∙ moved)
