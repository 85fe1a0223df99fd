use Rattle.std.proofs.Common.{◌^◌, ap, ap₂, ◌∙◌, rules, FitsSigned, w64}
use Rattle.std.specs.Int.{int_shr}
use Rattle.std.proofs.lemmas.Int.{to_z-of_z}
use Rattle.base.specs.Signed.{wrapped, floored_by}
use Rattle.base.proofs.ShiftLemmas.{shifted_to_sign}
use Rattle.base.proofs.shifts.sra.Goals as goal

pub returns : goal.returns
returns c =
    let fits : FitsSigned w64 c.signed.result = search rules in
    let shifted : FitsSigned w64 (int_shr c.signed.result c.min.result) = search rules in
    let wrapped_shift = simp to_z-of_z at c.wrap_signed.ensures in
    let meaning =
    ap (int_shr c.signed.result) c.min.ensures ∙ shifted_to_sign c.signed.result c.args.b fits
    ∙ ap (λ x. floored_by x (2 ^ c.args.b)) c.signed.ensures
    in
    wrapped_shift ∙ ap₂ wrapped c.bits.ensures.same meaning
