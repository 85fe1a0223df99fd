use Rattle.std.proofs.Common.{◌%◌, ◌^◌, ◌≤◌, ap, ◌∙◌, rules, FitsSigned, w64, unsigned_abs}
use Rattle.std.proofs.lemmas.Int.{to_z-of_z}
use Rattle.base.proofs.WrapLemmas.{wrapped_cast}
use Rattle.base.proofs.signed.wrap_signed.Goals as goal

pub returns : goal.returns
returns c =
    let fits : FitsSigned w64 c.args.z = search rules in
    let small : unsigned_abs c.args.z ≤ 2 ^ 63 = search rules in
    let cast = simp to_z-of_z at c.cast_unsigned.ensures in
    c.low_bits.ensures ∙ ap (λ x. x % 2 ^ c.args.k) cast ∙ wrapped_cast c.args.k c.args.z c.requires.most small
