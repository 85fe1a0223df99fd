use Rattle.std.proofs.Common.{◌-◌, ◌*◌, ◌/◌, ◌%◌, ◌^◌, bit_or, ap, ◌∙◌, arith}
use Rattle.base.proofs.ShiftLemmas.{rotated_parts}
use Rattle.base.proofs.WrapLemmas.{cut_twice}
use Rattle.base.proofs.shifts.rol.Goals as goal

pub returns-else-left-eq0 : goal.returns-else-left-eq0
returns-else-left-eq0 c =
    let k = c.args.b % c.args.w in
    let rest = c.args.w - k in
    let cut = cut_twice c.args.w (c.args.a * 2 ^ k) (omega arith) in
    let parts = rotated_parts c.args.w k rest c.args.a (omega arith) c.requires in
    simp (c.wrap.ensures, c.bits.ensures.same, c.bits-else-left-eq0.ensures.same) (ap (λ x. bit_or x (c.args.a / 2 ^ rest)) cut ∙ parts)
