use Rattle.std.proofs.Common.{◌-◌, ◌*◌, ◌/◌, ◌%◌, ◌^◌, bit_or, ap, ◌∙◌, arith}
use Rattle.std.proofs.lemmas.Nat.{or_comm}
use Rattle.std.proofs.Math.Nat.{add_comm}
use Rattle.base.proofs.ShiftLemmas.{rotated_parts}
use Rattle.base.proofs.WrapLemmas.{cut_twice}
use Rattle.base.proofs.shifts.ror.Goals as goal

pub returns-else-right-eq0 : goal.returns-else-right-eq0
returns-else-right-eq0 c =
    let k = c.args.b % c.args.w in
    let rest = c.args.w - k in
    let low = c.args.a / 2 ^ k in
    let high = c.args.a * 2 ^ rest % 2 ^ c.args.w in
    let cut = cut_twice c.args.w (c.args.a * 2 ^ rest) (omega arith) in
    let parts = rotated_parts c.args.w rest k c.args.a (omega arith) c.requires in
    simp (c.wrap.ensures, c.bits.ensures.same, c.bits-else-right-eq0.ensures.same) (ap (bit_or low) cut ∙ or_comm low high ∙ parts ∙ add_comm high low)
