use Rattle.std.proofs.Common.{◌≡◌, ◌-◌, ◌/◌, ◌^◌, ap, ◌∙◌, arith, bit_and}
use Rattle.std.proofs.lemmas.Nat.{and_mask}
use Rattle.std.proofs.lemmas.Nat.Bits.{ones_shr}
use Rattle.base.proofs.signed.low_bits.Goals as goal

pub returns : goal.returns
returns c =
    let mask : (2 ^ 64 - 1) / 2 ^ (64 - c.args.k) ≡ 2 ^ c.args.k - 1 =
    ones_shr 64 (64 - c.args.k) (omega arith) ∙ ap (λ j. 2 ^ j - 1) (omega arith)
    in
    ap (bit_and c.args.x) mask ∙ and_mask c.args.x c.args.k
