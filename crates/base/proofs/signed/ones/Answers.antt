use Rattle.std.proofs.Common.{◌-◌, ◌^◌, ap, ◌∙◌, arith}
use Rattle.std.proofs.lemmas.Nat.Bits.{ones_shr}
use Rattle.base.proofs.signed.ones.Goals as goal

pub returns : goal.returns
returns c = ones_shr 64 (64 - c.bits.result) (omega arith) ∙ ap (λ j. 2 ^ j - 1) (omega arith)
