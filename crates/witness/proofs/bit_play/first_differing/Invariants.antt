use Rattle.std.proofs.Common.{◌≡◌, drop, map}
use Rattle.witness.specs.Admits.{is_one_bit}
use Rattle.witness.specs.BitJudgements.{first_reset_differing}
use Rattle.witness.proofs.bit_play.first_differing.Given as goal

-- those before do not differ
abbrev pub invariant-loop-k : goal.invariant-loop-k
invariant-loop-k l = first_reset_differing l.k (drop l.k l.latches) (map is_one_bit (drop l.k l.digits)) ≡ first_reset_differing 0 l.latches (map is_one_bit l.digits)
