use Rattle.std.proofs.Common.{◌≡◌, take}
use Rattle.std.specs.Prelude.{fold}
use Rattle.std.specs.Hash.DefaultHasher as sip
use Rattle.drup.specs.Places.{with_literal}
use Rattle.drup.proofs.places.rising_sum.Given as goal

-- the literals before were given
abbrev pub invariant-loop-literal : goal.invariant-loop-literal
invariant-loop-literal l = l.state ≡ fold with_literal sip.initial (take l.literal-index l.clause)
