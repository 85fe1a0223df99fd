use Rattle.std.proofs.Common.{◌≡◌, ℕ, Bool, List, drop, length}
use Rattle.btor2.specs.Trace.{Frame}
use Rattle.witness.specs.Fits.{first_unreached, RisesAmong, NoneIsSet, AreClaimed}
use Rattle.witness.proofs.verdicts.first_unreached.Given as goal

-- those before are not claimed, or rose
abbrev pub invariant-loop-i : goal.invariant-loop-i
invariant-loop-i l =
    (claims nodes : List ℕ) (fs : List Frame) (none : List Bool) → AreClaimed l.claimed claims → length nodes ≡ length l.rose → NoneIsSet none → RisesAmong nodes fs none l.rose
    → first_unreached claims fs l.i (drop l.i nodes) ≡ first_unreached claims fs 0 nodes
