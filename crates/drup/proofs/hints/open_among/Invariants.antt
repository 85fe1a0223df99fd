use Rattle.std.proofs.Common.{◌≡◌, take}
use Rattle.drup.specs.Marked.{set_of}
use Rattle.drup.specs.Hints.{open_in}
use Rattle.drup.proofs.hints.open_among.Given as goal

-- what is open of the literals before
abbrev pub invariant-loop-literal : goal.invariant-loop-literal
invariant-loop-literal l = l.open ≡ open_in (set_of l.trail) (take l.literal-index l.clause)
