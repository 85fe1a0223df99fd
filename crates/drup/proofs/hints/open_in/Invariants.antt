use Rattle.std.proofs.Common.{take}
use Rattle.drup.specs.Marked.{set_of}
use Rattle.drup.specs.Opened.{HasSeen}
use Rattle.drup.proofs.hints.open_in.Given as goal

-- what was seen of the literals before
abbrev pub invariant-loop-literal : goal.invariant-loop-literal
invariant-loop-literal l = HasSeen (set_of l.trail) (take l.literal-index l.clause) l.seen
