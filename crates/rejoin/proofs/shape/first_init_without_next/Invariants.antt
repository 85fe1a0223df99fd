use Rattle.std.proofs.Common.{◌≡◌, map, drop}
use Rattle.btor2.specs.Lists.{first_init_without_next}
use Rattle.wide.specs.Lines.{item_of}
use Rattle.rejoin.proofs.shape.first_init_without_next.Given as goal

abbrev pub invariant-loop-line : goal.invariant-loop-line
invariant-loop-line l = first_init_without_next l.model (map item_of (drop l.line-index l.lines)) ≡ first_init_without_next l.model l.model
