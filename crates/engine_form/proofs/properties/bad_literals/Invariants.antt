use Rattle.std.proofs.Common.{take}
use Rattle.engine_form.specs.Reads.{BadLiteralsRead}
use Rattle.engine_form.proofs.properties.bad_literals.Given as goal

abbrev pub invariant-loop-bad : goal.invariant-loop-bad
invariant-loop-bad g l = BadLiteralsRead (g.G.Gates.made l.fn.g) (g.G.Gates.made l.g) l.table (take l.bad-index l.bads) l.met l.literals.items
