use Rattle.std.proofs.Common.{take}
use Rattle.drup.specs.Flat.{standing}
use Rattle.drup.specs.Swept.{IsSweptOf}
use Rattle.drup.proofs.sweep.without_dead.Given as goal

-- those of the places before stand
abbrev pub invariant-loop-k : goal.invariant-loop-k
invariant-loop-k l = IsSweptOf l.swept (standing (take l.k l.clauses)) l.trail
