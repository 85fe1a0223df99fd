use Rattle.drup.specs.Named.{IsSweptTo}
use Rattle.drup.proofs.named.without_dead.Given as goal

-- the clauses before are taken, where they stand
abbrev pub invariant-loop-k : goal.invariant-loop-k
invariant-loop-k l = IsSweptTo l.k l.named l.swept
