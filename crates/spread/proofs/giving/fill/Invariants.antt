use Rattle.std.proofs.Common.{◌≡◌, ◌++◌, replicate}
use Rattle.spread.proofs.giving.fill.Given as goal

-- so many bytes stand in front
abbrev pub invariant-loop : goal.invariant-loop
invariant-loop l = l.line ≡ replicate l.counter l.byte ++ l.initial.line
