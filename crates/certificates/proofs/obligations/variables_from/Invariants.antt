use Rattle.std.proofs.Common.{◌≡◌, ◌+◌, ◌-◌, ◌++◌}
use Rattle.certificates.proofs.ClauseLemmas.{literals_from}
use Rattle.certificates.proofs.obligations.variables_from.Given as goal

-- the variables from here on are left
abbrev pub invariant-loop-place : goal.invariant-loop-place
invariant-loop-place l = l.clause.items ++ literals_from (l.first + l.place) (l.count - l.place) ≡ literals_from l.first l.count
