use Rattle.std.proofs.Common.{◌≡◌, ◌++◌, drop}
use Rattle.capi.specs.Judged.{claims_from}
use Rattle.capi.proofs.claiming.claims_of.Given as goal

abbrev pub invariant-loop-position : goal.invariant-loop-position
invariant-loop-position l = l.claims.items ++ claims_from l.position (drop l.position l.firsts) ≡ claims_from 0 l.firsts
