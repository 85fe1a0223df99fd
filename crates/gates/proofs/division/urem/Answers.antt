use Rattle.gates.proofs.OperatorLemmas.{MakesWord-urem}
use Rattle.gates.proofs.division.urem.Goals as goal

pub returns-clause-ok : goal.returns-clause-ok
returns-clause-ok g c = MakesWord-urem _ _ _ c.args.a.now c.args.b.now c.in_ok-divided.divided.quotient.items c.in_ok-divided.divided.remainder.items c.in_ok-divided.ensures.ok
