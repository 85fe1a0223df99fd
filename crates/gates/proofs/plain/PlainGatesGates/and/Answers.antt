use Rattle.std.proofs.lemmas.Result.{IfOk-weaker}
use Rattle.gates.specs.Shared.{gate_of}
use Rattle.gates.proofs.GrowthLemmas.{MakesAnd-push}
use Rattle.gates.proofs.SharedLemmas.{gate_of-same}
use Rattle.gates.proofs.plain.PlainGatesGates.and.Goals as goal

pub returns-clause-ok : goal.returns-clause-ok
returns-clause-ok c =
    let a = c.args.a in
    let b = c.args.b in
    let pair = gate_of a b in
    IfOk-weaker c.push.result _ _
    (λ l done. rw (← c.self.view_is, done.0) (MakesAnd-push c.self.inside.circuit a b pair.rhs0 pair.rhs1 l (gate_of-same a b) done.1))
    (rw c.pair_of.ensures at c.push.ensures.ok)
