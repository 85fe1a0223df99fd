use Rattle.gates.proofs.GrowthLemmas.{MakesWord-not}
use Rattle.gates.proofs.builders.unary_bits.Goals as goal

pub returns-in-Not-clause-ok : goal.returns-in-Not-clause-ok
returns-in-Not-clause-ok g c =
    rw c.in-Not.is (MakesWord-not (g.G.Gates.made c.args.g.now) c.args.a.now c.negation.result.items c.requires.defined c.negation.ensures)
