use Rattle.std.proofs.Common.{arith, rules}
use Rattle.gates.specs.Made.{RefusesGate}
use Rattle.gates.proofs.LaterLemmas.{Refuses-weaker}
use Rattle.gates.proofs.LiteralLemmas.{Refuses-behind}
use Rattle.gates.proofs.GrowthLemmas.{IsDefined-grown}
use Rattle.gates.proofs.SumLemmas.{MakesColumn-one}
use Rattle.gates.proofs.adders.adder_with_one.Goals as goal

pub returns-clause-ok : goal.returns-clause-ok
returns-clause-ok g c =
    let two = c.in_ok-two.two in
    rw c.not.ensures (MakesColumn-one _ _ _ c.args.a c.args.b two.sum two.carry c.in_ok-carry.carry c.in_ok-two.ensures.ok c.in_ok-carry.ensures.ok)

pub disjunction-requires-clause-left : goal.disjunction-requires-clause-left
disjunction-requires-clause-left g c = IsDefined-grown _ _ _ c.in_ok-two.ensures.ok.grows _ c.requires.left

pub disjunction-requires-clause-right : goal.disjunction-requires-clause-right
disjunction-requires-clause-right g c = IsDefined-grown _ _ _ c.in_ok-two.ensures.ok.grows _ c.requires.right

pub returns-in_err-two-clause-refused : goal.returns-in_err-two-clause-refused
returns-in_err-two-clause-refused g c =
    let refused : RefusesGate (g.G.Gates.made c.args.g.now) (g.G.Gates.made c.half_adder.new.g) 4 c.in_err-two.field-0.0 = Refuses-weaker _ _ 3 4 _ (omega arith) c.in_err-two.ensures.refused in
    search rules

pub returns-in_err-carry-clause-refused : goal.returns-in_err-carry-clause-refused
returns-in_err-carry-clause-refused g c =
    let refused : RefusesGate (g.G.Gates.made c.args.g.now) (g.G.Gates.made c.disjunction.new.g) 4 c.in_err-carry.field-0.0 = Refuses-behind _ _ _ 3 1 4 _ (omega arith) c.in_ok-two.ensures.ok.grows c.in_err-carry.ensures.refused in
    search rules
