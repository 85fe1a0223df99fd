use Rattle.std.proofs.Common.{rules, arith}
use Rattle.gates.specs.Made.{RefusesGate}
use Rattle.gates.proofs.LaterLemmas.{IsDefined-not, Refuses-weaker}
use Rattle.gates.proofs.SumLemmas.{MakesColumn-half}
use Rattle.gates.proofs.LiteralLemmas.{Refuses-behind}
use Rattle.gates.proofs.GrowthLemmas.{Grows-trans, IsDefined-grown}
use Rattle.gates.proofs.adders.half_adder.Goals as goal

pub returns-clause-ok : goal.returns-clause-ok
returns-clause-ok g c =
    MakesColumn-half _ _ _ _ c.args.a c.args.b c.in_ok-both.both c.in_ok-neither.neither c.in_ok-sum.sum c.in_ok-both.ensures.ok
    (rw (c.not.ensures, c.not-2.ensures) at c.in_ok-neither.ensures.ok)
    (rw (c.not-3.ensures, c.not-4.ensures) at c.in_ok-sum.ensures.ok)

pub returns-in_err-sum-clause-refused : goal.returns-in_err-sum-clause-refused
returns-in_err-sum-clause-refused g c =
    let refused : RefusesGate (g.G.Gates.made c.args.g.now) (g.G.Gates.made c.and-3.new.self) (3) c.in_err-sum.field-0.0 =
    Refuses-behind _ _ _ _ _ (3) _ (omega arith) (Grows-trans _ _ _ _ _ c.in_ok-both.ensures.ok.grows c.in_ok-neither.ensures.ok.grows) c.in_err-sum.ensures.refused
    in search rules

pub and-requires-2-clause-left : goal.and-requires-2-clause-left
and-requires-2-clause-left g c = IsDefined-not _ c.args.a _ c.not.ensures (IsDefined-grown _ _ _ c.in_ok-both.ensures.ok.grows _ c.requires.left)

pub and-requires-2-clause-right : goal.and-requires-2-clause-right
and-requires-2-clause-right g c = IsDefined-not _ c.args.b _ c.not-2.ensures (IsDefined-grown _ _ _ c.in_ok-both.ensures.ok.grows _ c.requires.right)

pub and-requires-3-clause-left : goal.and-requires-3-clause-left
and-requires-3-clause-left g c = IsDefined-not _ c.in_ok-both.both _ c.not-3.ensures (IsDefined-grown _ _ _ c.in_ok-neither.ensures.ok.grows _ c.in_ok-both.ensures.ok.defined)

pub and-requires-3-clause-right : goal.and-requires-3-clause-right
and-requires-3-clause-right g c = IsDefined-not _ c.in_ok-neither.neither _ c.not-4.ensures c.in_ok-neither.ensures.ok.defined

pub returns-in_err-both-clause-refused : goal.returns-in_err-both-clause-refused
returns-in_err-both-clause-refused g c =
    let refused : RefusesGate (g.G.Gates.made c.args.g.now) (g.G.Gates.made c.and.new.self) 3 c.in_err-both.field-0.0 = Refuses-weaker _ _ 1 3 _ (omega arith) c.in_err-both.ensures.refused in
    search rules

pub returns-in_err-neither-clause-refused : goal.returns-in_err-neither-clause-refused
returns-in_err-neither-clause-refused g c =
    let refused : RefusesGate (g.G.Gates.made c.args.g.now) (g.G.Gates.made c.and-2.new.self) 3 c.in_err-neither.field-0.0 = Refuses-behind _ _ _ 1 1 3 _ (omega arith) c.in_ok-both.ensures.ok.grows c.in_err-neither.ensures.refused in
    search rules
