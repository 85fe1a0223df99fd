use Rattle.std.proofs.Common.{take, length-take, arith, ◌*◌, rules}
use Rattle.gates.specs.Made.{RefusesGate}
use Rattle.gates.proofs.LiteralLemmas.{Refuses-behind}
use Rattle.gates.proofs.SumLemmas.{MakesSum-start, MakesSum-step, literal_at, front_with}
use Rattle.gates.proofs.GrowthLemmas.{IsDefined-grown}
use Rattle.gates.proofs.adders.columns.Goals as goal

pub full_adder-requires-clause-left : goal.full_adder-requires-clause-left
full_adder-requires-clause-left g c =
    let old = literal_at (g.G.Gates.made c.args.g.now) c.args.a.now c.loop-i.i c.index-a-i.result (omega arith) c.index-a-i.is c.requires.operands.left in
    IsDefined-grown _ _ _ c.loop-i.invariant.grows c.index-a-i.result old

pub full_adder-requires-clause-right : goal.full_adder-requires-clause-right
full_adder-requires-clause-right g c =
    let old = literal_at (g.G.Gates.made c.args.g.now) c.args.b.now c.loop-i.i c.index-b-i.result (omega arith) c.index-b-i.is c.requires.operands.right in
    IsDefined-grown _ _ _ c.loop-i.invariant.grows c.index-b-i.result old

pub full_adder-requires-clause-carry : goal.full_adder-requires-clause-carry
full_adder-requires-clause-carry g c = c.loop-i.invariant.out_defined

pub loop-i-init : goal.loop-i-init
loop-i-init g c = rw c.new-sum.ensures (MakesSum-start _ c.args.carry c.requires.carry)

pub loop-i-preserved : goal.loop-i-preserved
loop-i-preserved g c =
    let a = c.args.a.now in
    let b = c.args.b.now in
    let i = c.loop-i.i in
    let x = c.index-a-i.result in
    let y = c.index-b-i.result in
    rw (front_with a i x (omega arith) c.index-a-i.is, front_with b i y (omega arith) c.index-b-i.is, c.push.ensures.items)
    (MakesSum-step _ _ _ _ _ (take i a) (take i b) c.args.carry c.loop-i.sum.items c.loop-i.into_top c.loop-i.out x y c.in_ok-column.column.sum c.in_ok-column.column.carry
    (omega (arith, length-take i a, length-take i b)) (omega arith) c.loop-i.invariant c.in_ok-column.ensures.ok)

pub returns-in_err-column-clause-refused : goal.returns-in_err-column-clause-refused
returns-in_err-column-clause-refused g c =
    let refused : RefusesGate (g.G.Gates.made c.args.g.now) (g.G.Gates.made c.full_adder.new.g) (7 * c.args.count) c.in_err-column.field-0.0 =
    Refuses-behind _ _ _ (7 * c.loop-i.i) 7 (7 * c.args.count) _ (omega arith) c.loop-i.invariant.grows c.in_err-column.ensures.refused
    in search rules
