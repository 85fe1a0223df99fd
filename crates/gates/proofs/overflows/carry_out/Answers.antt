use Rattle.std.proofs.Common.{take, length-take, arith, ◌*◌, rules}
use Rattle.aiger.proofs.NetLemmas.{IsDefined-negation}
use Rattle.gates.specs.Made.{RefusesGate}
use Rattle.gates.proofs.LiteralLemmas.{Refuses-behind}
use Rattle.gates.proofs.SumLemmas.{literal_at, front_with}
use Rattle.gates.proofs.GrowthLemmas.{IsDefined-grown}
use Rattle.gates.proofs.CarryLemmas.{MakesLiteral-carried, MakesLiteral-carry_step}
use Rattle.gates.proofs.overflows.carry_out.Goals as goal

pub less_column-requires-clause-left : goal.less_column-requires-clause-left
less_column-requires-clause-left g c =
    let old = literal_at (g.G.Gates.made c.args.g.now) c.args.a.now c.loop-i.i c.index-a-i.result (omega arith) c.index-a-i.is c.requires.operands.left in
    rw c.not.ensures (IsDefined-negation _ _ (IsDefined-grown _ _ _ c.loop-i.invariant.grows c.index-a-i.result old))

pub less_column-requires-clause-right : goal.less_column-requires-clause-right
less_column-requires-clause-right g c =
    let old = literal_at (g.G.Gates.made c.args.g.now) c.args.b.now c.loop-i.i c.index-b-i.result (omega arith) c.index-b-i.is c.requires.operands.right in
    IsDefined-grown _ _ _ c.loop-i.invariant.grows c.index-b-i.result old

pub loop-i-init : goal.loop-i-init
loop-i-init g c = MakesLiteral-carried _ c.args.carry c.requires.carry

pub loop-i-preserved : goal.loop-i-preserved
loop-i-preserved g c =
    let a = c.args.a.now in
    let b = c.args.b.now in
    let i = c.loop-i.i in
    let x = c.index-a-i.result in
    let y = c.index-b-i.result in
    rw (front_with a i x (omega arith) c.index-a-i.is, front_with b i y (omega arith) c.index-b-i.is)
    (MakesLiteral-carry_step _ _ _ i _ _ (take i a) (take i b) x y c.not.result c.args.carry c.loop-i.out c.in_ok-out.out
    (omega (arith, length-take i a)) (omega (arith, length-take i b)) (omega arith) c.not.ensures c.loop-i.invariant c.in_ok-out.ensures.ok)

pub less_column-requires-clause-below : goal.less_column-requires-clause-below
less_column-requires-clause-below g c = c.loop-i.invariant.defined

pub returns-in_err-out-clause-refused : goal.returns-in_err-out-clause-refused
returns-in_err-out-clause-refused g c =
    let refused : RefusesGate (g.G.Gates.made c.args.g.now) (g.G.Gates.made c.less_column.new.g) (4 * c.args.count) c.in_err-out.field-0.0 =
    Refuses-behind _ _ _ _ _ (4 * c.args.count) _ (omega arith) c.loop-i.invariant.grows c.in_err-out.ensures.refused
    in search rules
