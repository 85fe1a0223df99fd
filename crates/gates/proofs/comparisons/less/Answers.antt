use Rattle.std.proofs.Common.{take, length-take, arith, ◌*◌, length, rules}
use Rattle.gates.specs.Made.{RefusesGate}
use Rattle.gates.proofs.LiteralLemmas.{Refuses-behind}
use Rattle.gates.proofs.SumLemmas.{literal_at, front_with}
use Rattle.gates.proofs.GrowthLemmas.{IsDefined-grown}
use Rattle.gates.proofs.OrderLemmas.{MakesLiteral-not_less, MakesLiteral-less_step}
use Rattle.gates.proofs.comparisons.less.Goals as goal

pub less_column-requires-clause-left : goal.less_column-requires-clause-left
less_column-requires-clause-left g c =
    let old = literal_at (g.G.Gates.made c.args.g.now) c.args.a.now c.loop-i.i c.index-a-i.result (omega arith) c.index-a-i.is c.requires.left in
    IsDefined-grown _ _ _ c.loop-i.invariant.grows c.index-a-i.result old

pub less_column-requires-clause-right : goal.less_column-requires-clause-right
less_column-requires-clause-right g c =
    let old = literal_at (g.G.Gates.made c.args.g.now) c.args.b.now c.loop-i.i c.index-b-i.result (omega arith) c.index-b-i.is c.requires.right in
    IsDefined-grown _ _ _ c.loop-i.invariant.grows c.index-b-i.result old

pub loop-i-init : goal.loop-i-init
loop-i-init g c = MakesLiteral-not_less _

pub loop-i-preserved : goal.loop-i-preserved
loop-i-preserved g c =
    let a = c.args.a.now in
    let b = c.args.b.now in
    let i = c.loop-i.i in
    let x = c.index-a-i.result in
    let y = c.index-b-i.result in
    rw (front_with a i x (omega arith) c.index-a-i.is, front_with b i y (omega arith) c.index-b-i.is)
    (MakesLiteral-less_step _ _ _ _ _ (take i a) (take i b) x y c.loop-i.below c.in_ok-below.below
    (omega (arith, length-take i a, length-take i b)) (omega arith) c.loop-i.invariant c.in_ok-below.ensures.ok)

pub less_column-requires-clause-below : goal.less_column-requires-clause-below
less_column-requires-clause-below g c = c.loop-i.invariant.defined

pub returns-in_err-below-clause-refused : goal.returns-in_err-below-clause-refused
returns-in_err-below-clause-refused g c =
    let n = length c.args.a.now in
    let refused : RefusesGate (g.G.Gates.made c.args.g.now) (g.G.Gates.made c.less_column.new.g) (6 * n) c.in_err-below.field-0.0 =
    Refuses-behind _ _ _ (4 * c.loop-i.i) 4 (6 * n) _ (omega arith) c.loop-i.invariant.grows c.in_err-below.ensures.refused
    in search rules
