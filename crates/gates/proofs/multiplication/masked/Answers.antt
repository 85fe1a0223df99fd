use Rattle.std.proofs.Common.{◌&&◌, arith, ◌*◌, length, rules}
use Rattle.base.specs.Literal.{literal_value}
use Rattle.gates.specs.Made.{RefusesGate}
use Rattle.gates.proofs.LaterLemmas.{IsDefined-of_word}
use Rattle.gates.proofs.GrowthLemmas.{IsDefined-grown}
use Rattle.gates.proofs.LiteralLemmas.{MakesLiteral-and, Refuses-behind}
use Rattle.gates.proofs.BitListLemmas.{IsRow-push}
use Rattle.gates.proofs.ProductLemmas.{MakesWord-masked}
use Rattle.gates.proofs.RowLemmas.{IsRow-start}
use Rattle.gates.proofs.multiplication.masked.Goals as goal

pub loop-i-preserved : goal.loop-i-preserved
loop-i-preserved g c =
    let lit = c.args.lit in
    let a = c.args.a.now in
    let x = c.index-a-i.result in
    let both = c.in_ok-and.field-0 in
    rw c.push.ensures.items (IsRow-push _ _ _ 1 c.loop-i.i (λ v x y. x && literal_value v lit) a a c.loop-i.bits.items x x both (omega arith) (omega arith) c.index-a-i.is c.index-a-i.is c.loop-i.invariant (MakesLiteral-and _ _ x lit both c.in_ok-and.ensures.ok))

pub returns-clause-ok : goal.returns-clause-ok
returns-clause-ok g c = MakesWord-masked _ _ c.loop-i.i c.args.lit c.args.a.now c.loop-i.bits.items (omega arith) c.loop-i.invariant

pub and-requires-clause-left : goal.and-requires-clause-left
and-requires-clause-left g c =
    IsDefined-of_word _ _ _ c.args.a.now c.loop-i.i c.index-a-i.result (omega arith) c.index-a-i.is c.requires.word c.loop-i.invariant.grows

pub and-requires-clause-right : goal.and-requires-clause-right
and-requires-clause-right g c = IsDefined-grown _ _ _ c.loop-i.invariant.grows _ c.requires.literal

pub loop-i-init : goal.loop-i-init
loop-i-init g c = let lit = c.args.lit in rw c.new-bits.ensures (IsRow-start _ 1 (λ v x y. x && literal_value v lit) c.args.a.now c.args.a.now)

pub returns-in_err-and-clause-refused : goal.returns-in_err-and-clause-refused
returns-in_err-and-clause-refused g c =
    let n = length c.args.a.now in
    let refused : RefusesGate (g.G.Gates.made c.args.g.now) (g.G.Gates.made c.and.new.self) n c.in_err-and.field-0.0 =
    Refuses-behind _ _ _ (1 * c.loop-i.i) 1 n _ (omega arith) c.loop-i.invariant.grows c.in_err-and.ensures.refused
    in search rules
