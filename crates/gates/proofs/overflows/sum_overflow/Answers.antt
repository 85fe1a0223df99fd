use Rattle.std.proofs.lemmas.Result.{IfOk-weaker, IfErr-weaker}
use Rattle.std.proofs.Common.{◌*◌, length, arith, rules}
use Rattle.gates.specs.Made.{RefusesGate}
use Rattle.gates.proofs.LaterLemmas.{AreOperands-later, Refuses-weaker}
use Rattle.gates.proofs.CarryLemmas.{MakesLiteral-sum_overflow}
use Rattle.gates.proofs.LiteralLemmas.{Refuses-behind}
use Rattle.gates.proofs.GrowthLemmas.{Grows-trans, IsDefined-grown}
use Rattle.gates.proofs.overflows.sum_overflow.Goals as goal

pub returns-clause-ok : goal.returns-clause-ok
returns-clause-ok g c =
    IfOk-weaker c.xor.result _ _
    (λ l makes. MakesLiteral-sum_overflow _ _ _ _ c.args.a.now c.args.b.now c.args.carry c.in_ok-into_top.into_top c.in_ok-out.out l c.requires.operands.some c.requires.operands.equal
    c.in_ok-into_top.ensures.ok c.in_ok-out.ensures.ok makes)
    c.xor.ensures.ok

pub returns-clause-refused : goal.returns-clause-refused
returns-clause-refused g c =
    let n = length c.args.a.now in
    let before = Grows-trans _ _ _ _ _ c.in_ok-into_top.ensures.ok.grows c.in_ok-out.ensures.ok.grows in
    IfErr-weaker c.xor.result _ _ (λ e refused. Refuses-behind _ _ _ _ _ (12 * n) e (omega (arith, c.requires.operands.some)) before refused) c.xor.ensures.refused

pub carry_out-requires-clause-operands : goal.carry_out-requires-clause-operands
carry_out-requires-clause-operands g c = c.requires.operands

pub carry_out-requires-clause-carry : goal.carry_out-requires-clause-carry
carry_out-requires-clause-carry g c = c.requires.carry

pub carry_out-requires-2-clause-operands : goal.carry_out-requires-2-clause-operands
carry_out-requires-2-clause-operands g c = AreOperands-later _ _ _ _ _ _ c.in_ok-into_top.ensures.ok.grows c.requires.operands

pub carry_out-requires-2-clause-carry : goal.carry_out-requires-2-clause-carry
carry_out-requires-2-clause-carry g c = IsDefined-grown _ _ _ c.in_ok-into_top.ensures.ok.grows _ c.requires.carry

pub xor-requires-clause-left : goal.xor-requires-clause-left
xor-requires-clause-left g c = IsDefined-grown _ _ _ c.in_ok-out.ensures.ok.grows _ c.in_ok-into_top.ensures.ok.defined

pub xor-requires-clause-right : goal.xor-requires-clause-right
xor-requires-clause-right g c = c.in_ok-out.ensures.ok.defined

pub returns-in_err-into_top-clause-refused : goal.returns-in_err-into_top-clause-refused
returns-in_err-into_top-clause-refused g c =
    let n = length c.args.a.now in
    let refused : RefusesGate (g.G.Gates.made c.args.g.now) (g.G.Gates.made c.carry_out.new.g) (12 * n) c.in_err-into_top.field-0.0 =
    Refuses-weaker _ _ _ (12 * n) _ (omega arith) c.in_err-into_top.ensures.refused
    in search rules

pub returns-in_err-out-clause-refused : goal.returns-in_err-out-clause-refused
returns-in_err-out-clause-refused g c =
    let n = length c.args.a.now in
    let refused : RefusesGate (g.G.Gates.made c.args.g.now) (g.G.Gates.made c.carry_out-2.new.g) (12 * n) c.in_err-out.field-0.0 =
    Refuses-behind _ _ _ _ _ (12 * n) _ (omega arith) c.in_ok-into_top.ensures.ok.grows c.in_err-out.ensures.refused
    in search rules
