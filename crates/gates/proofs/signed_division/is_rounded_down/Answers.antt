use Rattle.std.proofs.lemmas.Result.{IfOk-weaker, IfErr-weaker}
use Rattle.std.proofs.Common.{◌+◌, length, arith, rules}
use Rattle.gates.specs.Made.{RefusesGate}
use Rattle.gates.proofs.LaterLemmas.{Refuses-weaker}
use Rattle.gates.proofs.SignedModuloLemmas.{MakesLiteral-rounded_down}
use Rattle.gates.proofs.LiteralLemmas.{Refuses-behind}
use Rattle.gates.proofs.GrowthLemmas.{Grows-trans, IsDefined-grown}
use Rattle.gates.proofs.signed_division.is_rounded_down.Goals as goal

pub returns-clause-ok : goal.returns-clause-ok
returns-clause-ok g c =
    IfOk-weaker c.and.result _ _
    (λ l makes. MakesLiteral-rounded_down (g.G.Gates.made c.args.g.now) (g.G.Gates.made c.connect_bits.new.g) (g.G.Gates.made c.xor.new.g) (g.G.Gates.made c.and.new.self) c.args.dividend_sign c.args.divisor_sign
    c.in_ok-some.some c.in_ok-other.other l c.args.rest.now c.in_ok-some.ensures.ok c.in_ok-other.ensures.ok makes)
    c.and.ensures.ok

pub returns-clause-refused : goal.returns-clause-refused
returns-clause-refused g c =
    let before = Grows-trans _ _ _ _ _ c.in_ok-some.ensures.ok.grows c.in_ok-other.ensures.ok.grows in
    IfErr-weaker c.and.result _ _ (λ e refused. Refuses-behind _ _ _ _ _ (length c.args.rest.now + 4) e (omega arith) before refused) c.and.ensures.refused

pub xor-requires-clause-left : goal.xor-requires-clause-left
xor-requires-clause-left g c = IsDefined-grown _ _ _ c.in_ok-some.ensures.ok.grows _ c.requires.left

pub xor-requires-clause-right : goal.xor-requires-clause-right
xor-requires-clause-right g c = IsDefined-grown _ _ _ c.in_ok-some.ensures.ok.grows _ c.requires.right

pub and-requires-clause-left : goal.and-requires-clause-left
and-requires-clause-left g c = IsDefined-grown _ _ _ c.in_ok-other.ensures.ok.grows _ c.in_ok-some.ensures.ok.defined

pub and-requires-clause-right : goal.and-requires-clause-right
and-requires-clause-right g c = c.in_ok-other.ensures.ok.defined

pub returns-in_err-some-clause-refused : goal.returns-in_err-some-clause-refused
returns-in_err-some-clause-refused g c =
    let n = length c.args.rest.now in
    let refused : RefusesGate (g.G.Gates.made c.args.g.now) (g.G.Gates.made c.connect_bits.new.g) (n + 4) c.in_err-some.field-0.0 =
    Refuses-weaker _ _ _ (n + 4) _ (omega arith) c.in_err-some.ensures.refused
    in search rules

pub returns-in_err-other-clause-refused : goal.returns-in_err-other-clause-refused
returns-in_err-other-clause-refused g c =
    let n = length c.args.rest.now in
    let refused : RefusesGate (g.G.Gates.made c.args.g.now) (g.G.Gates.made c.xor.new.g) (n + 4) c.in_err-other.field-0.0 =
    Refuses-behind _ _ _ _ _ (n + 4) _ (omega arith) c.in_ok-some.ensures.ok.grows c.in_err-other.ensures.refused
    in search rules
