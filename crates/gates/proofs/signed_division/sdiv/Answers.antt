use Rattle.std.proofs.Common.{◌≡◌, ◌-◌, length, get_or, refl, ◌*◌, ◌+◌, arith, rules, ap}
use Rattle.std.proofs.lemmas.Result.{IfOk-weaker, IfErr-weaker}
use Rattle.gates.specs.Made.{RefusesGate}
use Rattle.gates.proofs.LaterLemmas.{IsDefined-of_word, Refuses-weaker}
use Rattle.gates.proofs.SignedDivisionLemmas.{MakesWord-sdiv}
use Rattle.gates.proofs.LiteralLemmas.{Refuses-behind}
use Rattle.gates.proofs.GrowthLemmas.{Grows-trans, All-defined-grown}
use Rattle.gates.proofs.signed_division.sdiv.Goals as goal

pub returns-clause-ok : goal.returns-clause-ok
returns-clause-ok g c =
    let a = c.args.a.now in
    let b = c.args.b.now in
    let x = c.index-a-top.result in
    let y = c.index-b-top.result in
    let x_is : x ≡ get_or a (length a - 1) x = c.index-a-top.is in
    let y_is : y ≡ get_or b (length a - 1) y = c.index-b-top.is in
    IfOk-weaker c.negated_where.result _ _
    (λ bits makes. MakesWord-sdiv (g.G.Gates.made c.args.g.now) (g.G.Gates.made c.divide_sizes.new.g) (g.G.Gates.made c.xor.new.g) (g.G.Gates.made c.negated_where.new.g) (length a) x y c.in_ok-negative.negative a b
    c.in_ok-divided.divided.quotient.items bits.items c.requires.some refl c.requires.equal x_is y_is c.in_ok-divided.ensures.quotient c.in_ok-negative.ensures.ok makes)
    (rw c.as_slice.ensures.value at c.negated_where.ensures.ok)

pub returns-clause-refused : goal.returns-clause-refused
returns-clause-refused g c =
    let n = length c.args.a.now in
    let before = Grows-trans _ _ _ _ _ c.in_ok-divided.ensures.quotient.grows c.in_ok-negative.ensures.ok.grows in
    IfErr-weaker c.negated_where.result _ _ (λ e refused. Refuses-behind _ _ _ _ _ (12 * (n * n) + 51 * n) e (omega (arith, ap length c.as_slice.ensures.value, c.in_ok-divided.ensures.quotient.wide, c.requires.some)) before refused) c.negated_where.ensures.refused

pub divide_sizes-requires : goal.divide_sizes-requires
divide_sizes-requires g c = c.requires

pub xor-requires-clause-left : goal.xor-requires-clause-left
xor-requires-clause-left g c =
    let a = c.args.a.now in
    let x = c.index-a-top.result in
    let x_is : x ≡ get_or a (length a - 1) x = c.index-a-top.is in
    IsDefined-of_word _ _ _ a (length a - 1) x (omega (arith, c.requires.some)) x_is c.requires.left c.in_ok-divided.ensures.quotient.grows

pub xor-requires-clause-right : goal.xor-requires-clause-right
xor-requires-clause-right g c =
    let n = length c.args.a.now in
    let b = c.args.b.now in
    let y = c.index-b-top.result in
    let y_is : y ≡ get_or b (n - 1) y = c.index-b-top.is in
    IsDefined-of_word _ _ _ b (n - 1) y (omega (arith, c.requires.some, c.requires.equal)) y_is c.requires.right c.in_ok-divided.ensures.quotient.grows

pub negated_where-requires-clause-some : goal.negated_where-requires-clause-some
negated_where-requires-clause-some g c = omega (arith, ap length c.as_slice.ensures.value, c.in_ok-divided.ensures.quotient.wide, c.requires.some)

pub negated_where-requires-clause-most : goal.negated_where-requires-clause-most
negated_where-requires-clause-most g c = omega (arith, ap length c.as_slice.ensures.value, c.in_ok-divided.ensures.quotient.wide, c.requires.most)

pub negated_where-requires-clause-literal : goal.negated_where-requires-clause-literal
negated_where-requires-clause-literal g c = c.in_ok-negative.ensures.ok.defined

pub negated_where-requires-clause-defined : goal.negated_where-requires-clause-defined
negated_where-requires-clause-defined g c = rw c.as_slice.ensures.value (All-defined-grown _ _ _ c.in_ok-negative.ensures.ok.grows _ c.in_ok-divided.ensures.quotient.defined)

pub returns-in_err-divided-clause-refused : goal.returns-in_err-divided-clause-refused
returns-in_err-divided-clause-refused g c =
    let n = length c.args.a.now in
    let refused : RefusesGate (g.G.Gates.made c.args.g.now) (g.G.Gates.made c.divide_sizes.new.g) (12 * (n * n) + 51 * n) c.in_err-divided.field-0.0 =
    Refuses-weaker _ _ _ (12 * (n * n) + 51 * n) _ (omega arith) c.in_err-divided.ensures.refused
    in search rules

pub returns-in_err-negative-clause-refused : goal.returns-in_err-negative-clause-refused
returns-in_err-negative-clause-refused g c =
    let n = length c.args.a.now in
    let refused : RefusesGate (g.G.Gates.made c.args.g.now) (g.G.Gates.made c.xor.new.g) (12 * (n * n) + 51 * n) c.in_err-negative.field-0.0 =
    Refuses-behind _ _ _ _ _ (12 * (n * n) + 51 * n) _ (omega (arith, c.requires.some)) c.in_ok-divided.ensures.quotient.grows c.in_err-negative.ensures.refused
    in search rules
