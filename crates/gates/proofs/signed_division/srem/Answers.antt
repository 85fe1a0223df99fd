use Rattle.std.proofs.Common.{◌≡◌, ◌-◌, length, get_or, refl, ◌+◌, ◌*◌, arith, rules, ap}
use Rattle.std.proofs.lemmas.Result.{IfOk-weaker, IfErr-weaker}
use Rattle.gates.specs.Made.{RefusesGate}
use Rattle.gates.proofs.LaterLemmas.{IsDefined-of_word, Refuses-weaker}
use Rattle.gates.proofs.LiteralLemmas.{Refuses-behind}
use Rattle.gates.proofs.SignedDivisionLemmas.{MakesWord-srem}
use Rattle.gates.proofs.signed_division.srem.Goals as goal

pub returns-clause-ok : goal.returns-clause-ok
returns-clause-ok g c =
    let a = c.args.a.now in
    let b = c.args.b.now in
    let x = c.index-a-a.result in
    let x_is : x ≡ get_or a (length a - 1) x = c.index-a-a.is in
    IfOk-weaker c.negated_where.result _ _
    (λ bits makes. MakesWord-srem (g.G.Gates.made c.args.g.now) (g.G.Gates.made c.divide_sizes.new.g) (g.G.Gates.made c.negated_where.new.g) (length a) x a b
    c.in_ok-divided.divided.remainder.items bits.items c.requires.some refl c.requires.equal x_is c.in_ok-divided.ensures.remainder makes)
    (rw c.as_slice.ensures.value at c.negated_where.ensures.ok)

pub divide_sizes-requires : goal.divide_sizes-requires
divide_sizes-requires g c = c.requires

pub negated_where-requires-clause-some : goal.negated_where-requires-clause-some
negated_where-requires-clause-some g c = omega (arith, ap length c.as_slice.ensures.value, c.in_ok-divided.ensures.remainder.wide, c.requires.some)

pub negated_where-requires-clause-most : goal.negated_where-requires-clause-most
negated_where-requires-clause-most g c = omega (arith, ap length c.as_slice.ensures.value, c.in_ok-divided.ensures.remainder.wide, c.requires.most)

pub negated_where-requires-clause-literal : goal.negated_where-requires-clause-literal
negated_where-requires-clause-literal g c =
    let a = c.args.a.now in
    let x = c.index-a-a.result in
    let x_is : x ≡ get_or a (length a - 1) x = c.index-a-a.is in
    IsDefined-of_word _ _ _ a (length a - 1) x (omega (arith, c.requires.some)) x_is c.requires.left c.in_ok-divided.ensures.remainder.grows

pub negated_where-requires-clause-defined : goal.negated_where-requires-clause-defined
negated_where-requires-clause-defined g c = rw c.as_slice.ensures.value c.in_ok-divided.ensures.remainder.defined

pub returns-in_err-divided-clause-refused : goal.returns-in_err-divided-clause-refused
returns-in_err-divided-clause-refused g c =
    let n = length c.args.a.now in
    let refused : RefusesGate (g.G.Gates.made c.args.g.now) (g.G.Gates.made c.divide_sizes.new.g) (12 * (n * n) + 48 * n) c.in_err-divided.field-0.0 =
    Refuses-weaker _ _ _ (12 * (n * n) + 48 * n) _ (omega arith) c.in_err-divided.ensures.refused
    in search rules

pub returns-clause-refused : goal.returns-clause-refused
returns-clause-refused g c =
    let n = length c.args.a.now in
    IfErr-weaker c.negated_where.result _ _ (λ e refused. Refuses-behind _ _ _ _ _ (12 * (n * n) + 48 * n) e (omega (arith, ap length c.as_slice.ensures.value, c.in_ok-divided.ensures.remainder.wide)) c.in_ok-divided.ensures.remainder.grows refused) c.negated_where.ensures.refused
