use Rattle.std.proofs.Common.{◌≡◌, ◌-◌, length, get_or, refl, ◌*◌, ◌+◌, arith, sym, ◌∙◌, rules, ap}
use Rattle.std.proofs.lemmas.Result.{IfOk-weaker, IfErr-weaker}
use Rattle.gates.specs.Made.{RefusesGate}
use Rattle.gates.proofs.LaterLemmas.{IsDefined-of_word, Refuses-weaker}
use Rattle.gates.proofs.SignedModuloLemmas.{MakesWord-smod}
use Rattle.gates.proofs.LiteralLemmas.{Refuses-behind}
use Rattle.gates.proofs.GrowthLemmas.{Grows-trans, All-defined-grown}
use Rattle.gates.proofs.signed_division.smod.Goals as goal

pub returns-clause-ok : goal.returns-clause-ok
returns-clause-ok g c =
    let a = c.args.a.now in
    let b = c.args.b.now in
    let x = c.index-a-top.result in
    let y = c.index-b-top.result in
    let x_is : x ≡ get_or a (length a - 1) x = c.index-a-top.is in
    let y_is : y ≡ get_or b (length a - 1) y = c.index-b-top.is in
    IfOk-weaker c.added_where.result _ _
    (λ bits makes. MakesWord-smod (g.G.Gates.made c.args.g.now) (g.G.Gates.made c.srem.new.g) (g.G.Gates.made c.is_rounded_down.new.g) (g.G.Gates.made c.added_where.new.g) (length a) x y c.in_ok-rounded_down.rounded_down a b
    c.in_ok-rest.rest.items bits.items c.requires.some refl c.requires.equal x_is y_is c.in_ok-rest.ensures.ok (rw c.as_slice.ensures.value at c.in_ok-rounded_down.ensures.ok) makes)
    (rw c.as_slice-2.ensures.value at c.added_where.ensures.ok)

pub returns-clause-refused : goal.returns-clause-refused
returns-clause-refused g c =
    let n = length c.args.a.now in
    let before = Grows-trans _ _ _ _ _ c.in_ok-rest.ensures.ok.grows c.in_ok-rounded_down.ensures.ok.grows in
    IfErr-weaker c.added_where.result _ _ (λ e refused. Refuses-behind _ _ _ _ _ (12 * (n * n) + 63 * n) e (omega (arith, ap length c.as_slice.ensures.value, ap length c.as_slice-2.ensures.value, c.in_ok-rest.ensures.ok.wide, c.requires.some)) before refused) c.added_where.ensures.refused

pub srem-requires : goal.srem-requires
srem-requires g c = c.requires

pub is_rounded_down-requires-clause-most : goal.is_rounded_down-requires-clause-most
is_rounded_down-requires-clause-most g c = omega (arith, ap length c.as_slice.ensures.value, c.in_ok-rest.ensures.ok.wide, c.requires.most)

pub is_rounded_down-requires-clause-rest : goal.is_rounded_down-requires-clause-rest
is_rounded_down-requires-clause-rest g c = rw c.as_slice.ensures.value c.in_ok-rest.ensures.ok.defined

pub is_rounded_down-requires-clause-left : goal.is_rounded_down-requires-clause-left
is_rounded_down-requires-clause-left g c =
    let a = c.args.a.now in
    let x = c.index-a-top.result in
    let x_is : x ≡ get_or a (length a - 1) x = c.index-a-top.is in
    IsDefined-of_word _ _ _ a (length a - 1) x (omega (arith, c.requires.some)) x_is c.requires.left c.in_ok-rest.ensures.ok.grows

pub is_rounded_down-requires-clause-right : goal.is_rounded_down-requires-clause-right
is_rounded_down-requires-clause-right g c =
    let n = length c.args.a.now in
    let b = c.args.b.now in
    let y = c.index-b-top.result in
    let y_is : y ≡ get_or b (n - 1) y = c.index-b-top.is in
    IsDefined-of_word _ _ _ b (n - 1) y (omega (arith, c.requires.some, c.requires.equal)) y_is c.requires.right c.in_ok-rest.ensures.ok.grows

pub added_where-requires-clause-operands : goal.added_where-requires-clause-operands
added_where-requires-clause-operands g c =
    rw c.as_slice-2.ensures.value (record {
      some = omega (arith, c.in_ok-rest.ensures.ok.wide, c.requires.some);
      most = omega (arith, c.in_ok-rest.ensures.ok.wide, c.requires.most);
      equal = c.requires.equal ∙ sym c.in_ok-rest.ensures.ok.wide;
      left = All-defined-grown _ _ _ c.in_ok-rounded_down.ensures.ok.grows _ c.in_ok-rest.ensures.ok.defined;
      right = All-defined-grown _ _ _ (Grows-trans _ _ _ _ _ c.in_ok-rest.ensures.ok.grows c.in_ok-rounded_down.ensures.ok.grows) _ c.requires.right;
    })

pub added_where-requires-clause-literal : goal.added_where-requires-clause-literal
added_where-requires-clause-literal g c = c.in_ok-rounded_down.ensures.ok.defined

pub returns-in_err-rest-clause-refused : goal.returns-in_err-rest-clause-refused
returns-in_err-rest-clause-refused g c =
    let n = length c.args.a.now in
    let refused : RefusesGate (g.G.Gates.made c.args.g.now) (g.G.Gates.made c.srem.new.g) (12 * (n * n) + 63 * n) c.in_err-rest.field-0.0 =
    Refuses-weaker _ _ _ (12 * (n * n) + 63 * n) _ (omega arith) c.in_err-rest.ensures.refused
    in search rules

pub returns-in_err-rounded_down-clause-refused : goal.returns-in_err-rounded_down-clause-refused
returns-in_err-rounded_down-clause-refused g c =
    let n = length c.args.a.now in
    let refused : RefusesGate (g.G.Gates.made c.args.g.now) (g.G.Gates.made c.is_rounded_down.new.g) (12 * (n * n) + 63 * n) c.in_err-rounded_down.field-0.0 =
    Refuses-behind _ _ _ _ _ (12 * (n * n) + 63 * n) _ (omega (arith, ap length c.as_slice.ensures.value, c.in_ok-rest.ensures.ok.wide, c.requires.some)) c.in_ok-rest.ensures.ok.grows c.in_err-rounded_down.ensures.refused
    in search rules
