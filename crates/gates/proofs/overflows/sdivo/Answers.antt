use Rattle.std.proofs.Common.{◌≡◌, ◌≤◌, length, map, arith, ap, ◌∙◌, ◌*◌, rules}
use Rattle.std.proofs.lemmas.Result.{IfOk-weaker, IfErr-weaker}
use Rattle.base.specs.Literal.{negation}
use Rattle.gates.specs.Made.{RefusesGate}
use Rattle.gates.specs.Tests.{with_top_negated}
use Rattle.gates.proofs.LaterLemmas.{Refuses-weaker}
use Rattle.gates.proofs.GrowthLemmas.{MakesWord-not, Grows-trans, IsDefined-grown, All-defined-grown}
use Rattle.gates.proofs.OrderLemmas.{All-top_negated, length-top_negated}
use Rattle.gates.proofs.OverflowLemmas.{MakesWord-sdivo}
use Rattle.gates.proofs.LiteralLemmas.{Refuses-behind}
use Rattle.gates.proofs.overflows.sdivo.Goals as goal

pub connect_bits-requires : goal.connect_bits-requires
connect_bits-requires g c =
    let negated = MakesWord-not _ c.args.a.now c.as_slice.result.now c.requires.left (c.as_slice.ensures.value ∙ c.negation.ensures) in
    let some : 1 ≤ length c.as_slice.result.now = omega (arith, negated.wide) in
    rw c.as_slice-2.ensures.value (record {
      most = rw c.top_negated-as_least.ensures (omega (arith, length-top_negated c.as_slice.result.now some, negated.wide));
      defined = All-top_negated _ c.as_slice.result.now c.top_negated-as_least.result.items c.top_negated-as_least.ensures some negated.defined;
    })

pub returns-clause-ok : goal.returns-clause-ok
returns-clause-ok g c =
    let as_least : c.top_negated-as_least.result.items ≡ with_top_negated (map negation c.args.a.now) = rw (← (c.as_slice.ensures.value ∙ c.negation.ensures)) c.top_negated-as_least.ensures in
    IfOk-weaker c.and.result _ _
    (λ l makes. MakesWord-sdivo _ _ _ _ c.args.a.now c.args.b.now c.top_negated-as_least.result.items c.in_ok-is_least.is_least c.in_ok-is_minus_one.is_minus_one l
    c.requires.some c.requires.equal as_least (rw c.as_slice-2.ensures.value at c.in_ok-is_least.ensures.ok) c.in_ok-is_minus_one.ensures.ok makes)
    c.and.ensures.ok

pub returns-clause-refused : goal.returns-clause-refused
returns-clause-refused g c =
    let a = c.args.a.now in
    let n = length a in
    let negated = MakesWord-not _ a c.as_slice.result.now c.requires.left (c.as_slice.ensures.value ∙ c.negation.ensures) in
    let some : 1 ≤ length c.as_slice.result.now = omega (arith, negated.wide) in
    let wide : length c.as_slice-2.result.now ≡ n = ap length (c.as_slice-2.ensures.value ∙ c.top_negated-as_least.ensures) ∙ length-top_negated c.as_slice.result.now some ∙ negated.wide in
    let before = Grows-trans _ _ _ _ _ c.in_ok-is_least.ensures.ok.grows c.in_ok-is_minus_one.ensures.ok.grows in
    IfErr-weaker c.and.result _ _ (λ e refused. Refuses-behind _ _ _ _ _ (3 * n) e (omega (arith, wide, c.requires.equal, c.requires.some)) before refused) c.and.ensures.refused

pub connect_bits-requires-2-clause-most : goal.connect_bits-requires-2-clause-most
connect_bits-requires-2-clause-most g c = omega (arith, c.requires.equal, c.requires.most)

pub connect_bits-requires-2-clause-defined : goal.connect_bits-requires-2-clause-defined
connect_bits-requires-2-clause-defined g c = All-defined-grown _ _ _ c.in_ok-is_least.ensures.ok.grows _ c.requires.right

pub and-requires-clause-left : goal.and-requires-clause-left
and-requires-clause-left g c = IsDefined-grown _ _ _ c.in_ok-is_minus_one.ensures.ok.grows _ c.in_ok-is_least.ensures.ok.defined

pub and-requires-clause-right : goal.and-requires-clause-right
and-requires-clause-right g c = c.in_ok-is_minus_one.ensures.ok.defined

pub returns-in_err-is_least-clause-refused : goal.returns-in_err-is_least-clause-refused
returns-in_err-is_least-clause-refused g c =
    let a = c.args.a.now in
    let n = length a in
    let negated = MakesWord-not _ a c.as_slice.result.now c.requires.left (c.as_slice.ensures.value ∙ c.negation.ensures) in
    let some : 1 ≤ length c.as_slice.result.now = omega (arith, negated.wide) in
    let wide : length c.as_slice-2.result.now ≡ n = ap length (c.as_slice-2.ensures.value ∙ c.top_negated-as_least.ensures) ∙ length-top_negated c.as_slice.result.now some ∙ negated.wide in
    let refused : RefusesGate (g.G.Gates.made c.args.g.now) (g.G.Gates.made c.connect_bits.new.g) (3 * n) c.in_err-is_least.field-0.0 =
    Refuses-weaker _ _ _ (3 * n) _ (omega (arith, wide)) c.in_err-is_least.ensures.refused
    in search rules

pub returns-in_err-is_minus_one-clause-refused : goal.returns-in_err-is_minus_one-clause-refused
returns-in_err-is_minus_one-clause-refused g c =
    let a = c.args.a.now in
    let n = length a in
    let negated = MakesWord-not _ a c.as_slice.result.now c.requires.left (c.as_slice.ensures.value ∙ c.negation.ensures) in
    let some : 1 ≤ length c.as_slice.result.now = omega (arith, negated.wide) in
    let wide : length c.as_slice-2.result.now ≡ n = ap length (c.as_slice-2.ensures.value ∙ c.top_negated-as_least.ensures) ∙ length-top_negated c.as_slice.result.now some ∙ negated.wide in
    let refused : RefusesGate (g.G.Gates.made c.args.g.now) (g.G.Gates.made c.connect_bits-2.new.g) (3 * n) c.in_err-is_minus_one.field-0.0 =
    Refuses-behind _ _ _ _ _ (3 * n) _ (omega (arith, wide, c.requires.equal)) c.in_ok-is_least.ensures.ok.grows c.in_err-is_minus_one.ensures.refused
    in search rules
