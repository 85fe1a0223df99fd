use Rattle.std.proofs.Common.{◌≡◌, ℕ, ◌+◌, ◌-◌, ◌*◌, ◌≤◌, length, get_or, subst, arith, rules, ap, ◌∙◌}
use Rattle.std.proofs.lemmas.Result.{IfOk-weaker, IfErr-weaker}
use Rattle.gates.specs.Made.{Grows, RefusesGate}
use Rattle.gates.proofs.LaterLemmas.{IsDefined-of_word, Refuses-weaker}
use Rattle.gates.proofs.LiteralLemmas.{Refuses-behind}
use Rattle.gates.proofs.GrowthLemmas.{Grows-trans, IsDefined-grown, All-defined-grown}
use Rattle.gates.proofs.SizeLemmas.{MakesWord-smulo, few_enough}
use Rattle.gates.proofs.overflows.smulo.Goals as goal

pub returns-clause-ok : goal.returns-clause-ok
returns-clause-ok g c =
    let a = c.args.a.now in
    let b = c.args.b.now in
    let n = length a in
    let x = c.index-a-top.result in
    let y = c.index-b-top.result in
    let x_is : x ≡ get_or a (n - 1) x = c.index-a-top.is in
    let y_is : y ≡ get_or b (n - 1) y = c.index-b-top.is in
    IfOk-weaker c.disjunction.result _ _
    (λ l makes. MakesWord-smulo _ _ _ _ _ a b c.in_ok-product.product.bits.items x y c.in_ok-product.product.lost c.in_ok-negative.negative c.in_ok-above.above l c.requires.some c.requires.equal x_is y_is
    c.in_ok-product.ensures.bits c.in_ok-product.ensures.lost c.in_ok-negative.ensures.ok (rw c.as_slice.ensures.value at c.in_ok-above.ensures.ok) makes)
    c.disjunction.ensures.ok

-- the gates of a product of sizes, and those and of the sign, fit
few_product : (n : ℕ) → 1 ≤ n → 12 * (n * n) + 24 * n ≤ 40 * (n * n) + 4 * n
few_product n some = omega (arith, few_enough n some)

few_signs : (n : ℕ) → 1 ≤ n → 12 * (n * n) + 24 * n + 3 ≤ 40 * (n * n) + 4 * n
few_signs n some = omega (arith, few_enough n some)

few_above : (n k : ℕ) → k ≡ n → 1 ≤ n → 12 * (n * n) + 24 * n + 3 + (k + 1) ≤ 40 * (n * n) + 4 * n
few_above n k same some = omega (arith, few_enough n some)

few_all : (n : ℕ) → 1 ≤ n → 12 * (n * n) + 24 * n + (3 + (n + 1)) + 1 ≤ 40 * (n * n) + 4 * n
few_all n some = omega (arith, few_enough n some)

pub returns-clause-refused : goal.returns-clause-refused
returns-clause-refused g c =
    let n = length c.args.a.now in
    let m = 12 * (n * n) + 24 * n in
    let first = g.G.Gates.made c.size_product.new.g in
    let second = g.G.Gates.made c.xor.new.g in
    let third = g.G.Gates.made c.size_overflow.new.g in
    let far : Grows second third (n + 1) = subst (λ (k : ℕ). Grows second third (k + 1)) (ap length c.as_slice.ensures.value ∙ c.in_ok-product.ensures.bits.wide) c.in_ok-above.ensures.ok.grows in
    let before : Grows (g.G.Gates.made c.args.g.now) third (m + (3 + (n + 1))) =
    Grows-trans _ first third m (3 + (n + 1)) c.in_ok-product.ensures.bits.grows (Grows-trans first second third 3 (n + 1) c.in_ok-negative.ensures.ok.grows far)
    in
    IfErr-weaker c.disjunction.result _ _ (λ e refused. Refuses-behind _ third _ (m + (3 + (n + 1))) 1 (40 * (n * n) + 4 * n) e (few_all n c.requires.some) before refused) c.disjunction.ensures.refused

pub returns-in_err-above-clause-refused : goal.returns-in_err-above-clause-refused
returns-in_err-above-clause-refused g c =
    let n = length c.args.a.now in
    let refused : RefusesGate (g.G.Gates.made c.args.g.now) (g.G.Gates.made c.size_overflow.new.g) (40 * (n * n) + 4 * n) c.in_err-above.field-0.0 =
    Refuses-behind _ _ _ _ _ (40 * (n * n) + 4 * n) _ (few_above n (length c.as_slice.result.now) (ap length c.as_slice.ensures.value ∙ c.in_ok-product.ensures.bits.wide) c.requires.some) (Grows-trans _ _ _ _ _ c.in_ok-product.ensures.bits.grows c.in_ok-negative.ensures.ok.grows) c.in_err-above.ensures.refused
    in search rules

pub size_product-requires : goal.size_product-requires
size_product-requires g c = c.requires

pub xor-requires-clause-left : goal.xor-requires-clause-left
xor-requires-clause-left g c =
    let a = c.args.a.now in
    let x = c.index-a-top.result in
    let x_is : x ≡ get_or a (length a - 1) x = c.index-a-top.is in
    IsDefined-of_word _ _ _ a (length a - 1) x (omega (arith, c.requires.some)) x_is c.requires.left c.in_ok-product.ensures.bits.grows

pub xor-requires-clause-right : goal.xor-requires-clause-right
xor-requires-clause-right g c =
    let n = length c.args.a.now in
    let b = c.args.b.now in
    let y = c.index-b-top.result in
    let y_is : y ≡ get_or b (n - 1) y = c.index-b-top.is in
    IsDefined-of_word _ _ _ b (n - 1) y (omega (arith, c.requires.some, c.requires.equal)) y_is c.requires.right c.in_ok-product.ensures.bits.grows

pub size_overflow-requires-clause-some : goal.size_overflow-requires-clause-some
size_overflow-requires-clause-some g c = omega (arith, ap length c.as_slice.ensures.value, c.in_ok-product.ensures.bits.wide, c.requires.some)

pub size_overflow-requires-clause-most : goal.size_overflow-requires-clause-most
size_overflow-requires-clause-most g c = omega (arith, ap length c.as_slice.ensures.value, c.in_ok-product.ensures.bits.wide, c.requires.most)

pub size_overflow-requires-clause-literal : goal.size_overflow-requires-clause-literal
size_overflow-requires-clause-literal g c = c.in_ok-negative.ensures.ok.defined

pub size_overflow-requires-clause-defined : goal.size_overflow-requires-clause-defined
size_overflow-requires-clause-defined g c = rw c.as_slice.ensures.value (All-defined-grown _ _ _ c.in_ok-negative.ensures.ok.grows _ c.in_ok-product.ensures.bits.defined)

pub disjunction-requires-clause-left : goal.disjunction-requires-clause-left
disjunction-requires-clause-left g c = IsDefined-grown _ _ _ (Grows-trans _ _ _ _ _ c.in_ok-negative.ensures.ok.grows c.in_ok-above.ensures.ok.grows) _ c.in_ok-product.ensures.lost.defined

pub disjunction-requires-clause-right : goal.disjunction-requires-clause-right
disjunction-requires-clause-right g c = c.in_ok-above.ensures.ok.defined

pub returns-in_err-product-clause-refused : goal.returns-in_err-product-clause-refused
returns-in_err-product-clause-refused g c =
    let n = length c.args.a.now in
    let refused : RefusesGate (g.G.Gates.made c.args.g.now) (g.G.Gates.made c.size_product.new.g) (40 * (n * n) + 4 * n) c.in_err-product.field-0.0 =
    Refuses-weaker _ _ _ (40 * (n * n) + 4 * n) _ (few_product n c.requires.some) c.in_err-product.ensures.refused
    in search rules

pub returns-in_err-negative-clause-refused : goal.returns-in_err-negative-clause-refused
returns-in_err-negative-clause-refused g c =
    let n = length c.args.a.now in
    let refused : RefusesGate (g.G.Gates.made c.args.g.now) (g.G.Gates.made c.xor.new.g) (40 * (n * n) + 4 * n) c.in_err-negative.field-0.0 =
    Refuses-behind _ _ _ _ _ (40 * (n * n) + 4 * n) _ (few_signs n c.requires.some) c.in_ok-product.ensures.bits.grows c.in_err-negative.ensures.refused
    in search rules
