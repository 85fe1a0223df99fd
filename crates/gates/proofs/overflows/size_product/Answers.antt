use Rattle.std.proofs.Common.{◌*◌, ℕ, length, subst, unsigned_abs, ◌+◌, arith, sym, ◌∙◌, rules}
use Rattle.std.proofs.lemmas.Result.{IfOk-weaker, IfErr-weaker}
use Rattle.base.specs.Signed.{signed}
use Rattle.gates.specs.Made.{MakesWord, word_value, RefusesGate}
use Rattle.gates.proofs.LaterLemmas.{Refuses-weaker}
use Rattle.gates.proofs.SizeLemmas.{MakesWord-size_product, MakesLiteral-size_product}
use Rattle.gates.proofs.LiteralLemmas.{Refuses-behind}
use Rattle.gates.proofs.GrowthLemmas.{Grows-trans, All-defined-grown}
use Rattle.gates.proofs.overflows.size_product.Goals as goal

pub returns-clause-bits : goal.returns-clause-bits
returns-clause-bits g c =
    let mid = g.G.Gates.made c.size.new.g in
    let end = g.G.Gates.made c.size-2.new.g in
    let b = c.args.b.now in
    let n = length c.args.a.now in
    let second : MakesWord mid end (12 * n) n (λ v. unsigned_abs (signed n (word_value v b))) c.in_ok-second.second.items =
    subst (λ (k : ℕ). MakesWord mid end (12 * k) k (λ v. unsigned_abs (signed k (word_value v b))) c.in_ok-second.second.items) c.requires.equal c.in_ok-second.ensures.ok
    in
    IfOk-weaker c.whole_product.result _ _
    (λ product makes. MakesWord-size_product (g.G.Gates.made c.args.g.now) mid end (g.G.Gates.made c.whole_product.new.g) n c.in_ok-first.first.items c.in_ok-second.second.items product.bits.items
    (λ v. unsigned_abs (signed n (word_value v c.args.a.now))) (λ v. unsigned_abs (signed n (word_value v b))) c.in_ok-first.ensures.ok second makes)
    (rw (c.as_slice.ensures.value, c.as_slice-2.ensures.value) at c.whole_product.ensures.bits)

pub returns-clause-lost : goal.returns-clause-lost
returns-clause-lost g c =
    let mid = g.G.Gates.made c.size.new.g in
    let end = g.G.Gates.made c.size-2.new.g in
    let b = c.args.b.now in
    let n = length c.args.a.now in
    let second : MakesWord mid end (12 * n) n (λ v. unsigned_abs (signed n (word_value v b))) c.in_ok-second.second.items =
    subst (λ (k : ℕ). MakesWord mid end (12 * k) k (λ v. unsigned_abs (signed k (word_value v b))) c.in_ok-second.second.items) c.requires.equal c.in_ok-second.ensures.ok
    in
    IfOk-weaker c.whole_product.result _ _
    (λ product makes. MakesLiteral-size_product (g.G.Gates.made c.args.g.now) mid end (g.G.Gates.made c.whole_product.new.g) n c.in_ok-first.first.items c.in_ok-second.second.items product.lost
    (λ v. unsigned_abs (signed n (word_value v c.args.a.now))) (λ v. unsigned_abs (signed n (word_value v b))) c.in_ok-first.ensures.ok second makes)
    (rw (c.as_slice.ensures.value, c.as_slice-2.ensures.value) at c.whole_product.ensures.lost)

pub returns-clause-refused : goal.returns-clause-refused
returns-clause-refused g c =
    let n = length c.args.a.now in
    let before = Grows-trans _ _ _ _ _ c.in_ok-first.ensures.ok.grows c.in_ok-second.ensures.ok.grows in
    IfErr-weaker c.whole_product.result _ _ (λ e refused. Refuses-behind _ _ _ _ _ (12 * (n * n) + 24 * n) e (omega (arith, c.requires.equal)) before (rw (c.as_slice.ensures.value, c.in_ok-first.ensures.ok.wide) at refused)) c.whole_product.ensures.refused

pub size-requires-2-clause-some : goal.size-requires-2-clause-some
size-requires-2-clause-some g c = omega (arith, c.requires.some, c.requires.equal)

pub size-requires-2-clause-most : goal.size-requires-2-clause-most
size-requires-2-clause-most g c = omega (arith, c.requires.most, c.requires.equal)

pub size-requires-2-clause-defined : goal.size-requires-2-clause-defined
size-requires-2-clause-defined g c = All-defined-grown _ _ _ c.in_ok-first.ensures.ok.grows _ c.requires.right

pub whole_product-requires : goal.whole_product-requires
whole_product-requires g c =
    rw (c.as_slice.ensures.value, c.as_slice-2.ensures.value) (record {
      some = omega (arith, c.in_ok-first.ensures.ok.wide, c.requires.some);
      most = omega (arith, c.in_ok-first.ensures.ok.wide, c.requires.most);
      equal = c.in_ok-second.ensures.ok.wide ∙ c.requires.equal ∙ sym c.in_ok-first.ensures.ok.wide;
      left = All-defined-grown _ _ _ c.in_ok-second.ensures.ok.grows _ c.in_ok-first.ensures.ok.defined;
      right = c.in_ok-second.ensures.ok.defined;
    })

pub returns-in_err-first-clause-refused : goal.returns-in_err-first-clause-refused
returns-in_err-first-clause-refused g c =
    let n = length c.args.a.now in
    let refused : RefusesGate (g.G.Gates.made c.args.g.now) (g.G.Gates.made c.size.new.g) (12 * (n * n) + 24 * n) c.in_err-first.field-0.0 =
    Refuses-weaker _ _ _ (12 * (n * n) + 24 * n) _ (omega arith) c.in_err-first.ensures.refused
    in search rules

pub returns-in_err-second-clause-refused : goal.returns-in_err-second-clause-refused
returns-in_err-second-clause-refused g c =
    let n = length c.args.a.now in
    let refused : RefusesGate (g.G.Gates.made c.args.g.now) (g.G.Gates.made c.size-2.new.g) (12 * (n * n) + 24 * n) c.in_err-second.field-0.0 =
    Refuses-behind _ _ _ _ _ (12 * (n * n) + 24 * n) _ (omega (arith, c.requires.equal)) c.in_ok-first.ensures.ok.grows c.in_err-second.ensures.refused
    in search rules
