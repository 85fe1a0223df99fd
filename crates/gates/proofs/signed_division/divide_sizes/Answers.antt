use Rattle.std.proofs.Common.{◌*◌, ℕ, length, subst, unsigned_abs, ◌+◌, arith, sym, ◌∙◌, rules}
use Rattle.std.proofs.lemmas.Result.{IfOk-weaker, IfErr-weaker}
use Rattle.base.specs.Signed.{signed}
use Rattle.gates.specs.Made.{MakesWord, word_value, RefusesGate}
use Rattle.gates.proofs.LaterLemmas.{Refuses-weaker}
use Rattle.gates.proofs.SignedDivisionLemmas.{MakesWord-quotient, MakesWord-remainder}
use Rattle.gates.proofs.LiteralLemmas.{Refuses-behind}
use Rattle.gates.proofs.GrowthLemmas.{Grows-trans, All-defined-grown}
use Rattle.gates.proofs.signed_division.divide_sizes.Goals as goal

pub returns-clause-quotient : goal.returns-clause-quotient
returns-clause-quotient g c =
    let first = g.G.Gates.made c.size.new.g in
    let second = g.G.Gates.made c.size-2.new.g in
    let a = c.args.a.now in
    let b = c.args.b.now in
    let n = length a in
    let divisor : MakesWord first second (12 * n) n (λ v. unsigned_abs (signed n (word_value v b))) c.in_ok-divisor.divisor.items =
    subst (λ (k : ℕ). MakesWord first second (12 * k) k (λ v. unsigned_abs (signed k (word_value v b))) c.in_ok-divisor.divisor.items) c.requires.equal c.in_ok-divisor.ensures.ok
    in
    IfOk-weaker c.divide.result _ _
    (λ d makes. MakesWord-quotient (g.G.Gates.made c.args.g.now) first second (g.G.Gates.made c.divide.new.g) n c.in_ok-dividend.dividend.items c.in_ok-divisor.divisor.items d.quotient.items d.remainder.items
    (λ v. unsigned_abs (signed n (word_value v a))) (λ v. unsigned_abs (signed n (word_value v b))) c.in_ok-dividend.ensures.ok divisor makes)
    (rw (c.as_slice.ensures.value, c.as_slice-2.ensures.value) at c.divide.ensures.ok)

pub returns-clause-remainder : goal.returns-clause-remainder
returns-clause-remainder g c =
    let first = g.G.Gates.made c.size.new.g in
    let second = g.G.Gates.made c.size-2.new.g in
    let a = c.args.a.now in
    let b = c.args.b.now in
    let n = length a in
    let divisor : MakesWord first second (12 * n) n (λ v. unsigned_abs (signed n (word_value v b))) c.in_ok-divisor.divisor.items =
    subst (λ (k : ℕ). MakesWord first second (12 * k) k (λ v. unsigned_abs (signed k (word_value v b))) c.in_ok-divisor.divisor.items) c.requires.equal c.in_ok-divisor.ensures.ok
    in
    IfOk-weaker c.divide.result _ _
    (λ d makes. MakesWord-remainder (g.G.Gates.made c.args.g.now) first second (g.G.Gates.made c.divide.new.g) n c.in_ok-dividend.dividend.items c.in_ok-divisor.divisor.items d.quotient.items d.remainder.items
    (λ v. unsigned_abs (signed n (word_value v a))) (λ v. unsigned_abs (signed n (word_value v b))) c.in_ok-dividend.ensures.ok divisor makes)
    (rw (c.as_slice.ensures.value, c.as_slice-2.ensures.value) at c.divide.ensures.ok)

pub returns-clause-refused : goal.returns-clause-refused
returns-clause-refused g c =
    let n = length c.args.a.now in
    let before = Grows-trans _ _ _ _ _ c.in_ok-dividend.ensures.ok.grows c.in_ok-divisor.ensures.ok.grows in
    IfErr-weaker c.divide.result _ _ (λ e refused. Refuses-behind _ _ _ _ _ (12 * (n * n) + 36 * n) e (omega (arith, c.requires.equal)) before (rw (c.as_slice.ensures.value, c.in_ok-dividend.ensures.ok.wide) at refused)) c.divide.ensures.refused

pub size-requires-2-clause-some : goal.size-requires-2-clause-some
size-requires-2-clause-some g c = omega (arith, c.requires.some, c.requires.equal)

pub size-requires-2-clause-most : goal.size-requires-2-clause-most
size-requires-2-clause-most g c = omega (arith, c.requires.most, c.requires.equal)

pub size-requires-2-clause-defined : goal.size-requires-2-clause-defined
size-requires-2-clause-defined g c = All-defined-grown _ _ _ c.in_ok-dividend.ensures.ok.grows _ c.requires.right

pub divide-requires : goal.divide-requires
divide-requires g c =
    rw (c.as_slice.ensures.value, c.as_slice-2.ensures.value) (record {
      some = omega (arith, c.in_ok-dividend.ensures.ok.wide, c.requires.some);
      most = omega (arith, c.in_ok-dividend.ensures.ok.wide, c.requires.most);
      equal = c.in_ok-divisor.ensures.ok.wide ∙ c.requires.equal ∙ sym c.in_ok-dividend.ensures.ok.wide;
      left = All-defined-grown _ _ _ c.in_ok-divisor.ensures.ok.grows _ c.in_ok-dividend.ensures.ok.defined;
      right = c.in_ok-divisor.ensures.ok.defined;
    })

pub returns-in_err-dividend-clause-refused : goal.returns-in_err-dividend-clause-refused
returns-in_err-dividend-clause-refused g c =
    let n = length c.args.a.now in
    let refused : RefusesGate (g.G.Gates.made c.args.g.now) (g.G.Gates.made c.size.new.g) (12 * (n * n) + 36 * n) c.in_err-dividend.field-0.0 =
    Refuses-weaker _ _ _ (12 * (n * n) + 36 * n) _ (omega arith) c.in_err-dividend.ensures.refused
    in search rules

pub returns-in_err-divisor-clause-refused : goal.returns-in_err-divisor-clause-refused
returns-in_err-divisor-clause-refused g c =
    let n = length c.args.a.now in
    let refused : RefusesGate (g.G.Gates.made c.args.g.now) (g.G.Gates.made c.size-2.new.g) (12 * (n * n) + 36 * n) c.in_err-divisor.field-0.0 =
    Refuses-behind _ _ _ _ _ (12 * (n * n) + 36 * n) _ (omega (arith, c.requires.equal)) c.in_ok-dividend.ensures.ok.grows c.in_err-divisor.ensures.refused
    in search rules
