use Rattle.std.proofs.Common.{◌*◌, ℕ, length, subst, refl, ◌∙◌, arith, rules}
use Rattle.std.proofs.lemmas.Result.{IfOk-weaker, IfErr-weaker}
use Rattle.gates.specs.Made.{MakesWord, word_value, RefusesGate}
use Rattle.gates.specs.Sums.{literal_number}
use Rattle.gates.proofs.LaterLemmas.{Refuses-weaker}
use Rattle.gates.proofs.LiteralLemmas.{Refuses-behind}
use Rattle.gates.proofs.GrowthLemmas.{All-defined-grown}
use Rattle.gates.proofs.SignedModuloLemmas.{MakesWord-added_where}
use Rattle.gates.proofs.signed_division.added_where.Goals as goal

pub returns-clause-ok : goal.returns-clause-ok
returns-clause-ok g c =
    let old = g.G.Gates.made c.args.g.now in
    let mid = g.G.Gates.made c.masked.new.g in
    let b = c.args.b.now in
    let n = length c.args.a.now in
    let row : MakesWord old mid n n (λ v. word_value v b * literal_number v c.args.lit) c.in_ok-more.more.items =
    subst (λ (k : ℕ). MakesWord old mid k k (λ v. word_value v b * literal_number v c.args.lit) c.in_ok-more.more.items) c.requires.operands.equal c.in_ok-more.ensures.ok
    in
    IfOk-weaker c.add_bits.result _ _
    (λ bits makes. MakesWord-added_where old mid (g.G.Gates.made c.add_bits.new.g) n c.args.lit c.args.a.now b c.in_ok-more.more.items bits.items refl row makes)
    (rw c.as_slice.ensures.value at c.add_bits.ensures.ok)

pub masked-requires-clause-most : goal.masked-requires-clause-most
masked-requires-clause-most g c = omega (arith, c.requires.operands.most, c.requires.operands.equal)

pub masked-requires-clause-word : goal.masked-requires-clause-word
masked-requires-clause-word g c = c.requires.operands.right

pub add_bits-requires : goal.add_bits-requires
add_bits-requires g c =
    rw c.as_slice.ensures.value (record {
      some = c.requires.operands.some;
      most = c.requires.operands.most;
      equal = c.in_ok-more.ensures.ok.wide ∙ c.requires.operands.equal;
      left = All-defined-grown _ _ _ c.in_ok-more.ensures.ok.grows _ c.requires.operands.left;
      right = c.in_ok-more.ensures.ok.defined;
    })

pub returns-in_err-more-clause-refused : goal.returns-in_err-more-clause-refused
returns-in_err-more-clause-refused g c =
    let n = length c.args.a.now in
    let refused : RefusesGate (g.G.Gates.made c.args.g.now) (g.G.Gates.made c.masked.new.g) (10 * n) c.in_err-more.field-0.0 =
    Refuses-weaker _ _ _ (10 * n) _ (omega (arith, c.requires.operands.equal)) c.in_err-more.ensures.refused
    in search rules

pub returns-clause-refused : goal.returns-clause-refused
returns-clause-refused g c =
    let n = length c.args.a.now in
    IfErr-weaker c.add_bits.result _ _ (λ e refused. Refuses-behind _ _ _ _ _ (10 * n) e (omega (arith, c.requires.operands.equal)) c.in_ok-more.ensures.ok.grows refused) c.add_bits.ensures.refused
