use Rattle.std.proofs.lemmas.List.Elements.{All-replicate}
use Rattle.std.proofs.lemmas.List.{length-replicate}
use Rattle.std.proofs.Common.{◌≡◌, length, replicate, ℕ, ◌*◌, sym, ap, subst, ◌∙◌, arith, rules}
use Rattle.aiger.specs.Net.{IsDefined}
use Rattle.aiger.proofs.NetLemmas.{IsDefined-false}
use Rattle.gates.specs.Made.{RefusesGate}
use Rattle.gates.proofs.SumLemmas.{MakesWord-negative}
use Rattle.gates.proofs.adders.neg_bits.Goals as goal

pub returns-clause-ok : goal.returns-clause-ok
returns-clause-ok g c =
    let zeros : c.as_slice.result.now ≡ replicate (length c.args.a.now) 0 = (c.as_slice.ensures.value ∙ c.repeated.ensures) in
    MakesWord-negative _ _ c.args.a.now c.as_slice.result.now c.in_ok-sum.sum.sum.items c.in_ok-sum.sum.into_top c.in_ok-sum.sum.out zeros c.in_ok-sum.ensures.ok

pub difference-requires : goal.difference-requires
difference-requires g c =
    let count : length c.as_slice.result.now ≡ length c.args.a.now = ap length (c.as_slice.ensures.value ∙ c.repeated.ensures) ∙ length-replicate (length c.args.a.now) 0 in
    record {
      some = omega (arith, count, c.requires.some);
      most = omega (arith, count, c.requires.most);
      equal = sym count;
      left = rw (c.as_slice.ensures.value ∙ c.repeated.ensures) (All-replicate (IsDefined (g.G.Gates.made c.args.g.now)) (length c.args.a.now) 0 (IsDefined-false _));
      right = c.requires.defined;
    }

pub returns-in_err-sum-clause-refused : goal.returns-in_err-sum-clause-refused
returns-in_err-sum-clause-refused g c =
    let n = length c.args.a.now in
    let count : length c.as_slice.result.now ≡ n = ap length (c.as_slice.ensures.value ∙ c.repeated.ensures) ∙ length-replicate (length c.args.a.now) 0 in
    let refused : RefusesGate (g.G.Gates.made c.args.g.now) (g.G.Gates.made c.difference.new.g) (9 * n) c.in_err-sum.field-0.0 =
    subst (λ (k : ℕ). RefusesGate (g.G.Gates.made c.args.g.now) (g.G.Gates.made c.difference.new.g) (9 * k) c.in_err-sum.field-0.0) count c.in_err-sum.ensures.refused
    in search rules
