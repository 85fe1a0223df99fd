use Rattle.std.proofs.lemmas.List.{length-map}
use Rattle.std.proofs.Common.{◌≡◌, ℕ, ◌*◌, length, map, ap, subst, ◌∙◌, arith, rules}
use Rattle.base.specs.Literal.{negation}
use Rattle.gates.specs.Made.{RefusesGate}
use Rattle.gates.proofs.GrowthLemmas.{MakesWord-not}
use Rattle.gates.proofs.SumLemmas.{MakesWord-decremented}
use Rattle.gates.proofs.adders.dec_bits.Goals as goal

pub inc_bits-requires-clause-defined : goal.inc_bits-requires-clause-defined
inc_bits-requires-clause-defined g c = (MakesWord-not _ c.args.a.now c.as_slice.result.now c.requires.defined (c.as_slice.ensures.value ∙ c.negation.ensures)).defined

pub returns-clause-ok : goal.returns-clause-ok
returns-clause-ok g c =
    MakesWord-decremented _ _ c.args.a.now c.as_slice.result.now c.in_ok-negated.negated.items c.negation-2.result.items (c.as_slice.ensures.value ∙ c.negation.ensures) (c.negation-2.ensures ∙ ap (map negation) c.as_slice-2.ensures.value) c.in_ok-negated.ensures.ok

pub inc_bits-requires-clause-some : goal.inc_bits-requires-clause-some
inc_bits-requires-clause-some g c = omega (arith, ap length (c.as_slice.ensures.value ∙ c.negation.ensures), length-map c.args.a.now negation, c.requires.some)

pub inc_bits-requires-clause-most : goal.inc_bits-requires-clause-most
inc_bits-requires-clause-most g c = omega (arith, ap length (c.as_slice.ensures.value ∙ c.negation.ensures), length-map c.args.a.now negation, c.requires.most)

pub returns-in_err-negated-clause-refused : goal.returns-in_err-negated-clause-refused
returns-in_err-negated-clause-refused g c =
    let n = length c.args.a.now in
    let count : length c.as_slice.result.now ≡ n = ap length (c.as_slice.ensures.value ∙ c.negation.ensures) ∙ length-map c.args.a.now negation in
    let refused : RefusesGate (g.G.Gates.made c.args.g.now) (g.G.Gates.made c.inc_bits.new.g) (9 * n) c.in_err-negated.field-0.0 =
    subst (λ (k : ℕ). RefusesGate (g.G.Gates.made c.args.g.now) (g.G.Gates.made c.inc_bits.new.g) (9 * k) c.in_err-negated.field-0.0) count c.in_err-negated.ensures.refused
    in search rules
