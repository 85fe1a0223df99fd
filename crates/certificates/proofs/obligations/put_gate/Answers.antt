use Rattle.std.proofs.Common.{ℕ, All, ◌∷◌, [], ◌+◌, ◌*◌, ap, sym, subst, ◌∙◌}
use Rattle.base.specs.Literal.{negation}
use Rattle.drup.specs.Formula.{IsLiteral}
use Rattle.certificates.proofs.PutLemmas.{gate_first, gate_second, gate_third}
use Rattle.certificates.proofs.obligations.put_gate.Goals as goal

pub put-requires : goal.put-requires
put-requires c = gate_first _ c.args.truth c.args.variable c.over-first.result c.args.gate c.requires.literals c.over-first.ensures

pub put-requires-2 : goal.put-requires-2
put-requires-2 c =
    subst (λ (n : ℕ). All (IsLiteral n) ((2 * c.args.variable + 1) ∷ c.over-second.result ∷ [])) (sym c.in_ok-put.ensures.variables)
    (gate_second _ c.args.truth c.args.variable c.over-second.result c.args.gate c.requires.literals c.over-second.ensures)

pub put-requires-3 : goal.put-requires-3
put-requires-3 c =
    subst (λ (n : ℕ). All (IsLiteral n) ((2 * c.args.variable) ∷ c.negation.result ∷ c.negation-2.result ∷ [])) (sym (c.in_ok-put-2.ensures.variables ∙ c.in_ok-put.ensures.variables))
    (gate_third _ c.args.truth c.args.variable c.negation.result c.negation-2.result c.args.gate c.requires.literals (c.negation.ensures ∙ ap negation c.over-first.ensures) (c.negation-2.ensures ∙ ap negation c.over-second.ensures))
