use Rattle.std.proofs.Common.{◌≡◌, ℕ, IfSome, length, sym, subst, ◌∙◌, rules}
use Rattle.certificates.specs.Invariants.{AreOver}
use Rattle.certificates.specs.Texts.{SaysCubes}
use Rattle.certificates.proofs.claims.formula_over.Goals as goal

pub returns-clause-ok : goal.returns-clause-ok
returns-clause-ok g c =
    let v = c.in_ok-invariant.invariant in
    let many : v.latches ≡ length c.args.form.now.latches = search rules in
    record {
      cubes = v.cubes;
      are_cubes = record {
        over = subst (λ (n : ℕ). AreOver n v.cubes) many c.latches-2.ensures.over;
        ask = c.latches-2.ensures.ask;
        says = subst (λ (n : ℕ). IfSome (g.S.Source.to_come c.args.invariant.now) (λ text. SaysCubes n text v.cubes)) (sym c.in_ok-invariant.ensures.latches ∙ many) c.in_ok-invariant.ensures.says;
      };
      few = c.in_ok-obligation.ensures.refused;
      is_obligation = c.in_ok-obligation.ensures.ok;
    }
