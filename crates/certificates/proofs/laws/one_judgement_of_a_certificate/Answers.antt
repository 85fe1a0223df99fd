use Rattle.std.proofs.Common.{◌≡◌, List, ℕ, Some, sym, ap, subst, ◌∙◌, length}
use Rattle.aiger.specs.Circuit.{Circuit}
use Rattle.drup.specs.Formula.{Formula}
use Rattle.certificates.specs.Certificates.{JudgesIn, IsOwedOver}
use Rattle.certificates.specs.Obligation.{obligation}
use Rattle.certificates.specs.Texts.{SaysCubes}
use Rattle.certificates.proofs.SaidLemmas.{one_list}
use Rattle.certificates.proofs.laws.one_judgement_of_a_certificate.Goals as goal

-- over one circuit the text of an invariant owes one formula
same_formula : (d e : Circuit) (invariant : List ℕ) (f g : Formula) → d ≡ e → IsOwedOver d (Some invariant) f → IsOwedOver e (Some invariant) g → f ≡ g
same_formula d e invariant f g same a b =
    let first : SaysCubes (length e.latches) invariant a.cubes = subst (λ (x : Circuit). SaysCubes (length x.latches) invariant a.cubes) same a.are_cubes.says in
    let cubes : a.cubes ≡ b.cubes = one_list (length e.latches) invariant a.cubes b.cubes first b.are_cubes.says in
    a.is_obligation ∙ (ap (λ (x : Circuit). obligation x a.cubes) same ∙ (ap (obligation e) cubes ∙ sym b.is_obligation))

pub returns : goal.returns
returns c circuit k form invariant proof i j a b same =
    let formula : a.formula ≡ b.formula = same_formula a.is_owed.form b.is_owed.form invariant a.formula b.formula same a.is_owed.owed b.is_owed.owed in
    let text : a.judged.text ≡ b.judged.text = sym a.judged.is_text ∙ b.judged.is_text in
    c.one_judgement.ensures form b.formula b.judged.text i j
    (subst (λ (t : List ℕ). JudgesIn form b.formula t i) text (subst (λ (f : Formula). JudgesIn form f a.judged.text i) formula a.judged.judged))
    b.judged.judged
