use Rattle.std.proofs.Common.{◌≡◌, ℕ, suc, List, [], ◌∷◌, ◌++◌, length, codes, refl, ap, subst, arith}
use Rattle.base.specs.Lines.{text_of_lines, all_lines}
use Rattle.base.specs.Decimals.{number_of, capped_value, is_decimal}
use Rattle.drup.specs.declared.why.Why.TheVariants as why
use Rattle.meaning.specs.Proofs.{BeginsProof}
use Rattle.meaning.proofs.ProofLineLemmas.{no_fault}
use Rattle.meaning.proofs.first_faults.worked_proof_lines.Goals as goal

pub returns-clause-literals : goal.returns-clause-literals
unfolding number_of capped_value is_decimal
returns-clause-literals c = record { more = codes "0\n"; whole = refl }

pub returns-clause-plus : goal.returns-clause-plus
unfolding number_of capped_value is_decimal
returns-clause-plus c b = no_fault (record { line = 1; why = why.BadWord }) b.whole

pub returns-clause-line : goal.returns-clause-line
unfolding number_of capped_value is_decimal
returns-clause-line c = c.first_fault_of_text_proof.ensures.line 3 (codes "1 0\n1 +2 0\n2 0\n") (record { line = 2; why = why.BadWord }) refl (λ e. cc)

pub returns-clause-line_before : goal.returns-clause-line_before
unfolding number_of capped_value is_decimal
returns-clause-line_before c f = f.none (subst (λ (l : List (List ℕ)). BeginsProof 3 (text_of_lines l)) (front f.before f.line f.behind f.is f.lines) (record { more = []; whole = refl }))
  where
    front : (before : List (List ℕ)) (line : List ℕ) (behind : List (List ℕ)) → suc (length before) ≡ 1 → all_lines (codes "1 0\n1 +2 0\n2 0\n") ≡ before ++ line ∷ behind → codes "1 0" ∷ [] ≡ before ++ line ∷ []
    front [] line behind long is = first (codes "1 0") line (codes "1 +2 0" ∷ codes "2 0" ∷ []) behind is
      where
        first : (x y : List ℕ) (xs ys : List (List ℕ)) → x ∷ xs ≡ y ∷ ys → x ∷ [] ≡ y ∷ []
        first x y xs ys e = let same : x ≡ y = cc in ap (λ (l : List ℕ). l ∷ []) same
    front (l ∷ ls) line behind long is = absurd (omega (arith, long))

pub returns-clause-within : goal.returns-clause-within
unfolding number_of capped_value is_decimal
returns-clause-within c = c.first_fault_of_text_proof.ensures.cut_off 3 (codes "1 0\nd\n") (record { line = 3; why = why.CutOff }) refl refl

pub returns-clause-not_within : goal.returns-clause-not_within
returns-clause-not_within c f = let number : 3 ≡ 2 = f.is in omega (arith, number)
