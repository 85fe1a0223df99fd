use Rattle.std.proofs.Common.{◌≡◌, ℕ, ◌≤◌, List, [], ◌∷◌, ◌++◌, length, get_or, All, refl, ap, arith}
use Rattle.std.proofs.lemmas.List.Elements.{All-nil, All-cons, recursion_from_All}
use Rattle.drup.specs.declared.why.Why.TheVariants as why
use Rattle.meaning.proofs.ProofLineLemmas.{no_fault}
use Rattle.meaning.proofs.first_faults.worked_proof_steps.Goals as goal

pub returns-clause-number : goal.returns-clause-number
returns-clause-number c = record { front = 130 ∷ []; last = 1; tops = All-cons (λ b. 128 ≤ b) 130 [] (omega arith) (All-nil (λ b. 128 ≤ b)); ends = omega arith; whole = refl }

-- the first of two bytes has not the top bit
no_number : (front : List ℕ) (last : ℕ) → All (λ b. 128 ≤ b) front → 1 ∷ 130 ∷ [] ≡ front ++ last ∷ [] → ⊥
no_number [] last tops is = let long : 2 ≡ 1 = ap (length {A = ℕ}) is in omega (arith, long)
no_number (b ∷ bs) last tops is =
    let same : 1 ≡ b = ap (λ (l : List ℕ). get_or l 0 0) is in
    let top : 128 ≤ b = (recursion_from_All (λ b. 128 ≤ b) (b ∷ bs) tops).0 in
    omega (arith, same, top)

pub returns-clause-no_number : goal.returns-clause-no_number
returns-clause-no_number c is = no_number is.front is.last is.tops is.whole

pub returns-clause-literal : goal.returns-clause-literal
returns-clause-literal c = record { more = 0 ∷ []; whole = refl }

pub returns-clause-letter : goal.returns-clause-letter
returns-clause-letter c b = no_fault (record { line = 1; why = why.BadWord }) b.whole

pub returns-clause-step : goal.returns-clause-step
returns-clause-step c = c.first_fault_of_binary_proof.ensures.step 3 (97 ∷ 2 ∷ 0 ∷ 97 ∷ 8 ∷ 0 ∷ []) (record { line = 2; why = why.BadVariable }) refl (λ e. cc)

pub returns-clause-step_before : goal.returns-clause-step_before
returns-clause-step_before c f = let number : 2 ≡ 1 = f.is in omega (arith, number)

pub returns-clause-within : goal.returns-clause-within
returns-clause-within c = c.first_fault_of_binary_proof.ensures.cut_off 3 (97 ∷ 2 ∷ 0 ∷ 97 ∷ 130 ∷ []) (record { line = 2; why = why.CutOff }) refl refl

pub returns-clause-not_within : goal.returns-clause-not_within
returns-clause-not_within c f = let number : 2 ≡ 1 = f.is in omega (arith, number)
