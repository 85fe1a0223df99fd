-- Judgements of proofs: that they are right, and that there is one of a text at most.
use Rattle.std.proofs.Common.{◌≡◌, ℕ, zero, suc, ◌<◌, ◌≤◌, List, [], ◌∷◌, ◌++◌, inl, inr, length, get_or, ⊎_elim, refl, sym, ap, subst, ◌∙◌, arith}
use Rattle.std.specs.Prelude.{Option, Some, None}
use Rattle.std.proofs.lemmas.Bool.{cases_lt}
use Rattle.std.specs.List.{remove}
use Rattle.drup.specs.declared.judgement.Judgement.{Judgement}
use Rattle.drup.specs.declared.judgement.Judgement.TheVariants as judgement
use Rattle.base.specs.Literal.{Valuation, literal_value}
use Rattle.drup.specs.Formula.{Formula, SatisfiesClause, SatisfiesClauses, IsUnsatisfiable}
use Rattle.drup.specs.Propagation.{Literals, no_literal, Holds, IsClosure, MeetsConflict, Implied, IsModel}
use Rattle.drup.specs.Proofs.{addition, deletion, Ended, ended, ProofFault, ProofReading}
use Rattle.drup.specs.ProofForms.{read_proof}
use Rattle.drup.specs.Without.{IsLastAlike, IsWithout}
use Rattle.drup.specs.Judgements.{at_end, JudgesSteps, JudgesProof}
use Rattle.drup.specs.Without.IsWithout.{last, none}
use Rattle.drup.proofs.SoundLemmas.{true_closed_all, satisfies_more, is_satisfied, is_unsatisfied}

-- ---- a clause taken away

remove_at : (xs : List (List ℕ)) (k i : ℕ) → k < length xs → i < length (remove xs k) → (j : ℕ) × (j < length xs) × (get_or (remove xs k) i [] ≡ get_or xs j [])
remove_at [] k i h below = absurd (omega (arith, h))
remove_at (x ∷ xs) zero i h below = (suc i, omega (arith, below), refl)
remove_at (x ∷ xs) (suc k) zero h below = (0, omega arith, refl)
remove_at (x ∷ xs) (suc k) (suc i) h below = let own = remove_at xs k i (omega (arith, h)) (omega (arith, below)) in (suc own.0, omega (arith, own.1), own.2)

satisfies_without : (a : Valuation) (clauses : List (List ℕ)) (clause : List ℕ) (left : List (List ℕ)) → IsWithout clauses clause left → SatisfiesClauses a clauses → SatisfiesClauses a left
satisfies_without a clauses clause left (last k own e) sat =
    subst (λ (cs : List (List ℕ)). SatisfiesClauses a cs) (sym e)
    (λ i below. let at = remove_at clauses k i own.inside below in subst (SatisfiesClause a) (sym at.2) (sat at.0 at.1))
satisfies_without a clauses clause left (none not_there e) sat = subst (λ (cs : List (List ℕ)). SatisfiesClauses a cs) (sym e) sat

model_without : (a : Valuation) (clauses : List (List ℕ)) (clause : List ℕ) (left : List (List ℕ)) (s : Literals) → IsWithout clauses clause left → IsModel a clauses s → IsModel a left s
model_without a clauses clause left s w m = record { satisfies = satisfies_without a clauses clause left w m.satisfies; holds = m.holds }

not_before : (clauses : List (List ℕ)) (clause : List ℕ) (k l : ℕ) → IsLastAlike clauses clause k → IsLastAlike clauses clause l → k ≤ l
not_before clauses clause k l a b = ⊎_elim (λ (less : l < k). absurd (b.later k (omega arith) a.inside a.alike)) (λ (le : k ≤ l). le) (cases_lt l k)

one_without : (clauses : List (List ℕ)) (clause : List ℕ) (left right : List (List ℕ)) → IsWithout clauses clause left → IsWithout clauses clause right → left ≡ right
one_without clauses clause left right (last k a e) (last l b e') =
    let same : k ≡ l = omega (arith, not_before clauses clause k l a b, not_before clauses clause l k b a) in
    e ∙ ap (remove clauses) same ∙ sym e'
one_without clauses clause left right (last k a e) (none not_there e') = absurd (not_there k (omega arith) a.inside a.alike)
one_without clauses clause left right (none not_there e) (last l b e') = absurd (not_there l (omega arith) b.inside b.alike)
one_without clauses clause left right (none not_there e) (none not_there' e') = e ∙ sym e'

-- ---- sets that agree

holds_more : (clauses : List (List ℕ)) (s t : Literals) (clause : List ℕ) → Holds s t → Implied clauses s clause → Implied clauses t clause
holds_more clauses s t clause st implied u closed holds all = implied u closed (λ l on. holds l (st l on)) all

meets_more : (clauses : List (List ℕ)) (s t : Literals) → Holds s t → MeetsConflict clauses s → MeetsConflict clauses t
meets_more clauses s t st met u closed holds = met u closed (λ l on. holds l (st l on))

closures_hold : (clauses : List (List ℕ)) (s t u v : Literals) → Holds s t → IsClosure clauses s u → IsClosure clauses t v → Holds u v
closures_hold clauses s t u v st c d = c.least v d.closed (λ l on. d.holds l (st l on))

-- ---- one judgement

same_judgement : (fault : Option ProofFault) (steps : List Ended) (clauses : List (List ℕ)) (s t : Literals) (i j : Judgement) → Holds s t → Holds t s → JudgesSteps fault steps clauses s i → JudgesSteps fault steps clauses t j → i ≡ j
same_judgement fault [] clauses s t i j st ts a b = a ∙ sym b
same_judgement fault (ended n (addition clause) ∷ steps) clauses s t i j st ts (inl a) (inl b) = a.1 ∙ sym b.1
same_judgement fault (ended n (addition clause) ∷ steps) clauses s t i j st ts (inl a) (inr b) = absurd (a.0 (holds_more clauses t s clause ts b.0))
same_judgement fault (ended n (addition clause) ∷ steps) clauses s t i j st ts (inr a) (inl b) = absurd (b.0 (holds_more clauses s t clause st a.0))
same_judgement fault (ended n (addition clause) ∷ steps) clauses s t i j st ts (inr a) (inr b) =
    ⊎_elim
    (λ (met : MeetsConflict (clauses ++ clause ∷ []) s × (i ≡ judgement.Derived n)).
    ⊎_elim
    (λ (met' : MeetsConflict (clauses ++ clause ∷ []) t × (j ≡ judgement.Derived n)). met.1 ∙ sym met'.1)
    (λ (on : (MeetsConflict (clauses ++ clause ∷ []) t → ⊥) × ((v : Literals) × (IsClosure (clauses ++ clause ∷ []) t v × JudgesSteps fault steps (clauses ++ clause ∷ []) v j))).
    absurd (on.0 (meets_more (clauses ++ clause ∷ []) s t st met.0)))
    b.1)
    (λ (on : (MeetsConflict (clauses ++ clause ∷ []) s → ⊥) × ((u : Literals) × (IsClosure (clauses ++ clause ∷ []) s u × JudgesSteps fault steps (clauses ++ clause ∷ []) u i))).
    ⊎_elim
    (λ (met' : MeetsConflict (clauses ++ clause ∷ []) t × (j ≡ judgement.Derived n)). absurd (on.0 (meets_more (clauses ++ clause ∷ []) t s ts met'.0)))
    (λ (on' : (MeetsConflict (clauses ++ clause ∷ []) t → ⊥) × ((v : Literals) × (IsClosure (clauses ++ clause ∷ []) t v × JudgesSteps fault steps (clauses ++ clause ∷ []) v j))).
    same_judgement fault steps (clauses ++ clause ∷ []) on.1.0 on'.1.0 i j
    (closures_hold (clauses ++ clause ∷ []) s t on.1.0 on'.1.0 st on.1.1.0 on'.1.1.0)
    (closures_hold (clauses ++ clause ∷ []) t s on'.1.0 on.1.0 ts on'.1.1.0 on.1.1.0)
    on.1.1.1 on'.1.1.1)
    b.1)
    a.1
same_judgement fault (ended n (deletion clause) ∷ steps) clauses s t i j st ts a b =
    let same : a.0 ≡ b.0 = one_without clauses clause a.0 b.0 a.1.0 b.1.0 in
    same_judgement fault steps b.0 s t i j st ts (subst (λ (cs : List (List ℕ)). JudgesSteps fault steps cs s i) same a.1.1) b.1.1

pub one_judgement : (f : Formula) (text : List ℕ) (i j : Judgement) → JudgesProof f text i → JudgesProof f text j → i ≡ j
one_judgement f text i j (inl a) (inl b) = a.1 ∙ sym b.1
one_judgement f text i j (inl a) (inr b) = absurd (b.0 a.0)
one_judgement f text i j (inr a) (inl b) = absurd (a.0 b.0)
one_judgement f text i j (inr a) (inr b) =
    let reading : ProofReading = read_proof f.variables text in
    same_judgement reading.fault reading.steps f.clauses a.1.0 b.1.0 i j
    (closures_hold f.clauses no_literal no_literal a.1.0 b.1.0 (λ l on. on) a.1.1.0 b.1.1.0)
    (closures_hold f.clauses no_literal no_literal b.1.0 a.1.0 (λ l on. on) b.1.1.0 a.1.1.0)
    a.1.1.1 b.1.1.1

-- ---- what is derived

no_end : (fault : Option ProofFault) (n : ℕ) → judgement.Derived n ≡ at_end fault → ⊥
no_end None n e = cc
no_end (Some f) n e = cc

steps_sound : (fault : Option ProofFault) (steps : List Ended) (clauses : List (List ℕ)) (s : Literals) (n : ℕ) → JudgesSteps fault steps clauses s (judgement.Derived n) → (a : Valuation) → IsModel a clauses s → ⊥
steps_sound fault [] clauses s n j a m = no_end fault n j
steps_sound fault (ended k (addition clause) ∷ steps) clauses s n (inl j) a m = let no = j.1 in cc
steps_sound fault (ended k (addition clause) ∷ steps) clauses s n (inr j) a m =
    let sat = satisfies_more a clauses clause m.satisfies (is_satisfied clauses s clause j.0 a m) in
    ⊎_elim
    (λ (met : MeetsConflict (clauses ++ clause ∷ []) s × (judgement.Derived n ≡ judgement.Derived k)). is_unsatisfied (clauses ++ clause ∷ []) s met.0 a (record { satisfies = sat; holds = m.holds }))
    (λ (on : (MeetsConflict (clauses ++ clause ∷ []) s → ⊥) × ((u : Literals) × (IsClosure (clauses ++ clause ∷ []) s u × JudgesSteps fault steps (clauses ++ clause ∷ []) u (judgement.Derived n)))).
    steps_sound fault steps (clauses ++ clause ∷ []) on.1.0 n on.1.1.1 a (record { satisfies = sat; holds = on.1.1.0.least (literal_value a) (true_closed_all a (clauses ++ clause ∷ []) sat) m.holds }))
    j.1
steps_sound fault (ended k (deletion clause) ∷ steps) clauses s n j a m = steps_sound fault steps j.0 s n j.1.1 a (model_without a clauses clause j.0 s j.1.0 m)

nothing_holds : (s : Literals) → Holds no_literal s
nothing_holds s l on = absurd (cc)

pub derived_sound : (f : Formula) (text : List ℕ) (n : ℕ) → JudgesProof f text (judgement.Derived n) → IsUnsatisfiable f
derived_sound f text n (inl j) a sat = is_unsatisfied f.clauses no_literal j.0 a (record { satisfies = sat; holds = nothing_holds (literal_value a) })
derived_sound f text n (inr j) a sat =
    let reading : ProofReading = read_proof f.variables text in
    steps_sound reading.fault reading.steps f.clauses j.1.0 n j.1.1.1 a
    (record { satisfies = sat; holds = j.1.1.0.least (literal_value a) (true_closed_all a f.clauses sat) (nothing_holds (literal_value a)) })
