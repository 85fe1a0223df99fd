-- What is judged of a text of either kind, by its claim and by what it reads as, and the first breach in its frames.
use Rattle.std.proofs.Common.{◌≡◌, ℕ, suc, ◌+◌, Bool, true, false, List, [], ◌∷◌, ◌++◌, Option, Some, None, Result, Ok, Err, length, refl, sym, ap, subst, ◌∙◌, arith}
use Rattle.std.specs.Option.{option_or}
use Rattle.witness.specs.declared.judgement.Judgement.{Judgement}
use Rattle.witness.specs.declared.judgement.Judgement.TheVariants as judgement
use Rattle.witness.specs.Readings.{Fault}
use Rattle.witness.specs.Fits.{breach_from}
use Rattle.witness.specs.Judgements.{Violation, violated_at, first_of, JudgesAs}

module _ {R : Type 0} (Says : R → Judgement → Type 0) (none : Bool) (read : Result R Fault) where
  pub some_judged : ((r : R) → read ≡ Ok r → (j : Judgement) × Says r j) → (j : Judgement) × JudgesAs Says none read j
  some_judged judged =
      elim none as (λ b. (j : Judgement) × JudgesAs Says b read j) [ true ↦ (judgement.NoClaim, refl) | false ↦ by read refl ]
    where
      by : (o : Result R Fault) → read ≡ o → (j : Judgement) × JudgesAs Says false o j
      by (Err e) is = (judgement.Malformed e.line e.why, refl)
      by (Ok r) is = judged r is

  pub judged_once : (j k : Judgement) → ((r : R) → read ≡ Ok r → Says r j → Says r k → j ≡ k) → JudgesAs Says none read j → JudgesAs Says none read k → j ≡ k
  judged_once j k once =
      elim none as (λ b. JudgesAs Says b read j → JudgesAs Says b read k → j ≡ k) [ true ↦ λ first second. first ∙ sym second | false ↦ by read refl ]
    where
      by : (o : Result R Fault) → read ≡ o → JudgesAs Says false o j → JudgesAs Says false o k → j ≡ k
      by (Err e) is first second = first ∙ sym second
      by (Ok r) is first second = once r is first second

  pub read_judged : (o : Result R Fault) (j : Judgement) → none ≡ false → read ≡ o → JudgesAs Says false o j → JudgesAs Says none read j
  read_judged o j e is h = subst (λ (b : Bool). JudgesAs Says b read j) (sym e) (subst (λ (r : Result R Fault). JudgesAs Says false r j) (sym is) h)

  -- and back
  pub judged_says : (r : R) (j : Judgement) → none ≡ false → read ≡ Ok r → JudgesAs Says none read j → Says r j
  judged_says r j e is h = subst (λ (o : Result R Fault). JudgesAs Says false o j) is (subst (λ (b : Bool). JudgesAs Says b read j) e h)

-- ---- what is accepted

-- it makes a claim, reads as something, and that is judged so
pub record ReadAccepted {R : Type 0} (Says : R → Judgement → Type 0) (none : Bool) (read : Result R Fault) (frames : ℕ) : Type 0 where
  pub claims : none ≡ false
  pub what : R
  pub is : read ≡ Ok what
  pub judged : Says what (judgement.Accepted frames)

pub accepted_reads : {R : Type 0} (Says : R → Judgement → Type 0) (none : Bool) (read : Result R Fault) (frames : ℕ) → JudgesAs Says none read (judgement.Accepted frames) → ReadAccepted Says none read frames
accepted_reads Says true read frames h = absurd (cc)
accepted_reads Says false (Err e) frames h = absurd (cc)
accepted_reads Says false (Ok r) frames h = record { claims = refl; what = r; is = refl; judged = h }

-- no initial value differs, there is no breach, each claim is reached, and so many frames are there as are told
pub record NoFault (different : Option ℕ) (broken : Option Violation) (unreached : Option ℕ) (told frames : ℕ) : Type 0 where
  pub initial : different ≡ None
  pub breach : broken ≡ None
  pub reached : unreached ≡ None
  pub many : told ≡ frames

pub no_fault : (different : Option ℕ) (broken : Option Violation) (unreached : Option ℕ) (n m : ℕ) → judgement.Accepted n ≡ first_of different broken unreached m → NoFault different broken unreached n m
no_fault (Some k) broken unreached n m e = absurd (cc)
no_fault None (Some v) unreached n m e = absurd (cc)
no_fault None None (Some i) n m e = absurd (cc)
no_fault None None None n m e = record { initial = refl; breach = refl; reached = refl; many = cc }

-- ---- the first breach

module _ {F : Type 0} (violated : F → Option ℕ) where
  pub breach_more : (k : ℕ) (fs : List F) (f : F) → breach_from violated k (fs ++ f ∷ []) ≡ option_or (breach_from violated k fs) (violated_at (k + length fs) (violated f) None)
  breach_more k [] f = ap (λ (n : ℕ). violated_at n (violated f) None) (omega arith)
  breach_more k (g ∷ fs) f =
      let rest = breach_more (suc k) fs f in
      elim (violated g) as (λ o. violated_at k o (breach_from violated (suc k) (fs ++ f ∷ [])) ≡ option_or (violated_at k o (breach_from violated (suc k) fs)) (violated_at (k + suc (length fs)) (violated f) None)) [
        | Some i ↦ refl
        | None ↦ rest ∙ ap (λ (n : ℕ). option_or (breach_from violated (suc k) fs) (violated_at n (violated f) None)) (omega arith)
      ]
