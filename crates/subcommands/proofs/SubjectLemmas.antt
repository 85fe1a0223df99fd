-- What is said of what a judgement is about.
use Rattle.std.proofs.Common.{◌≡◌, ℕ, zero, suc, List, [], ◌∷◌, ◌++◌, ◌+◌, ◌<◌, drop, Option, Some, None, Result, Ok, Err, OnOk, length, append_assoc, option_and_then, slice_get, refl, sym, ap, subst, ◌∙◌, arith}
use Rattle.std.specs.Io.KnownBytes.{Appends}
use Rattle.subcommands.specs.Subjects.{first_said, firsts_said}

-- ---- first rises

-- some of what there is to say was told, and the rest is left
pub record Told (old new : Option (List ℕ)) (all rest : List ℕ) : Type 0 where
  pub front : List ℕ
  pub told : Appends old new front
  pub is : front ++ rest ≡ all

pub appends_more : (old mid new : Option (List ℕ)) (a b : List ℕ) → Appends old mid a → Appends mid new b → Appends old new (a ++ b)
appends_more None mid new a b first second = tt
appends_more (Some xs) None new a b first second = absurd first
appends_more (Some xs) (Some ys) None a b first second = absurd second
appends_more (Some xs) (Some ys) (Some zs) a b first second = second ∙ ap (λ (l : List ℕ). l ++ b) first ∙ append_assoc xs a b

-- what was told, and more where that succeeded
pub then_told : {T E : Type 0} (r : Result T E) (old mid new : Option (List ℕ)) (a b : List ℕ) → Appends old mid a → OnOk r (Appends mid new b) → OnOk r (Appends old new (a ++ b))
then_told (Ok x) old mid new a b first second = appends_more old mid new a b first second
then_told (Err e) old mid new a b first second = second

pub same_told : {T E : Type 0} (r : Result T E) (old new : Option (List ℕ)) (a b : List ℕ) → a ≡ b → OnOk r (Appends old new a) → OnOk r (Appends old new b)
same_told r old new a b is told = subst (λ (l : List ℕ). OnOk r (Appends old new l)) is told

-- a kind and a number, and what they are
pub says_of : (kind number is what : List ℕ) → (kind ++ (number ++ is)) ++ what ≡ kind ++ (number ++ (is ++ what))
says_of kind number is what = append_assoc kind (number ++ is) what ∙ ap (λ (l : List ℕ). kind ++ l) (append_assoc number is what)

pub more_told : (old mid new : Option (List ℕ)) (all part rest rest' : List ℕ) → Told old mid all rest → Appends mid new part → rest ≡ part ++ rest' → Told old new all rest'
more_told old mid new all part rest rest' so_far now is = record {
  front = so_far.front ++ part;
  told = appends_more old mid new so_far.front part so_far.told now;
  is = append_assoc so_far.front part rest' ∙ ap (λ (l : List ℕ). so_far.front ++ l) (sym is) ∙ so_far.is;
}

-- what is said of the first rises from one on, and of those behind it
firsts_step : (bad : ℕ → List ℕ) (k n : ℕ) (firsts : List (Option ℕ)) → k < length firsts
    → firsts_said bad n (drop k firsts) ≡ first_said bad n (option_and_then (λ first. first) (slice_get firsts k)) ++ firsts_said bad (suc n) (drop (suc k) firsts)
firsts_step bad k n [] there = absurd (omega (arith, there))
firsts_step bad zero n (x ∷ xs) there = refl
firsts_step bad (suc k) n (x ∷ xs) there = firsts_step bad k n xs (omega (arith, there))

pub firsts_next : (bad : ℕ → List ℕ) (k : ℕ) (firsts : List (Option ℕ)) → k < length firsts
    → firsts_said bad k (drop k firsts) ≡ first_said bad k (option_and_then (λ first. first) (slice_get firsts k)) ++ firsts_said bad (k + 1) (drop (k + 1) firsts)
firsts_next bad k firsts there =
    let next : suc k ≡ k + 1 = omega arith in
    subst (λ (n : ℕ). firsts_said bad k (drop k firsts) ≡ first_said bad k (option_and_then (λ first. first) (slice_get firsts k)) ++ firsts_said bad n (drop n firsts)) next (firsts_step bad k k firsts there)

pub firsts_end : (bad : ℕ → List ℕ) (k n : ℕ) (firsts : List (Option ℕ)) → length firsts < suc k → firsts_said bad n (drop k firsts) ≡ []
firsts_end bad zero n [] few = refl
firsts_end bad (suc k) n [] few = refl
firsts_end bad zero n (x ∷ xs) few = absurd (omega (arith, few))
firsts_end bad (suc k) n (x ∷ xs) few = firsts_end bad k n xs (omega (arith, few))
