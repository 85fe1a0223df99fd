-- How often a number stands in a list.
use Rattle.std.proofs.Common.{◌≡◌, ℕ, zero, suc, ◌+◌, ◌<◌, ◌≤◌, inl, inr, Bool, cond, nat_eq, List, [], ◌∷◌, ◌++◌, Some, length, slice_get, refl, sym, ap, ◌∙◌, arith}
use Rattle.std.specs.Prelude.{Contains}
use Rattle.std.specs.List.{AllByRecursion, count_by}
use Rattle.std.proofs.lemmas.Bool.{eq-eqb, ne_eqb, cases_eq}
use Rattle.std.proofs.lemmas.List.Sums.{sum_by-cons, sum_by-append}
use Rattle.std.proofs.lemmas.Option.{slice_get_within, get_or_from_slice_get}

-- one where two numbers are the same
abbrev pub one_if : ℕ → ℕ → ℕ
one_if x k = cond (nat_eq x k) 1 0

pub one_if_same : (x k : ℕ) → x ≡ k → one_if x k ≡ 1
one_if_same x k e = ap (λ (b : Bool). cond b 1 0) (eq-eqb x k e)

pub one_if_other : (x k : ℕ) → (x ≡ k → ⊥) → one_if x k ≡ 0
one_if_other x k e = ap (λ (b : Bool). cond b 1 0) (ne_eqb x k e)

-- how often a number stands in a list
abbrev pub times : ℕ → List ℕ → ℕ
times k list = count_by (λ x. nat_eq x k) list

pub times-cons : (k x : ℕ) (xs : List ℕ) → times k (x ∷ xs) ≡ one_if x k + times k xs
times-cons k x xs = sum_by-cons (λ y. one_if y k) x xs

pub times-append : (k : ℕ) (xs ys : List ℕ) → times k (xs ++ ys) ≡ times k xs + times k ys
times-append k xs ys = sum_by-append (λ y. one_if y k) xs ys

pub times-push : (k : ℕ) (xs : List ℕ) (x : ℕ) → times k (xs ++ x ∷ []) ≡ times k xs + one_if x k
times-push k xs x = omega (arith, times-append k xs (x ∷ []), times-cons k x [])

-- a number at a place is counted
pub counted : (k : ℕ) (xs : List ℕ) (i : ℕ) → slice_get xs i ≡ Some k → 1 ≤ times k xs
counted k [] i e = absurd (cc)
counted k (x ∷ xs) zero e =
    let same : x ≡ k = cc in
    omega (arith, times-cons k x xs, one_if_same x k same)
counted k (x ∷ xs) (suc i) e = omega (arith, times-cons k x xs, counted k xs i e)

-- one that is counted stands at a place
pub place : (k : ℕ) (xs : List ℕ) → 1 ≤ times k xs → (i : ℕ) × (slice_get xs i ≡ Some k)
place k [] h = absurd (omega arith)
place k (x ∷ xs) h = elim (cases_eq x k) [
  | inl e ↦ (zero, ap (λ y. Some y) e)
  | inr e ↦
      let rest = place k xs (omega (arith, times-cons k x xs, one_if_other x k e)) in
      (suc rest.0, rest.1)
]

pub contained_at : (xs : List ℕ) (i k : ℕ) → slice_get xs i ≡ Some k → Contains xs k
contained_at xs i k e = (i, slice_get_within xs i k e, get_or_from_slice_get xs i k k e)

pub contained : (k : ℕ) (xs : List ℕ) → 1 ≤ times k xs → Contains xs k
contained k xs h = let at = place k xs h in contained_at xs at.0 k at.1

-- one that is counted once stands at one place
pub same_place : (k : ℕ) (xs : List ℕ) (i j : ℕ) → times k xs ≤ 1 → slice_get xs i ≡ Some k → slice_get xs j ≡ Some k → i ≡ j
same_place k [] i j h e f = absurd (cc)
same_place k (x ∷ xs) zero zero h e f = refl
same_place k (x ∷ xs) zero (suc j) h e f =
    let same : x ≡ k = cc in
    absurd (omega (arith, times-cons k x xs, one_if_same x k same, counted k xs j f))
same_place k (x ∷ xs) (suc i) zero h e f =
    let same : x ≡ k = cc in
    absurd (omega (arith, times-cons k x xs, one_if_same x k same, counted k xs i e))
same_place k (x ∷ xs) (suc i) (suc j) h e f = ap suc (same_place k xs i j (omega (arith, times-cons k x xs)) e f)

-- how many of a list are below a number
times_below : ℕ → List ℕ → ℕ
times_below zero xs = 0
times_below (suc n) xs = times_below n xs + times n xs

none_below : (n : ℕ) → times_below n [] ≡ 0
unfolding times_below
none_below zero = refl
none_below (suc n) = omega (arith, none_below n)

past : (n x : ℕ) (xs : List ℕ) → n ≤ x → times_below n (x ∷ xs) ≡ times_below n xs
unfolding times_below
past zero x xs h = refl
past (suc n) x xs h = omega (arith, past n x xs (omega arith), times-cons n x xs, one_if_other x n (λ e. omega arith))

one_below : (n x : ℕ) (xs : List ℕ) → x < n → times_below n (x ∷ xs) ≡ times_below n xs + 1
unfolding times_below
one_below zero x xs h = absurd (omega arith)
one_below (suc n) x xs h = elim (cases_eq x n) [
  | inl e ↦ omega (arith, past n x xs (omega arith), times-cons n x xs, one_if_same x n e)
  | inr e ↦ omega (arith, one_below n x xs (omega arith), times-cons n x xs, one_if_other x n e)
]

all_below : (n : ℕ) (xs : List ℕ) → AllByRecursion (λ k. k < n) xs → times_below n xs ≡ length xs
all_below n [] h = none_below n
all_below n (x ∷ xs) h = omega (arith, one_below n x xs h.0, all_below n xs h.1)

each_once : (n : ℕ) (xs : List ℕ) → ((k : ℕ) → k < n → times k xs ≡ 1) → times_below n xs ≡ n
unfolding times_below
each_once zero xs h = refl
each_once (suc n) xs h = omega (arith, each_once n xs (λ k l. h k (omega arith)), h n (omega arith))

-- a list that has each number below another once, and no others, is as long as that number says
pub as_long : (n : ℕ) (xs : List ℕ) → AllByRecursion (λ k. k < n) xs → ((k : ℕ) → k < n → times k xs ≡ 1) → length xs ≡ n
as_long n xs low once = sym (all_below n xs low) ∙ each_once n xs once
