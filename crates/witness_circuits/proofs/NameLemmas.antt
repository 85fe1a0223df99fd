-- What the names of positions say, one by one.
use Rattle.std.proofs.Common.{◌≡◌, ℕ, zero, suc, ◌+◌, ◌<◌, Bool, true, false, ◌&&◌, ◌||◌, [], ◌∷◌, map, ap, ap₂, ◌∙◌, arith}
use Rattle.std.specs.List.{list_all, list_any, range_with_len}
use Rattle.std.proofs.Math.Bool.{and-false, or-true}
use Rattle.std.proofs.lemmas.Bool.{and_parts}
use Rattle.std.proofs.lemmas.List.FromFn.{map-range_with_len_more}
use Rattle.std.proofs.lemmas.List.Folds.{list_all-append, list_any-append}

module _ {X : Type 0} (p : X → Bool) (f : ℕ → X) where
  -- one position more
  pub all_more : (n : ℕ) → list_all p (map f (range_with_len 0 n)) ≡ true → p (f n) ≡ true → list_all p (map f (range_with_len 0 (n + 1))) ≡ true
  all_more n before here =
      ap (list_all p) (map-range_with_len_more f 0 n n (omega arith))
      ∙ (list_all-append p (map f (range_with_len 0 n)) (f n ∷ []) ∙ ap₂ (λ (a b : Bool). a && (b && true)) before here)

  pub none_more : (n : ℕ) → list_any p (map f (range_with_len 0 n)) ≡ false → p (f n) ≡ false → list_any p (map f (range_with_len 0 (n + 1))) ≡ false
  none_more n before here =
      ap (list_any p) (map-range_with_len_more f 0 n n (omega arith))
      ∙ (list_any-append p (map f (range_with_len 0 n)) (f n ∷ []) ∙ ap₂ (λ (a b : Bool). a || (b || false)) before here)

  fails_from : (a n i k : ℕ) → i < n → a + i ≡ k → p (f k) ≡ false → list_all p (map f (range_with_len a n)) ≡ false
  fails_from a zero i k h at e = absurd (omega arith)
  fails_from a (suc n) zero k h at e = ap (λ (b : Bool). b && list_all p (map f (range_with_len (a + 1) n))) (ap (λ (j : ℕ). p (f j)) (omega arith) ∙ e)
  fails_from a (suc n) (suc i) k h at e = ap (λ (b : Bool). p (f a) && b) (fails_from (a + 1) n i k (omega arith) (omega arith) e) ∙ and-false (p (f a))

  -- one of them fails
  pub one_fails : (n i : ℕ) → i < n → p (f i) ≡ false → list_all p (map f (range_with_len 0 n)) ≡ false
  one_fails n i h e = fails_from 0 n i i h (omega arith) e

  found_from : (a n i k : ℕ) → i < n → a + i ≡ k → p (f k) ≡ true → list_any p (map f (range_with_len a n)) ≡ true
  found_from a zero i k h at e = absurd (omega arith)
  found_from a (suc n) zero k h at e = ap (λ (b : Bool). b || list_any p (map f (range_with_len (a + 1) n))) (ap (λ (j : ℕ). p (f j)) (omega arith) ∙ e)
  found_from a (suc n) (suc i) k h at e = ap (λ (b : Bool). p (f a) || b) (found_from (a + 1) n i k (omega arith) (omega arith) e) ∙ or-true (p (f a))

  -- one of them is found
  pub one_found : (n i : ℕ) → i < n → p (f i) ≡ true → list_any p (map f (range_with_len 0 n)) ≡ true
  one_found n i h e = found_from 0 n i i h (omega arith) e

  all_from : (a n i k : ℕ) → i < n → a + i ≡ k → list_all p (map f (range_with_len a n)) ≡ true → p (f k) ≡ true
  all_from a zero i k h at all = absurd (omega arith)
  all_from a (suc n) zero k h at all = ap (λ (j : ℕ). p (f j)) (omega arith) ∙ (and_parts (p (f a)) (list_all p (map f (range_with_len (a + 1) n))) all).0
  all_from a (suc n) (suc i) k h at all = all_from (a + 1) n i k (omega arith) (omega arith) (and_parts (p (f a)) (list_all p (map f (range_with_len (a + 1) n))) all).1

  -- each of them passes
  pub one_of_all : (n i : ℕ) → i < n → list_all p (map f (range_with_len 0 n)) ≡ true → p (f i) ≡ true
  one_of_all n i h all = all_from 0 n i i h (omega arith) all
