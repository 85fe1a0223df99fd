-- The first byte that passes a test cuts a list of bytes.
use Rattle.std.proofs.Common.{◌≡◌, ℕ, zero, suc, ◌+◌, ◌<◌, ◌≤◌, Bool, true, false, List, [], ◌∷◌, ◌++◌, Some, None, length, get_or, take, drop, refl, sym, ap, ◌∙◌, arith}
use Rattle.std.specs.List.{list_any}
use Rattle.std.proofs.lemmas.Bool.{false_from_ne_true, or_from}
use Rattle.std.proofs.lemmas.List.{take-append-drop, drop_more, drop-drop}
use Rattle.bstr.specs.Find.{IsFirstByte}

-- no byte of a list passes a test that passes nowhere in it
pub none_passes : (test : ℕ → Bool) (bytes : List ℕ) → ((k : ℕ) → k < length bytes → test (get_or bytes k 0) ≡ true → ⊥) → list_any test bytes ≡ false
none_passes test [] h = refl
none_passes test (b ∷ bs) h =
    or_from _ _ (false_from_ne_true _ (λ e. h 0 (omega arith) e)) (none_passes test bs (λ k lt e. h (suc k) (omega arith) e))

none_before : (test : ℕ → Bool) (bytes : List ℕ) (n : ℕ) → n ≤ length bytes → ((k : ℕ) → k < n → test (get_or bytes k 0) ≡ true → ⊥) → list_any test (take n bytes) ≡ false
none_before test bytes zero le h = refl
none_before test [] (suc n) le h = refl
none_before test (b ∷ bs) (suc n) le h =
    or_from _ _ (false_from_ne_true _ (λ e. h 0 (omega arith) e)) (none_before test bs n (omega arith) (λ k lt e. h (suc k) (omega arith) e))

-- a list cut at its first byte that passes a test
pub record IsCut (test : ℕ → Bool) (bytes : List ℕ) (at : ℕ) : Type 0 where
  pub before : list_any test (take at bytes) ≡ false
  pub passes : test (get_or bytes at 0) ≡ true
  pub parts : bytes ≡ take at bytes ++ get_or bytes at 0 ∷ drop (at + 1) bytes
  pub inside : at < length bytes

pub cut_at_first : (test : ℕ → Bool) (bytes : List ℕ) (at : ℕ) → IsFirstByte test bytes (Some at) → IsCut test bytes at
cut_at_first test bytes at h = record {
  before = none_before test bytes at (omega (arith, h.0.high)) (λ k lt e. h.0.before k (omega arith) lt e);
  passes = h.1;
  parts = sym (take-append-drop at bytes) ∙ ap (λ (rest : List ℕ). take at bytes ++ rest) (drop_more bytes at 0 h.0.high);
  inside = h.0.high;
}

pub none_at_all : (test : ℕ → Bool) (bytes : List ℕ) → IsFirstByte test bytes None → list_any test bytes ≡ false
none_at_all test bytes h = none_passes test bytes (λ k lt e. h k (omega arith) lt e)

-- the same with the rest cut off in two steps
pub cut_behind : (test : ℕ → Bool) (bytes : List ℕ) (at : ℕ) → IsCut test bytes at → bytes ≡ take at bytes ++ get_or bytes at 0 ∷ drop 1 (drop at bytes)
cut_behind test bytes at cut = rw drop-drop cut.parts
