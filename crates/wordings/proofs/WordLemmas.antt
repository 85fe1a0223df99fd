-- What the calls of std on texts say of words.
use Rattle.std.proofs.Common.{◌≡◌, ◌≢◌, ℕ, zero, suc, ◌+◌, ◌-◌, ◌<◌, ◌==◌, true, false, nat_eq, List, [], ◌∷◌, length, drop, get_or, Option, Some, None, option_map, if◌then◌else◌, refl, sym, ap, subst, arith}
use Rattle.std.specs.Prelude.{MatchOption, slice_get}
use Rattle.std.specs.Borrow.{Bor}
use Rattle.std.specs.List.{list_any, starts_with}
use Rattle.std.specs.Str.{IsCharBoundary}
use Rattle.std.specs.Str.Pattern.{FindsTextPrefix, StripsPrefix}
use Rattle.std.proofs.lemmas.Str.Pattern.{starts_text}
use Rattle.std.proofs.lemmas.Bool.Decides.{nat_tests}
use Rattle.std.proofs.lemmas.Grind.{common_steps}
use native.Mathlib.Numerals.{unary_clauses}
use Rattle.wordings.specs.Parts.{a_flag, long_part}

-- the clause of `strip_prefix` at a text
pub stripped : (p s : List ℕ) (r : Option (Bor (List ℕ))) → MatchOption r (FindsTextPrefix p s None) (λ x. StripsPrefix (FindsTextPrefix p) s x.now)
    → option_map (λ rest. rest.now) r ≡ (if starts_with nat_eq s p then Some (drop (length p) s) else None)
stripped p s None h = rw (← starts_text false p s h) refl
stripped p s (Some x) h = let n : h.0 ≡ length p = h.1.0 in
    rw (← starts_text true p s (h.0, h.1, subst (IsCharBoundary s) (sym n) h.1.2), ← n) (ap (λ rest. Some rest) h.2)

-- no byte of the list is c
abbrev pub Lacks : ℕ → List ℕ → Type 0
Lacks c xs = (i : ℕ) → i < length xs → get_or xs i 0 ≢ c

head_differs : (c x : ℕ) (xs : List ℕ) → Lacks c (x ∷ xs) → (x == c) ≡ false
head_differs c x xs h = let ne : x ≢ c = h 0 (grind (arith, common_steps)) in grind (arith, nat_tests)

Lacks-tail : (c x : ℕ) (xs : List ℕ) → Lacks c (x ∷ xs) → Lacks c xs
Lacks-tail c x xs h i lt = let k = h (i + 1) (grind (arith, common_steps)) in grind (arith, common_steps)

list_any-Lacks : (c : ℕ) (xs : List ℕ) → Lacks c xs → list_any (λ x. x == c) xs ≡ false
list_any-Lacks c [] h = refl
list_any-Lacks c (x ∷ xs) h = rw (head_differs c x xs h) (list_any-Lacks c xs (Lacks-tail c x xs h))

-- a name without `=` is a flag's
pub long_part-without : (w : List ℕ) → Lacks 61 w → long_part w ≡ a_flag w
long_part-without w h = rw (list_any-Lacks 61 w h)

-- what stands at a place that is not the first
pub got_behind : (x : List ℕ) (xs : List (List ℕ)) (n : ℕ) → n ≢ 0 → slice_get (x ∷ xs) n ≡ slice_get xs (n - 1)
got_behind x xs zero h = absurd (h refl)
got_behind x xs (suc n) h = simp unary_clauses refl
