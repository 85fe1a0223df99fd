-- Numbers in turn.
use Rattle.std.proofs.Common.{◌≡◌, ℕ, zero, suc, ◌+◌, ◌<◌, ◌≤◌, Bool, true, false, not, ◌&&◌, List, [], ◌∷◌, ◌++◌, map, length, ◌⊎◌, inl, inr, nat_eq, nat_lt, nat_le, get_or, refl, ap, sym, ◌∙◌, arith, if◌then◌else◌, ⊎_elim}
use Rattle.std.proofs.lemmas.Bool.Decides.{nat_tests}
use Rattle.std.proofs.lemmas.Bool.{cases_lt}
use Rattle.std.specs.List.{list_any, position_or_len, range_with_len}

-- a number is among those in turn where it is between their bounds
pub in_range : (v a n : ℕ) → list_any (nat_eq v) (range_with_len a n) ≡ (nat_le a v && nat_lt v (a + n))
in_range v a zero =
    ⊎_elim (λ (h : v < a). grind (arith, nat_tests)) (λ (h : a ≤ v). grind (arith, nat_tests)) (cases_lt v a)
in_range v a (suc n) =
    let r = in_range v (a + 1) n in
    grind (arith, nat_tests, r)

pub within_range : (v a n : ℕ) → a ≤ v → v < a + n → list_any (nat_eq v) (range_with_len a n) ≡ true
within_range v a n h k = let r = in_range v a n in grind (arith, nat_tests, r)

pub outside_range : (v a n : ℕ) → (v < a) ⊎ (a + n ≤ v) → list_any (nat_eq v) (range_with_len a n) ≡ false
outside_range v a n (inl h) = let r = in_range v a n in grind (arith, nat_tests, r)
outside_range v a n (inr h) = let r = in_range v a n in grind (arith, nat_tests, r)

-- the place of a number among those in turn
pub place_in_range : (v a n : ℕ) → a ≤ v → v < a + n → a + position_or_len (nat_eq v) (range_with_len a n) ≡ v
place_in_range v a zero h k = absurd (omega arith)
place_in_range v a (suc n) h k = by (nat_eq v a) refl (λ g. place_in_range v (a + 1) n g (omega arith))
  where
    by : (b : Bool) → nat_eq v a ≡ b → (a + 1 ≤ v → (a + 1) + position_or_len (nat_eq v) (range_with_len (a + 1) n) ≡ v) → a + position_or_len (nat_eq v) (range_with_len a (suc n)) ≡ v
    by true e rest =
        let p : position_or_len (nat_eq v) (range_with_len a (suc n)) ≡ 0 = ap (λ (b : Bool). if not b then 1 + position_or_len (nat_eq v) (range_with_len (a + 1) n) else 0) e in
        let s : v ≡ a = grind (arith, nat_tests) in
        omega (arith, p, s)
    by false e rest =
        let p : position_or_len (nat_eq v) (range_with_len a (suc n)) ≡ 1 + position_or_len (nat_eq v) (range_with_len (a + 1) n) = ap (λ (b : Bool). if not b then 1 + position_or_len (nat_eq v) (range_with_len (a + 1) n) else 0) e in
        let up : a + 1 ≤ v = grind (arith, nat_tests) in
        omega (arith, p, rest up)

-- numbers in turn, and those in turn behind them
pub range_joined : (a m n : ℕ) → range_with_len a m ++ range_with_len (a + m) n ≡ range_with_len a (m + n)
range_joined a zero n =
    let z : a + 0 ≡ a = omega arith in
    let y : n ≡ 0 + n = omega arith in
    ap (λ (k : ℕ). range_with_len k n) z ∙ ap (range_with_len a) y
range_joined a (suc m) n =
    let z : a + suc m ≡ (a + 1) + m = omega arith in
    let y : suc (m + n) ≡ suc m + n = omega arith in
    ap (λ (k : ℕ). a ∷ (range_with_len (a + 1) m ++ range_with_len k n)) z ∙ (ap (λ (ks : List ℕ). a ∷ ks) (range_joined (a + 1) m n) ∙ ap (range_with_len a) y)

-- the elements at places in turn are the elements
pub map_at_places : {X Y : Type 0} (f : X → Y) (d : X) (xs : List X) (g : ℕ → X) (a : ℕ) → ((i : ℕ) → i < length xs → g (a + i) ≡ get_or xs i d) → map (λ j. f (g j)) (range_with_len a (length xs)) ≡ map f xs
map_at_places f d [] g a h = refl
map_at_places {X} {Y} f d (x ∷ xs) g a h =
    let z : a + 0 ≡ a = omega arith in
    let first : g a ≡ x = sym (ap g z) ∙ h 0 (omega arith) in
    let rest : map (λ j. f (g j)) (range_with_len (a + 1) (length xs)) ≡ map f xs = map_at_places f d xs g (a + 1) (λ i low. let p : (a + 1) + i ≡ a + suc i = omega arith in ap g p ∙ h (suc i) (omega arith)) in
    ap (λ (y : X). f y ∷ map (λ j. f (g j)) (range_with_len (a + 1) (length xs))) first ∙ ap (λ (ys : List Y). f x ∷ ys) rest
