-- The first place in a list that passes a test, where the list is made of pieces of others.
use Rattle.std.proofs.Common.{◌≡◌, ℕ, suc, ◌+◌, ◌<◌, Bool, true, false, cond, ◌||◌, nat_eq, eq-eqb, eqb-true, List, [], ◌∷◌, ◌++◌, map, length, slice_index, Option, Some, None, option_map, append_assoc, append-nil, refl, sym, ap, subst, ◌∙◌, arith}
use Rattle.std.specs.List.{AllByRecursion, list_any, position_from}
use Rattle.std.proofs.lemmas.Bool.{or_left, or_right}
use Rattle.std.proofs.lemmas.Option.{none-some, same_Some}

-- a list of what a function gives
pub place_map : {A : Type 0} (test : ℕ → Bool) (f : A → ℕ) (n : ℕ) (xs : List A) → position_from (λ x. test (f x)) n xs ≡ position_from test n (map f xs)
place_map test f n [] = refl
place_map test f n (x ∷ xs) = ap (λ (o : Option ℕ). cond (test (f x)) (Some n) o) (place_map test f (n + 1) xs)

-- counted from a later number on
pub place_later : (test : ℕ → Bool) (n k : ℕ) (xs : List ℕ) → position_from test (n + k) xs ≡ option_map (λ i. n + i) (position_from test k xs)
place_later test n k [] = refl
place_later test n k (x ∷ xs) =
    by (test x) (ap (λ (m : ℕ). position_from test m xs) (omega arith) ∙ place_later test n (k + 1) xs)
  where
    by : (b : Bool) → position_from test (n + k + 1) xs ≡ option_map (λ i. n + i) (position_from test (k + 1) xs)
        → cond b (Some (n + k)) (position_from test (n + k + 1) xs) ≡ option_map (λ i. n + i) (cond b (Some k) (position_from test (k + 1) xs))
    by true rest = refl
    by false rest = rest

-- where one of the front passes, the place is one of the front
pub place_in_front : (test : ℕ → Bool) (n : ℕ) (xs ys : List ℕ) → list_any test xs ≡ true → (i : ℕ) × (i < length xs) × (position_from test n (xs ++ ys) ≡ Some (n + i))
place_in_front test n [] ys h = absurd (cc)
place_in_front test n (x ∷ xs) ys h = by (test x) h (place_in_front test (n + 1) xs ys)
  where
    by : (b : Bool) → (b || list_any test xs) ≡ true → (list_any test xs ≡ true → (i : ℕ) × (i < length xs) × (position_from test (n + 1) (xs ++ ys) ≡ Some (n + 1 + i)))
        → (i : ℕ) × (i < suc (length xs)) × (cond b (Some n) (position_from test (n + 1) (xs ++ ys)) ≡ Some (n + i))
    by true h rest = (0, omega arith, ap (λ (m : ℕ). Some m) (omega arith))
    by false h rest = let found = rest h in (suc found.0, omega (arith, found.1), found.2 ∙ ap (λ (m : ℕ). Some m) (omega arith))

-- where none does, it is one of those behind
pub place_behind : (test : ℕ → Bool) (n : ℕ) (xs ys : List ℕ) → list_any test xs ≡ false → position_from test n (xs ++ ys) ≡ position_from test (n + length xs) ys
place_behind test n [] ys h = ap (λ (m : ℕ). position_from test m ys) (omega arith)
place_behind test n (x ∷ xs) ys h = by (test x) h (place_behind test (n + 1) xs ys)
  where
    by : (b : Bool) → (b || list_any test xs) ≡ false → (list_any test xs ≡ false → position_from test (n + 1) (xs ++ ys) ≡ position_from test (n + 1 + length xs) ys)
        → cond b (Some n) (position_from test (n + 1) (xs ++ ys)) ≡ position_from test (n + suc (length xs)) ys
    by true h rest = absurd (cc)
    by false h rest = rest h ∙ ap (λ (m : ℕ). position_from test m ys) (omega arith)

pub none_passes : (test : ℕ → Bool) (xs : List ℕ) → AllByRecursion (λ x. test x ≡ false) xs → list_any test xs ≡ false
none_passes test [] h = refl
none_passes test (x ∷ xs) h = rw h.0 (none_passes test xs h.1)

-- a number stands behind those that are others
pub place_own : (n p : ℕ) (before after : List ℕ) → AllByRecursion (λ x. nat_eq p x ≡ false) before → position_from (nat_eq p) n (before ++ p ∷ after) ≡ Some (n + length before)
place_own n p before after h = place_behind (nat_eq p) n before (p ∷ after) (none_passes (nat_eq p) before h) ∙ rw (eq-eqb p p refl) refl

-- what stands at a place passes, and is as all are
pub place_passes : (P : ℕ → Type 0) (test : ℕ → Bool) (n k : ℕ) (xs : List ℕ) → AllByRecursion P xs → position_from test n xs ≡ Some k → (x : ℕ) × P x × (test x ≡ true)
place_passes P test n k [] h e = absurd (none-some k e)
place_passes P test n k (x ∷ xs) h e = by (test x) refl e (place_passes P test (n + 1) k xs h.1)
  where
    by : (b : Bool) → test x ≡ b → cond b (Some n) (position_from test (n + 1) xs) ≡ Some k → (position_from test (n + 1) xs ≡ Some k → (y : ℕ) × P y × (test y ≡ true)) → (y : ℕ) × P y × (test y ≡ true)
    by true t e more = (x, h.0, t)
    by false t e more = more e

-- ---- places of numbers

-- a number of a list stands at a place of it
abbrev pub Stands : List ℕ → ℕ → Type 0
Stands xs x = (k : ℕ) × (k < length xs) × (position_from (nat_eq x) 0 xs ≡ Some k)

any_at : (front rest : List ℕ) (x : ℕ) → list_any (nat_eq x) (front ++ x ∷ rest) ≡ true
any_at [] rest x = or_left (nat_eq x x) (list_any (nat_eq x) rest) (eq-eqb x x refl)
any_at (y ∷ front) rest x = or_right (nat_eq x y) (list_any (nat_eq x) (front ++ x ∷ rest)) (any_at front rest x)

stand_from : (whole front rest : List ℕ) → whole ≡ front ++ rest → AllByRecursion (Stands whole) rest
stand_from whole front [] e = tt
stand_from whole front (x ∷ rest) e =
    let found = place_in_front (nat_eq x) 0 whole [] (ap (list_any (nat_eq x)) e ∙ any_at front rest x) in
    let at : position_from (nat_eq x) 0 whole ≡ Some found.0 = ap (position_from (nat_eq x) 0) (sym (append-nil whole)) ∙ found.2 ∙ ap (λ (m : ℕ). Some m) (omega arith) in
    ((found.0, found.1, at), stand_from whole (front ++ x ∷ []) rest (e ∙ sym (append_assoc front (x ∷ []) rest)))

pub all_stand : (xs : List ℕ) → AllByRecursion (Stands xs) xs
all_stand xs = stand_from xs [] xs refl

-- what is one more than something is no 0
pub suc_of : (o : Option ℕ) (k : ℕ) → option_map (λ i. 1 + i) o ≡ Some k → (j : ℕ) × (o ≡ Some j) × (k ≡ suc j)
suc_of None k e = absurd (none-some k e)
suc_of (Some j) k e = (j, refl, omega (arith, same_Some (1 + j) k e))

-- what a function gives at a place
pub at_place : (f : ℕ → ℕ) (xs : List ℕ) (x k : ℕ) → position_from (nat_eq x) 0 xs ≡ Some k → slice_index (map f xs) k ≡ f x
at_place f [] x k e = absurd (none-some k e)
at_place f (y ∷ xs) x k e = by (nat_eq x y) refl e (at_place f xs x)
  where
    by : (b : Bool) → nat_eq x y ≡ b → cond b (Some 0) (position_from (nat_eq x) 1 xs) ≡ Some k → ((j : ℕ) → position_from (nat_eq x) 0 xs ≡ Some j → slice_index (map f xs) j ≡ f x) → slice_index (f y ∷ map f xs) k ≡ f x
    by true t e more = subst (λ (m : ℕ). slice_index (f y ∷ map f xs) m ≡ f x) (same_Some 0 k e) (ap f (sym (eqb-true x y t)))
    by false t e more =
        let later = suc_of (position_from (nat_eq x) 0 xs) k (sym (place_later (nat_eq x) 1 0 xs) ∙ e) in
        subst (λ (m : ℕ). slice_index (f y ∷ map f xs) m ≡ f x) (sym later.2) (more later.0 later.1)
