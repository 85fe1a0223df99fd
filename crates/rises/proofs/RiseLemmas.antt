-- First rises, position by position, and those of one frame more.
use Rattle.std.proofs.Common.{◌≡◌, ℕ, zero, suc, ◌+◌, ◌<◌, ◌≤◌, nat_eq, Bool, true, false, cond, ◌&&◌, ◌||◌, List, [], ◌∷◌, ◌++◌, Option, Some, None, option_map, map, length, slice_get, set, replicate, inl, inr, refl, sym, ap, ap₂, ◌∙◌, arith}
use Rattle.std.specs.List.{list_any, position_from}
use Rattle.std.proofs.lemmas.Bool.{cases_lt, ne_eqb, eq-eqb}
use Rattle.std.proofs.lemmas.Option.{slice_get_past}
use Rattle.base.specs.Shown.{Shown, is_bad_in, rises_in_some}
use Rattle.witness.proofs.GrowthLemmas.{Alike}
use Rattle.rises.specs.FirstRises.{first_rise, first_rises_from}
use Rattle.rises.specs.Notes.{noted, IsNoted}

-- ---- lists by their positions

some_same : {X : Type 0} (x y : X) → Some x ≡ Some y → x ≡ y
some_same x y e = cc

-- lists with the same at each position are the same
pub same_lists : {X : Type 0} (xs ys : List X) → ((k : ℕ) → slice_get xs k ≡ slice_get ys k) → xs ≡ ys
same_lists [] [] h = refl
same_lists [] (y ∷ ys) h = absurd (let e = h 0 in cc)
same_lists (x ∷ xs) [] h = absurd (let e = h 0 in cc)
same_lists (x ∷ xs) (y ∷ ys) h = ap₂ (λ z zs. z ∷ zs) (some_same x y (h 0)) (same_lists xs ys (λ k. h (suc k)))

-- another position of a list that was written to
pub other_position : {X : Type 0} (xs : List X) (i k : ℕ) (v : X) → (k ≡ i → ⊥) → slice_get (set xs i v) k ≡ slice_get xs k
other_position [] i k v ne = refl
other_position (x ∷ xs) zero zero v ne = absurd (ne refl)
other_position (x ∷ xs) zero (suc k) v ne = refl
other_position (x ∷ xs) (suc i) zero v ne = refl
other_position (x ∷ xs) (suc i) (suc k) v ne = other_position xs i k v (λ e. ne (ap suc e))

pub same_position : {X : Type 0} (xs : List X) (i : ℕ) (v : X) → i < length xs → slice_get (set xs i v) i ≡ Some v
same_position [] i v h = absurd (omega (arith, h))
same_position (x ∷ xs) zero v h = refl
same_position (x ∷ xs) (suc i) v h = same_position xs i v (omega (arith, h))

-- ---- first rises by positions

-- the first rise of a bad property, where it is claimed
abbrev pub at : (ℕ → Bool) → List Shown → ℕ → Option ℕ
at claimed shown k = cond (claimed k) (first_rise shown k) None

rises_at : (claimed : ℕ → Bool) (shown : List Shown) (i n k : ℕ) → k < n → slice_get (first_rises_from claimed shown i n) k ≡ Some (at claimed shown (i + k))
rises_at claimed shown i zero k h = absurd (omega (arith, h))
rises_at claimed shown i (suc n) zero h = let e : i ≡ i + 0 = omega arith in ap (λ (m : ℕ). Some (at claimed shown m)) e
rises_at claimed shown i (suc n) (suc k) h =
    let e : suc i + k ≡ i + suc k = omega arith in
    rises_at claimed shown (suc i) n k (omega (arith, h)) ∙ ap (λ (m : ℕ). Some (at claimed shown m)) e

pub rises_there : (claimed : ℕ → Bool) (shown : List Shown) (n k : ℕ) → k < n → slice_get (first_rises_from claimed shown 0 n) k ≡ Some (at claimed shown k)
rises_there claimed shown n k h = let e : 0 + k ≡ k = omega arith in rises_at claimed shown 0 n k h ∙ ap (λ (m : ℕ). Some (at claimed shown m)) e

pub length-rises : (claimed : ℕ → Bool) (shown : List Shown) (i n : ℕ) → length (first_rises_from claimed shown i n) ≡ n
length-rises claimed shown i zero = refl
length-rises claimed shown i (suc n) = ap suc (length-rises claimed shown (suc i) n)

rises_past : (claimed : ℕ → Bool) (shown : List Shown) (n k : ℕ) → n ≤ k → slice_get (first_rises_from claimed shown 0 n) k ≡ None
rises_past claimed shown n k h = slice_get_past (first_rises_from claimed shown 0 n) k (omega (arith, h, length-rises claimed shown 0 n))

none_at : (b : Bool) → let none : Option ℕ = None in cond b none none ≡ none
none_at true = refl
none_at false = refl

-- there are none in no frame
pub none_risen : (claimed : ℕ → Bool) (i n : ℕ) → replicate n None ≡ first_rises_from claimed [] i n
none_risen claimed i zero = refl
none_risen claimed i (suc n) = ap₂ (λ (o : Option ℕ) (l : List (Option ℕ)). o ∷ l) (sym (none_at (claimed i))) (none_risen claimed (suc i) n)

claimed_alike : (was now : ℕ → Bool) (shown : List Shown) (i n : ℕ) → ((k : ℕ) → now k ≡ was k) → first_rises_from was shown i n ≡ first_rises_from now shown i n
claimed_alike was now shown i zero same = refl
claimed_alike was now shown i (suc n) same =
    ap₂ (λ (b : Bool) (l : List (Option ℕ)). cond b (first_rise shown i) None ∷ l) (sym (same i)) (claimed_alike was now shown (suc i) n same)

-- where the same is claimed, or there is no frame
pub alike_rises : {F : Type 0} (shows : F → Shown) (was now : ℕ → Bool) (fs : List F) (n : ℕ) → Alike fs was now → first_rises_from was (map shows fs) 0 n ≡ first_rises_from now (map shows fs) 0 n
alike_rises shows was now fs n (inl none) =
    ap (λ l. first_rises_from was (map shows l) 0 n) none ∙ (sym (none_risen was 0 n) ∙ (none_risen now 0 n ∙ sym (ap (λ l. first_rises_from now (map shows l) 0 n) none)))
alike_rises shows was now fs n (inr same) = claimed_alike was now (map shows fs) 0 n same

-- ---- a frame more

module _ {F : Type 0} (test : F → Bool) where
  -- the first of frames and one more
  first_more : (n : ℕ) (fs : List F) (f : F) → noted (list_any test (fs ++ f ∷ [])) (n + length fs) (position_from test n fs) ≡ position_from test n (fs ++ f ∷ [])
  first_more n [] f =
      let e : n + 0 ≡ n = omega arith in
      elim (test f) as (λ b. noted (b || false) (n + 0) None ≡ cond b (Some n) None) [ true ↦ ap Some e | false ↦ refl ]
  first_more n (g ∷ fs) f =
      let e : n + suc (length fs) ≡ n + 1 + length fs = omega arith in
      elim (test g) as (λ b. noted (b || list_any test (fs ++ f ∷ [])) (n + suc (length fs)) (cond b (Some n) (position_from test (n + 1) fs)) ≡ cond b (Some n) (position_from test (n + 1) (fs ++ f ∷ []))) [
        | true ↦ refl
        | false ↦ ap (λ (m : ℕ). noted (list_any test (fs ++ f ∷ [])) m (position_from test (n + 1) fs)) e ∙ first_more (n + 1) fs f
      ]

module _ (claimed : ℕ → Bool) (shown : List Shown) (s : Shown) (n : ℕ) where
  abbrev all : List Shown
  all = shown ++ s ∷ []

  more_at : (k : ℕ) → noted (claimed k && rises_in_some k all) (length shown) (at claimed shown k) ≡ at claimed all k
  more_at k =
      let e : 0 + length shown ≡ length shown = omega arith in
      elim (claimed k) as (λ b. noted (b && rises_in_some k all) (length shown) (cond b (first_rise shown k) None) ≡ cond b (first_rise all k) None) [
        | true ↦ ap (λ (m : ℕ). noted (rises_in_some k all) m (first_rise shown k)) (sym e) ∙ first_more (is_bad_in k) 0 shown s
        | false ↦ refl
      ]

  -- what is noted behind a frame more are the first rises with it
  pub noted_rises : (reached : ℕ → Bool) (frame : ℕ) (before after : List (Option ℕ)) → frame ≡ length shown → before ≡ first_rises_from claimed shown 0 n
      → ((k : ℕ) → reached k ≡ (claimed k && rises_in_some k all)) → IsNoted reached frame before after → after ≡ first_rises_from claimed all 0 n
  noted_rises reached frame before after number was reaches notes = same_lists after (first_rises_from claimed all 0 n) at_position
    where
      from : (k : ℕ) (o : Option (Option ℕ)) → slice_get (first_rises_from claimed shown 0 n) k ≡ o → slice_get after k ≡ option_map (noted (reached k) frame) o
      from k o e = notes k ∙ ap (option_map (noted (reached k) frame)) (ap (λ (l : List (Option ℕ)). slice_get l k) was ∙ e)

      at_position : (k : ℕ) → slice_get after k ≡ slice_get (first_rises_from claimed all 0 n) k
      at_position k =
          elim (cases_lt k n) [
            | inl h ↦
                from k (Some (at claimed shown k)) (rises_there claimed shown n k h)
                ∙ (ap Some (ap₂ (λ (b : Bool) (m : ℕ). noted b m (at claimed shown k)) (reaches k) number ∙ more_at k) ∙ sym (rises_there claimed all n k h))
            | inr h ↦ from k None (rises_past claimed shown n k h) ∙ sym (rises_past claimed all n k h)
          ]

-- ---- one claim

none_claimed : (claim : ℕ) (shown : List Shown) (i n : ℕ) → claim < i → replicate n None ≡ first_rises_from (λ k. nat_eq claim k) shown i n
none_claimed claim shown i zero h = refl
none_claimed claim shown i (suc n) h =
    let other : nat_eq claim i ≡ false = ne_eqb claim i (λ e. omega (arith, h, e)) in
    ap₂ (λ (o : Option ℕ) (l : List (Option ℕ)). o ∷ l) (sym (ap (λ (b : Bool). cond b (first_rise shown i) None) other)) (none_claimed claim shown (suc i) n (omega (arith, h)))

set_at : (shown : List Shown) (i j n : ℕ) → set (replicate n None) j (first_rise shown (i + j)) ≡ first_rises_from (λ k. nat_eq (i + j) k) shown i n
set_at shown i j zero = refl
set_at shown i zero (suc n) =
    let here : i + 0 ≡ i = omega arith in
    let own : nat_eq (i + 0) i ≡ true = eq-eqb (i + 0) i here in
    ap₂ (λ (o : Option ℕ) (l : List (Option ℕ)). o ∷ l) (ap (first_rise shown) here ∙ sym (ap (λ (b : Bool). cond b (first_rise shown i) None) own)) (none_claimed (i + 0) shown (suc i) n (omega arith))
set_at shown i (suc j) (suc n) =
    let other : nat_eq (i + suc j) i ≡ false = ne_eqb (i + suc j) i (λ e. omega (arith, e)) in
    let same : i + suc j ≡ suc i + j = omega arith in
    ap₂ (λ (o : Option ℕ) (l : List (Option ℕ)). o ∷ l) (sym (ap (λ (b : Bool). cond b (first_rise shown i) None) other))
    (ap (λ (m : ℕ). set (replicate n None) j (first_rise shown m)) same ∙ set_at shown (suc i) j n ∙ ap (λ (m : ℕ). first_rises_from (λ k. nat_eq m k) shown (suc i) n) (sym same))

-- where one bad property is claimed, its first rise is that of all
pub one_claim : (claim : ℕ) (shown : List Shown) (n : ℕ) → set (replicate n None) claim (first_rise shown claim) ≡ first_rises_from (λ k. nat_eq claim k) shown 0 n
one_claim claim shown n =
    let same : 0 + claim ≡ claim = omega arith in
    ap (λ (m : ℕ). set (replicate n None) claim (first_rise shown m)) (sym same) ∙ set_at shown 0 claim n ∙ ap (λ (m : ℕ). first_rises_from (λ k. nat_eq m k) shown 0 n) same

-- and where it rises nowhere, none does
pub no_claim : (claim : ℕ) (shown : List Shown) (n : ℕ) → first_rise shown claim ≡ None → replicate n None ≡ first_rises_from (λ k. nat_eq claim k) shown 0 n
no_claim claim shown n none = sym (set_none n claim) ∙ ap (set (replicate n None) claim) (sym none) ∙ one_claim claim shown n
  where
    set_none : (n j : ℕ) → let no : Option ℕ = None in set (replicate n no) j no ≡ replicate n no
    set_none zero j = refl
    set_none (suc n) zero = refl
    set_none (suc n) (suc j) = ap (λ (l : List (Option ℕ)). None ∷ l) (set_none n j)
