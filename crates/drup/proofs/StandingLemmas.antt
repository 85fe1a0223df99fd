-- Clauses that stand, among all places.
use Rattle.std.proofs.Common.{◌≡◌, ℕ, zero, suc, ◌<◌, ◌≤◌, List, [], ◌∷◌, ◌++◌, length, get_or, ⊎_elim, refl, ap, subst, ◌∙◌, arith}
use Rattle.std.proofs.lemmas.Bool.{cases_lt}
use Rattle.std.proofs.lemmas.List.{get_or_past}
use Rattle.drup.specs.Flat.{standing}
use Rattle.drup.specs.Propagation.{Literals, IsClosedUnder, IsClosed}

-- a clause at a place, where it has a literal, stands
pub stands : (clauses : List (List ℕ)) (k : ℕ) → 0 < length (get_or clauses k []) → (j : ℕ) × (j < length (standing clauses)) × (get_or (standing clauses) j [] ≡ get_or clauses k [])
stands [] zero some = absurd (omega arith)
stands [] (suc k) some = absurd (omega arith)
stands ([] ∷ cs) zero some = absurd (omega arith)
stands ([] ∷ cs) (suc k) some = stands cs k some
stands ((l ∷ ls) ∷ cs) zero some = (0, omega arith, refl)
stands ((l ∷ ls) ∷ cs) (suc k) some = let own = stands cs k some in (suc own.0, omega (arith, own.1), own.2)

-- a clause that stands has a place and a literal
pub stood : (clauses : List (List ℕ)) (j : ℕ) → j < length (standing clauses) → (k : ℕ) × (0 < length (get_or clauses k [])) × (get_or clauses k [] ≡ get_or (standing clauses) j [])
stood [] j h = absurd (omega arith)
stood ([] ∷ cs) j h = let own = stood cs j h in (suc own.0, own.1, own.2)
stood ((l ∷ ls) ∷ cs) zero h = (0, omega arith, refl)
stood ((l ∷ ls) ∷ cs) (suc j) h = let own = stood cs j (omega (arith, h)) in (suc own.0, own.1, own.2)

pub place_inside : (clauses : List (List ℕ)) (k : ℕ) → 0 < length (get_or clauses k []) → k < length clauses
place_inside clauses k some =
    ⊎_elim
    (λ (h : k < length clauses). h)
    (λ (late : length clauses ≤ k). absurd (omega (arith, some, ap length (get_or_past clauses k [] late))))
    (cases_lt k (length clauses))

pub closed_standing : (clauses : List (List ℕ)) (s : Literals) → IsClosed clauses s → IsClosed (standing clauses) s
closed_standing clauses s closed j h =
    let own = stood clauses j h in
    subst (λ (c : List ℕ). IsClosedUnder c s) own.2 (closed own.0 (place_inside clauses own.0 own.1))

pub closed_places : (clauses : List (List ℕ)) (s : Literals) → IsClosed (standing clauses) s → IsClosed clauses s
closed_places clauses s closed k h i below others =
    let own = stands clauses k (omega (arith, below)) in
    (subst (λ (c : List ℕ). IsClosedUnder c s) own.2 (closed own.0 own.1)) i below others

pub standing-append : (xs ys : List (List ℕ)) → standing (xs ++ ys) ≡ standing xs ++ standing ys
standing-append [] ys = refl
standing-append ([] ∷ xs) ys = standing-append xs ys
standing-append ((l ∷ ls) ∷ xs) ys = ap (λ (cs : List (List ℕ)). (l ∷ ls) ∷ cs) (standing-append xs ys)

standing-one : (clause : List ℕ) → 0 < length clause → standing (clause ∷ []) ≡ clause ∷ []
standing-one [] some = absurd (omega arith)
standing-one (l ∷ ls) some = refl

pub standing-push : (clauses : List (List ℕ)) (clause : List ℕ) → 0 < length clause → standing (clauses ++ clause ∷ []) ≡ standing clauses ++ clause ∷ []
standing-push clauses clause some = standing-append clauses (clause ∷ []) ∙ ap (λ (cs : List (List ℕ)). standing clauses ++ cs) (standing-one clause some)

pub standing-twice : (clauses : List (List ℕ)) → standing (standing clauses) ≡ standing clauses
standing-twice [] = refl
standing-twice ([] ∷ cs) = standing-twice cs
standing-twice ((l ∷ ls) ∷ cs) = ap (λ (xs : List (List ℕ)). (l ∷ ls) ∷ xs) (standing-twice cs)
