-- Clauses in one flat list: one more, and one taken away.
use Rattle.std.proofs.Common.{◌≡◌, ℕ, suc, ◌-◌, ◌<◌, ◌≤◌, List, [], ◌∷◌, ◌++◌, length, get_or, set, take, drop, refl, ap, ap₂, ◌∙◌, arith, length-append}
use Rattle.std.proofs.lemmas.List.{drop-append-le, take-append-le, length-drop, length-map}
use Rattle.std.specs.Prelude.{slice_range}
use Rattle.drup.specs.declared.clauses.Stretch.{Stretch}
use Rattle.drup.specs.Flat.{stretched, AreStretches}
use Rattle.drup.proofs.ListsLemmas.{list_is, map-set}

pub length-stretched : (literals : List ℕ) (stretches : List Stretch) → length (stretched literals stretches) ≡ length stretches
length-stretched literals stretches = length-map stretches (λ (s : Stretch). slice_range literals s.start s.end)

pub stretched_at : (literals : List ℕ) (stretches : List Stretch) (k : ℕ) (s : Stretch) → k < length stretches → s ≡ get_or stretches k s → get_or (stretched literals stretches) k [] ≡ slice_range literals s.start s.end
stretched_at literals stretches k s h is = list_is (λ (s : Stretch). slice_range literals s.start s.end) stretches k s h is

-- ---- one more

drop_behind : (xs ys : List ℕ) → drop (length xs) (xs ++ ys) ≡ ys
drop_behind [] ys = refl
drop_behind (x ∷ xs) ys = drop_behind xs ys

take_whole : (xs : List ℕ) → take (length xs) xs ≡ xs
take_whole [] = refl
take_whole (x ∷ xs) = ap (λ (ys : List ℕ). x ∷ ys) (take_whole xs)

pub range_kept : (xs ys : List ℕ) (a b : ℕ) → a ≤ b → b ≤ length xs → slice_range (xs ++ ys) a b ≡ slice_range xs a b
range_kept xs ys a b low high = ap (λ (zs : List ℕ). take (b - a) zs) (drop-append-le a xs ys (omega arith)) ∙ take-append-le (b - a) (drop a xs) ys (omega (arith, length-drop a xs))

pub range_last : (xs ys : List ℕ) → slice_range (xs ++ ys) (length xs) (length (xs ++ ys)) ≡ ys
range_last xs ys = ap (λ (zs : List ℕ). take (length (xs ++ ys) - length xs) zs) (drop_behind xs ys) ∙ (let e : length (xs ++ ys) - length xs ≡ length ys = omega (arith, length-append xs ys) in ap (λ (n : ℕ). take n ys) e ∙ take_whole ys)

-- a stretch of the longer list: one that was there, and the last
pub stretched-add : (literals clause : List ℕ) (stretches : List Stretch) → AreStretches (length literals) stretches → stretched (literals ++ clause) (stretches ++ record { start = length literals; end = length (literals ++ clause) } ∷ []) ≡ stretched literals stretches ++ clause ∷ []
stretched-add literals clause [] o = ap (λ (c : List ℕ). c ∷ []) (range_last literals clause)
stretched-add literals clause (s ∷ ss) o =
    let first = o 0 s (omega arith) in
    ap₂ (λ (c : List ℕ) (cs : List (List ℕ)). c ∷ cs) (range_kept literals clause s.start s.end first.0 first.1) (stretched-add literals clause ss (λ k d h. o (suc k) d (omega arith)))

-- ---- one taken away

-- a clause taken away: its stretch ends where it starts
pub stretched-delete : (literals : List ℕ) (stretches : List Stretch) (k start : ℕ) → stretched literals (set stretches k (record { start = start; end = start })) ≡ set (stretched literals stretches) k []
stretched-delete literals stretches k start =
    map-set (λ (s : Stretch). slice_range literals s.start s.end) stretches k (record { start = start; end = start })
    ∙ ap (set (stretched literals stretches) k) (let none : start - start ≡ 0 = omega arith in ap (λ (n : ℕ). take n (drop start literals)) none)
