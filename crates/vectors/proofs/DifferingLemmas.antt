-- The lines of vectors that are not right: each is named once, in increasing order, whatever order the vectors are judged in.
use native.Mathlib.Omega.{arith}
use Rattle.std.proofs.Common.{◌≡◌, ℕ, suc, ◌+◌, ◌-◌, ◌<◌, ◌≤◌, Bool, true, false, ◌==◌, List, [], ◌∷◌, ◌++◌, length, refl, sym, ap, ap₂, ◌∙◌, if◌then◌else◌, append_assoc, get_or, rules}
use Rattle.std.specs.List.{All, sum_by}
use Rattle.std.specs.List.Sorted.{IsPermutation, IsNonDecreasing}
use Rattle.std.proofs.lemmas.List.Sums.{sum_by-cons}
use Rattle.std.proofs.lemmas.List.Sorted.{sum_by-IsPermutation}
use Rattle.std.proofs.lemmas.List.Elements.{All-cons}
use Rattle.std.proofs.lemmas.Bool.Decides.{nat_tests}
use Rattle.vectors.specs.declared.lines.Vector.{Vector}
use Rattle.vectors.specs.Vectors.{NumberedVector, numbered, lines_that_differ, vector_value, word_expected, IsRight, TellsVectors, report}

-- one vector judged: its line, where it is not right, stands before those of the vectors behind it
one_judged : (right : Bool) (k : ℕ) (rest : List ℕ) → (if right then [] else k ∷ []) ++ rest ≡ (if right then rest else k ∷ rest)
one_judged true k rest = refl
one_judged false k rest = refl

pub noted_more : (before now all : List ℕ) (n : NumberedVector) (behind : List NumberedVector) → now ≡ before ++ lines_that_differ (n ∷ []) → before ++ lines_that_differ (n ∷ behind) ≡ all → now ++ lines_that_differ behind ≡ all
noted_more before now all n behind e noted =
    rw e (append_assoc before (lines_that_differ (n ∷ [])) (lines_that_differ behind) ∙ (ap (λ (t : List ℕ). before ++ t) (one_judged (vector_value n.vector == word_expected n.vector) n.line (lines_that_differ behind)) ∙ noted))

-- each of some numbers is at least k
abbrev From : ℕ → List ℕ → Type 0
From k [] = Unit {0}
From k (x ∷ xs) = (k ≤ x) × From k xs

-- numbers that do not fall
abbrev Rises : List ℕ → Type 0
Rises [] = Unit {0}
Rises (x ∷ xs) = From x xs × Rises xs

from_each : (k : ℕ) (xs : List ℕ) → ((j d : ℕ) → j < length xs → k ≤ get_or xs j d) → From k xs
from_each k [] h = tt
from_each k (x ∷ xs) h = (h 0 0 (omega arith), from_each k xs (λ j d l. h (suc j) d (omega (arith, l))))

rises_from : (xs : List ℕ) → IsNonDecreasing xs → Rises xs
rises_from [] h = tt
rises_from (x ∷ xs) h =
    (from_each x xs (λ j d l. h 0 (suc j) d (omega arith) (omega (arith, l))), rises_from xs (λ i j d le lt. h (suc i) (suc j) d (omega (arith, le)) (omega (arith, lt))))

-- none of the numbers from k on is below it
none_below : (k : ℕ) (xs : List ℕ) → From k xs → sum_by (λ x. k - x) xs ≡ 0
none_below k [] from = refl
none_below k (x ∷ xs) from = omega (arith, sum_by-cons (λ x. k - x) x xs, none_below k xs from.1, from.0)

-- numbers that do not fall are determined by their sums
rises_once : (xs ys : List ℕ) → Rises xs → Rises ys → ((f : ℕ → ℕ) → sum_by f xs ≡ sum_by f ys) → xs ≡ ys
rises_once [] [] rx ry same = refl
rises_once [] (y ∷ ys) rx ry same = absurd (omega (arith, same (λ x. 1), sum_by-cons (λ x. 1) y ys))
rises_once (x ∷ xs) [] rx ry same = absurd (omega (arith, same (λ x. 1), sum_by-cons (λ x. 1) x xs))
rises_once (x ∷ xs) (y ∷ ys) rx ry same =
    let low : y ≤ x = omega (arith, same (λ z. y - z), sum_by-cons (λ z. y - z) x xs, sum_by-cons (λ z. y - z) y ys, none_below y ys ry.0) in
    let high : x ≤ y = omega (arith, same (λ z. x - z), sum_by-cons (λ z. x - z) x xs, sum_by-cons (λ z. x - z) y ys, none_below x xs rx.0) in
    let e : x ≡ y = omega (arith, low, high) in
    ap₂ ◌∷◌ e (rises_once xs ys rx.1 ry.1 (λ f. omega (arith, same f, sum_by-cons f x xs, sum_by-cons f y ys, ap f e)))

from_less : (k m : ℕ) (xs : List ℕ) → k ≤ m → From m xs → From k xs
from_less k m [] le from = tt
from_less k m (x ∷ xs) le from = (omega (arith, le, from.0), from_less k m xs le from.1)

one_rises : (right : Bool) (k : ℕ) (rest : List ℕ) → From (suc k) rest → Rises rest → From k (if right then rest else k ∷ rest) × Rises (if right then rest else k ∷ rest)
one_rises true k rest from rises = (from_less k (suc k) rest (omega arith) from, rises)
one_rises false k rest from rises = ((omega arith, from_less k (suc k) rest (omega arith) from), (from_less k (suc k) rest (omega arith) from, rises))

differing_rises : (k : ℕ) (vs : List Vector) → From k (lines_that_differ (numbered k vs)) × Rises (lines_that_differ (numbered k vs))
differing_rises k [] = (tt, tt)
differing_rises k (v ∷ vs) =
    let behind = differing_rises (suc k) vs in
    one_rises (vector_value v == word_expected v) k (lines_that_differ (numbered (suc k) vs)) behind.0 behind.1

one_sum : (f : ℕ → ℕ) (right : Bool) (k : ℕ) (rest : List ℕ) → sum_by f (if right then rest else k ∷ rest) ≡ (if right then 0 else f k) + sum_by f rest
one_sum f true k rest = omega arith
one_sum f false k rest = sum_by-cons f k rest

-- what a number adds to a sum where its vector is not right
abbrev counted : (ℕ → ℕ) → NumberedVector → ℕ
counted f n = if vector_value n.vector == word_expected n.vector then 0 else f n.line

sum_differing : (f : ℕ → ℕ) (ns : List NumberedVector) → sum_by f (lines_that_differ ns) ≡ sum_by (counted f) ns
sum_differing f [] = refl
sum_differing f (n ∷ ns) =
    omega (arith, one_sum f (vector_value n.vector == word_expected n.vector) n.line (lines_that_differ ns), sum_differing f ns, sum_by-cons (counted f) n ns)

-- vectors are judged in another order, and the lines of those that are not right put in order
pub lines_in_order : (all : List Vector) (vectors judged : List NumberedVector) (lines ordered : List ℕ) → vectors ≡ numbered 1 all → IsPermutation vectors judged → lines ≡ lines_that_differ judged → IsPermutation lines ordered → IsNonDecreasing ordered → ordered ≡ lines_that_differ (numbered 1 all)
lines_in_order all vectors judged lines ordered are moved noted sorted rises =
    rises_once ordered (lines_that_differ (numbered 1 all)) (rises_from ordered rises) (differing_rises 1 all).1
    (λ f. sum_by-IsPermutation f lines ordered sorted ∙ (ap (sum_by f) noted ∙ (sum_differing f judged ∙ (sum_by-IsPermutation (counted f) vectors judged moved ∙ (ap (sum_by (counted f)) are ∙ sym (sum_differing f (numbered 1 all)))))))

one_right : (v : Vector) (k : ℕ) (rest : List ℕ) (right : Bool) → (vector_value v == word_expected v) ≡ right → (if right then rest else k ∷ rest) ≡ [] → IsRight v × (rest ≡ [])
one_right v k rest true e none = (grind (arith, nat_tests), none)
one_right v k rest false e none = absurd cc

-- where no line differs, each vector is right
pub all_right : (k : ℕ) (vs : List Vector) → lines_that_differ (numbered k vs) ≡ [] → All IsRight vs
all_right k [] none = search rules
all_right k (v ∷ vs) none =
    let right = one_right v k (lines_that_differ (numbered (suc k) vs)) (vector_value v == word_expected v) refl none in
    All-cons IsRight v vs right.0 (all_right (suc k) vs right.1)

-- what names the lines that differ tells of the vectors, and whether there is no such line is whether all agree
pub tells_by_lines : (all : List Vector) (lines told : List ℕ) (n : ℕ) (none : Bool) → lines ≡ lines_that_differ (numbered 1 all) → n ≡ length lines → none ≡ (n == 0) → told ≡ report lines (length all) → TellsVectors told none all
tells_by_lines all [] told n none are count is text =
    record {
      right = λ yes. (all_right 1 all (sym are), text);
      wrong = λ no. absurd (grind (arith, nat_tests));
    }
tells_by_lines all (x ∷ xs) told n none are count is text =
    record {
      right = λ yes. absurd (grind (arith, nat_tests));
      wrong = λ no. ((λ nil. let e : x ∷ xs ≡ [] = are ∙ nil in absurd cc), text ∙ ap (λ (l : List ℕ). report l (length all)) are);
    }

pub length-numbered : (k : ℕ) (vs : List Vector) → length (numbered k vs) ≡ length vs
length-numbered k [] = refl
length-numbered k (v ∷ vs) = ap suc (length-numbered (suc k) vs)

-- a vector more has the next line
pub numbered_more : (k : ℕ) (vs : List Vector) (v : Vector) → numbered k (vs ++ v ∷ []) ≡ numbered k vs ++ record { line = k + length vs; vector = v } ∷ []
numbered_more k [] v = ap (λ (l : ℕ). record { line = l; vector = v } ∷ []) (omega arith)
numbered_more k (w ∷ ws) v =
    ap (λ (ns : List NumberedVector). record { line = k; vector = w } ∷ ns)
    (numbered_more (suc k) ws v ∙ ap (λ (l : ℕ). numbered (suc k) ws ++ record { line = l; vector = v } ∷ []) (omega arith))
