-- Tests of worked rows: whether a set is closed, and has no conflict.
use Rattle.std.proofs.Common.{◌≡◌, ◌≢◌, ℕ, zero, suc, ◌<◌, Bool, true, false, not, List, [], ◌∷◌, ◌⊎◌, inl, inr, length, get_or, ⊎_elim, refl, sym, ap, ◌∙◌, arith}
use Rattle.std.specs.Prelude.{◌&&◌, ◌||◌, ◌==◌}
use Rattle.std.proofs.lemmas.Bool.{cases_eq}
use Rattle.std.proofs.lemmas.Bool.Decides.{nat_tests}
use Rattle.base.specs.Literal.{negation, Valuation, literal_value}
use Rattle.drup.specs.Formula.{IsUnsatisfiable}
use Rattle.drup.specs.Propagation.{Literals, no_literal, AllNegated, OthersNegated, IsClosedUnder, IsClosed, Conflict, IsClosure, MeetsConflict, Implied}
use Rattle.drup.specs.Propagation.Conflict.{opposite, falsified}
use Rattle.drup.specs.Worked.{one, two, all_eight, twice, opposites, chain}

pub both_true : (a b : Bool) → a ≡ true → b ≡ true → (a && b) ≡ true
both_true true b p q = q
both_true false b p q = p

first_true : (a b : Bool) → (a && b) ≡ true → a ≡ true
first_true true b p = refl
first_true false b p = p

second_true : (a b : Bool) → (a && b) ≡ true → b ≡ true
second_true true b p = p
second_true false b p = absurd (cc)

either_true : (a b : Bool) → (a || b) ≡ true → (a ≡ true) ⊎ (b ≡ true)
either_true true b p = inl refl
either_true false b p = inr p

right_true : (a b : Bool) → b ≡ true → (a || b) ≡ true
right_true true b p = refl
right_true false b p = p

left_true : (a b : Bool) → a ≡ true → (a || b) ≡ true
left_true true b p = refl
left_true false b p = absurd (cc)

pub equal : (x y : ℕ) → (x == y) ≡ true → x ≡ y
equal x y e = grind (arith, nat_tests)

equal_true : (x y : ℕ) → x ≡ y → (x == y) ≡ true
equal_true x y e = grind (arith, nat_tests)

-- the negation of each literal but one is in a set
abbrev others : List ℕ → ℕ → Literals → Bool
others [] l s = true
others (x ∷ xs) l s = (x == l || s (negation x)) && others xs l s

others_true : (xs : List ℕ) (l : ℕ) (s : Literals) → OthersNegated xs l s → others xs l s ≡ true
others_true [] l s all = refl
others_true (x ∷ xs) l s all =
    both_true (x == l || s (negation x)) (others xs l s)
    (⊎_elim (λ (e : x ≡ l). left_true (x == l) (s (negation x)) (equal_true x l e)) (λ (ne : x ≢ l). right_true (x == l) (s (negation x)) (all 0 (omega arith) ne)) (cases_eq x l))
    (others_true xs l s (λ i h. all (suc i) (omega (arith, h))))

pub others_negated : (xs : List ℕ) (l : ℕ) (s : Literals) → others xs l s ≡ true → OthersNegated xs l s
others_negated [] l s t i h ne = absurd (omega arith)
others_negated (x ∷ xs) l s t zero h ne =
    ⊎_elim (λ (e : (x == l) ≡ true). absurd (ne (equal x l e))) (λ (n : s (negation x) ≡ true). n) (either_true (x == l) (s (negation x)) (first_true (x == l || s (negation x)) (others xs l s) t))
others_negated (x ∷ xs) l s t (suc i) h ne = others_negated xs l s (second_true (x == l || s (negation x)) (others xs l s) t) i (omega (arith, h)) ne

-- each literal of the second list that the first gives is in the set
abbrev gives : List ℕ → List ℕ → Literals → Bool
gives clause [] s = true
gives clause (x ∷ xs) s = (not (others clause x s) || s x) && gives clause xs s

gives_each : (clause xs : List ℕ) (s : Literals) → gives clause xs s ≡ true → (i : ℕ) → i < length xs → OthersNegated clause (get_or xs i 0) s → s (get_or xs i 0) ≡ true
gives_each clause [] s t i h all = absurd (omega arith)
gives_each clause (x ∷ xs) s t zero h all =
    ⊎_elim
    (λ (off : not (others clause x s) ≡ true). let on = others_true clause x s all in absurd (cc))
    (λ (is : s x ≡ true). is)
    (either_true (not (others clause x s)) (s x) (first_true (not (others clause x s) || s x) (gives clause xs s) t))
gives_each clause (x ∷ xs) s t (suc i) h all = gives_each clause xs s (second_true (not (others clause x s) || s x) (gives clause xs s) t) i (omega (arith, h)) all

abbrev pub is_closed : List (List ℕ) → Literals → Bool
is_closed [] s = true
is_closed (c ∷ cs) s = gives c c s && is_closed cs s

pub closed : (clauses : List (List ℕ)) (s : Literals) → is_closed clauses s ≡ true → IsClosed clauses s
closed [] s t k h = absurd (omega arith)
closed (c ∷ cs) s t zero h = gives_each c c s (first_true (gives c c s) (is_closed cs s) t)
closed (c ∷ cs) s t (suc k) h = closed cs s (second_true (gives c c s) (is_closed cs s) t) k (omega (arith, h))

-- some literal of a clause is not negated in the set, and of each clause
abbrev keeps_one : List ℕ → Literals → Bool
keeps_one [] s = false
keeps_one (x ∷ xs) s = not (s (negation x)) || keeps_one xs s

keeps_one-not : (xs : List ℕ) (s : Literals) → keeps_one xs s ≡ true → AllNegated xs s → ⊥
keeps_one-not [] s t all = cc
keeps_one-not (x ∷ xs) s t all =
    ⊎_elim
    (λ (off : not (s (negation x)) ≡ true). let on : s (negation x) ≡ true = all 0 (omega arith) in let no : not true ≡ true = sym (ap not on) ∙ off in cc)
    (λ (t' : keeps_one xs s ≡ true). keeps_one-not xs s t' (λ i h. all (suc i) (omega (arith, h))))
    (either_true (not (s (negation x))) (keeps_one xs s) t)

abbrev pub keep_one : List (List ℕ) → Literals → Bool
keep_one [] s = true
keep_one (c ∷ cs) s = keeps_one c s && keep_one cs s

keep_one-not : (clauses : List (List ℕ)) (s : Literals) → keep_one clauses s ≡ true → (k : ℕ) → k < length clauses → AllNegated (get_or clauses k []) s → ⊥
keep_one-not [] s t k h = absurd (omega arith)
keep_one-not (c ∷ cs) s t zero h = keeps_one-not c s (first_true (keeps_one c s) (keep_one cs s) t)
keep_one-not (c ∷ cs) s t (suc k) h = keep_one-not cs s (second_true (keeps_one c s) (keep_one cs s) t) k (omega (arith, h))

-- no literal is in the set along with its negation
abbrev pub IsConsistentSet : Literals → Type 0
IsConsistentSet s = (l : ℕ) → s l ≡ true → s (negation l) ≡ true → ⊥

pub no_conflict : (clauses : List (List ℕ)) (s : Literals) → IsConsistentSet s → keep_one clauses s ≡ true → Conflict clauses s → ⊥
no_conflict clauses s c t (opposite l on also) = c l on also
no_conflict clauses s c t (falsified k h all) = keep_one-not clauses s t k h all

pub nothing_consistent : IsConsistentSet no_literal
nothing_consistent l on also = cc

pub one_consistent : (x : ℕ) → negation x ≢ x → IsConsistentSet (one x)
one_consistent x ne l on also = ne (ap negation (sym (equal l x on)) ∙ equal (negation l) x also)

pub two_consistent : (x y : ℕ) → negation x ≢ x → negation x ≢ y → negation y ≢ x → negation y ≢ y → IsConsistentSet (two x y)
two_consistent x y xx xy yx yy l on also =
    ⊎_elim
    (λ (a : (l == x) ≡ true).
    ⊎_elim
    (λ (b : (negation l == x) ≡ true). xx (ap negation (sym (equal l x a)) ∙ equal (negation l) x b))
    (λ (b : (negation l == y) ≡ true). xy (ap negation (sym (equal l x a)) ∙ equal (negation l) y b))
    (either_true (negation l == x) (negation l == y) also))
    (λ (a : (l == y) ≡ true).
    ⊎_elim
    (λ (b : (negation l == x) ≡ true). yx (ap negation (sym (equal l y a)) ∙ equal (negation l) x b))
    (λ (b : (negation l == y) ≡ true). yy (ap negation (sym (equal l y a)) ∙ equal (negation l) y b))
    (either_true (negation l == x) (negation l == y) also))
    (either_true (l == x) (l == y) on)

-- the rows

-- what a closed set has of the literal at a place of a clause all of whose others are negated
pub given : (clauses : List (List ℕ)) (s : Literals) → IsClosed clauses s → (k i : ℕ) → k < length clauses → i < length (get_or clauses k []) → others (get_or clauses k []) (get_or (get_or clauses k []) i 0) s ≡ true → s (get_or (get_or clauses k []) i 0) ≡ true
given clauses s c k i h below t = c k h i below (others_negated (get_or clauses k []) (get_or (get_or clauses k []) i 0) s t)

pub all_eight-implied : Implied all_eight no_literal (2 ∷ 4 ∷ [])
all_eight-implied s c holds all =
    let a : s 3 ≡ true = all 0 (omega arith) in
    let b : s 5 ≡ true = all 1 (omega arith) in
    let two_others : (s 3 && (s 5 && true)) ≡ true = both_true (s 3) (s 5 && true) a (both_true (s 5) true b refl) in
    opposite 6 (given all_eight s c 0 2 (omega arith) (omega arith) two_others) (given all_eight s c 1 2 (omega arith) (omega arith) two_others)

pub all_eight-not_implied : Implied all_eight no_literal (2 ∷ []) → ⊥
all_eight-not_implied implied =
    no_conflict all_eight (one 3) (one_consistent 3 (λ e. omega (arith, e))) refl (implied (one 3) (closed all_eight (one 3) refl) (λ l on. absurd (cc)) (λ i h. first_only i h))
  where
    first_only : (i : ℕ) → i < 1 → (negation (get_or (2 ∷ []) i 0) == 3) ≡ true
    first_only zero h = refl
    first_only (suc i) h = absurd (omega arith)

pub all_eight-free : MeetsConflict all_eight no_literal → ⊥
all_eight-free met = no_conflict all_eight no_literal nothing_consistent refl (met no_literal (closed all_eight no_literal refl) (λ l on. on))

some_true : (a : Valuation) (x y z i : ℕ) → i < 3 → literal_value a (get_or (x ∷ y ∷ z ∷ []) i 0) ≡ true → (literal_value a x || (literal_value a y || literal_value a z)) ≡ true
some_true a x y z zero h on = left_true (literal_value a x) (literal_value a y || literal_value a z) on
some_true a x y z (suc zero) h on = right_true (literal_value a x) (literal_value a y || literal_value a z) (left_true (literal_value a y) (literal_value a z) on)
some_true a x y z (suc (suc zero)) h on = right_true (literal_value a x) (literal_value a y || literal_value a z) (right_true (literal_value a y) (literal_value a z) on)
some_true a x y z (suc (suc (suc i))) h on = absurd (omega (arith, h))

not_all : (p q r : Bool) → (p || (q || r)) ≡ true → (p || (q || not r)) ≡ true → (p || (not q || r)) ≡ true → (p || (not q || not r)) ≡ true → (not p || (q || r)) ≡ true → (not p || (q || not r)) ≡ true → (not p || (not q || r)) ≡ true → (not p || (not q || not r)) ≡ true → ⊥
not_all true true true a b c d e f g h = cc
not_all true true false a b c d e f g h = cc
not_all true false true a b c d e f g h = cc
not_all true false false a b c d e f g h = cc
not_all false true true a b c d e f g h = cc
not_all false true false a b c d e f g h = cc
not_all false false true a b c d e f g h = cc
not_all false false false a b c d e f g h = cc

pub all_eight-unsatisfiable : IsUnsatisfiable (record { variables = 3; clauses = all_eight })
all_eight-unsatisfiable a sat =
    let c0 = sat 0 (omega arith) in
    let c1 = sat 1 (omega arith) in
    let c2 = sat 2 (omega arith) in
    let c3 = sat 3 (omega arith) in
    let c4 = sat 4 (omega arith) in
    let c5 = sat 5 (omega arith) in
    let c6 = sat 6 (omega arith) in
    let c7 = sat 7 (omega arith) in
    not_all (a 1) (a 2) (a 3) (some_true a 2 4 6 c0.0 c0.1 c0.2) (some_true a 2 4 7 c1.0 c1.1 c1.2) (some_true a 2 5 6 c2.0 c2.1 c2.2) (some_true a 2 5 7 c3.0 c3.1 c3.2)
    (some_true a 3 4 6 c4.0 c4.1 c4.2) (some_true a 3 4 7 c5.0 c5.1 c5.2) (some_true a 3 5 6 c6.0 c6.1 c6.2) (some_true a 3 5 7 c7.0 c7.1 c7.2)

pub twice-gives : (s : Literals) → IsClosedUnder (2 ∷ 2 ∷ []) s → s 2 ≡ true
twice-gives s c = c 0 (omega arith) (others_negated (2 ∷ 2 ∷ []) 2 s refl)

pub twice-implied : Implied twice no_literal (2 ∷ [])
twice-implied s c holds all = opposite 2 (twice-gives s (c 0 (omega arith))) (all 0 (omega arith))

pub twice-not_implied : Implied twice no_literal (4 ∷ []) → ⊥
twice-not_implied implied =
    no_conflict twice (two 2 5) (two_consistent 2 5 (λ e. omega (arith, e)) (λ e. omega (arith, e)) (λ e. omega (arith, e)) (λ e. omega (arith, e))) refl
    (implied (two 2 5) (closed twice (two 2 5) refl) (λ l on. absurd (cc)) five)
  where
    five : AllNegated (4 ∷ []) (two 2 5)
    five zero h = refl
    five (suc i) h = absurd (omega (arith, h))

pub negation-gives_nothing : IsClosedUnder (2 ∷ 3 ∷ []) no_literal
negation-gives_nothing = closed opposites no_literal refl 0 (omega arith)

pub negation-not_implied : Implied opposites no_literal (2 ∷ []) → ⊥
negation-not_implied implied = no_conflict opposites (one 3) (one_consistent 3 (λ e. omega (arith, e))) refl (implied (one 3) (closed opposites (one 3) refl) (λ l on. absurd (cc)) three)
  where
    three : AllNegated (2 ∷ []) (one 3)
    three zero h = refl
    three (suc i) h = absurd (omega (arith, h))

pub negation-implied : (clauses : List (List ℕ)) (s : Literals) → Implied clauses s (2 ∷ 3 ∷ [])
negation-implied clauses s t c holds all = opposite 2 (all 1 (omega arith)) (all 0 (omega arith))

pub chain-closure : IsClosure chain no_literal (two 2 4)
chain-closure = record {
  holds = λ l on. absurd (cc);
  closed = closed chain (two 2 4) refl;
  least = λ s c holds l on.
      let first : s 2 ≡ true = c 0 (omega arith) 0 (omega arith) (others_negated (2 ∷ []) 2 s refl) in
      let second : s 4 ≡ true = c 1 (omega arith) 1 (omega arith) (others_negated (3 ∷ 4 ∷ []) 4 s (both_true (s 2) true first refl)) in
      ⊎_elim (λ (e : (l == 2) ≡ true). ap s (equal l 2 e) ∙ first) (λ (e : (l == 4) ≡ true). ap s (equal l 4 e) ∙ second) (either_true (l == 2) (l == 4) on);
}
