-- Clauses with the same literals, and the last of them.
use Rattle.std.proofs.Common.{eqb-true, ◌≡◌, ◌≢◌, ℕ, zero, suc, ◌+◌, ◌<◌, Bool, true, false, cond, List, [], ◌∷◌, ◌⊎◌, inl, inr, length, get_or, set, ⊎_elim, refl, sym, ap, subst, ◌∙◌, arith, zero-add}
use Rattle.std.specs.Prelude.{◌==◌, MatchBool}
use Rattle.std.specs.List.{remove}
use Rattle.std.proofs.lemmas.Bool.{cases_eq}
use Rattle.std.proofs.lemmas.List.{set-get_or}
use Rattle.std.proofs.lemmas.List.Sums.{sum_by-cons}
use Rattle.std.proofs.lemmas.Bool.Decides.{nat_tests}
use Rattle.drup.specs.Flat.{standing}
use Rattle.drup.specs.Without.{times, AreSameClause, NoneAlikeFrom, IsLastAlike, IsWithout}
use Rattle.drup.specs.Without.IsWithout.{last, none}
use Rattle.drup.proofs.StandingLemmas.{stood, place_inside}

pub times_here : (l x : ℕ) (xs : List ℕ) → x ≡ l → times l (x ∷ xs) ≡ 1 + times l xs
times_here l x xs e = let same : (x == l) ≡ true = grind (arith, nat_tests) in sum_by-cons (λ y. cond (y == l) 1 0) x xs ∙ ap (λ (b : Bool). cond b 1 0 + times l xs) same

pub times_behind : (l x : ℕ) (xs : List ℕ) → x ≢ l → times l (x ∷ xs) ≡ times l xs
times_behind l x xs ne = let other : (x == l) ≡ false = grind (arith, nat_tests) in sum_by-cons (λ y. cond (y == l) 1 0) x xs ∙ ap (λ (b : Bool). cond b 1 0 + times l xs) other ∙ zero-add (times l xs)

pub occurs : (l : ℕ) (xs : List ℕ) → ((i : ℕ) × (i < length xs) × (get_or xs i 0 ≡ l)) ⊎ (times l xs ≡ 0)
occurs l [] = inr refl
occurs l (x ∷ xs) =
    ⊎_elim
    (λ (e : x ≡ l). inl (0, omega arith, e))
    (λ (ne : x ≢ l).
    ⊎_elim
    (λ (own : (i : ℕ) × (i < length xs) × (get_or xs i 0 ≡ l)). inl (suc own.0, omega (arith, own.1), own.2))
    (λ (z : times l xs ≡ 0). inr (times_behind l x xs ne ∙ z))
    (occurs l xs))
    (cases_eq x l)

abbrev pub Agree : List ℕ → List ℕ → List ℕ → Type 0
Agree literals one other = (i : ℕ) → i < length literals → times (get_or literals i 0) one ≡ times (get_or literals i 0) other

pub alike : (one other : List ℕ) → Agree one one other → Agree other one other → AreSameClause one other
alike one other a b l =
    ⊎_elim
    (λ (own : (i : ℕ) × (i < length one) × (get_or one i 0 ≡ l)). subst (λ (x : ℕ). times x one ≡ times x other) own.2 (a own.0 own.1))
    (λ (z : times l one ≡ 0).
    ⊎_elim
    (λ (own : (i : ℕ) × (i < length other) × (get_or other i 0 ≡ l)). subst (λ (x : ℕ). times x one ≡ times x other) own.2 (b own.0 own.1))
    (λ (z' : times l other ≡ 0). z ∙ sym z')
    (occurs l other))
    (occurs l one)

pub alike_answer : (one other : List ℕ) (answer : Bool) → Agree one one other → MatchBool answer (Agree other one other) ((l : ℕ) × (times l one ≢ times l other)) → MatchBool answer (AreSameClause one other) (¬ AreSameClause one other)
alike_answer one other true a b = alike one other a b
alike_answer one other false a differ = λ all. differ.1 (all differ.0)

-- a clause with a literal is alike to none without
pub some_literal : (one other : List ℕ) → AreSameClause one other → 0 < length one → 0 < length other
some_literal [] other a h = absurd (omega (arith, h))
some_literal (x ∷ xs) [] a h = absurd (omega (arith, a x, times_here x x xs refl))
some_literal (x ∷ xs) (y ∷ ys) a h = omega arith

-- ---- the place of a clause among those that stand

record StandsAt (clauses : List (List ℕ)) (k j : ℕ) : Type 0 where
  inside : j < length (standing clauses)
  is : get_or (standing clauses) j [] ≡ get_or clauses k []
  left : standing (set clauses k []) ≡ remove (standing clauses) j
  later : (i : ℕ) → j < i → i < length (standing clauses) → (m : ℕ) × (k < m) × (0 < length (get_or clauses m [])) × (get_or clauses m [] ≡ get_or (standing clauses) i [])

stands_at : (clauses : List (List ℕ)) (k : ℕ) → 0 < length (get_or clauses k []) → (j : ℕ) × StandsAt clauses k j
stands_at [] zero some = absurd (omega arith)
stands_at [] (suc k) some = absurd (omega arith)
stands_at ([] ∷ cs) zero some = absurd (omega arith)
stands_at ([] ∷ cs) (suc k) some =
    let own = stands_at cs k some in
    (own.0, record { inside = own.1.inside; is = own.1.is; left = own.1.left; later = λ i low high. let m = own.1.later i low high in (suc m.0, omega (arith, m.1), m.2, m.3) })
stands_at ((l ∷ ls) ∷ cs) zero some = (
  0,
  record {
    inside = omega arith;
    is = refl;
    left = refl;
    later = λ i low high. first_later l ls cs i low high;
  },
)
  where
    first_later : (l : ℕ) (ls : List ℕ) (cs : List (List ℕ)) (i : ℕ) → 0 < i → i < length (standing ((l ∷ ls) ∷ cs)) → (m : ℕ) × (0 < m) × (0 < length (get_or ((l ∷ ls) ∷ cs) m [])) × (get_or ((l ∷ ls) ∷ cs) m [] ≡ get_or (standing ((l ∷ ls) ∷ cs)) i [])
    first_later l ls cs zero low high = absurd (omega (arith, low))
    first_later l ls cs (suc i) low high = let own = stood cs i (omega (arith, high)) in (suc own.0, omega arith, own.1, own.2)
stands_at ((l ∷ ls) ∷ cs) (suc k) some =
    let own = stands_at cs k some in (
      suc own.0,
      record {
        inside = omega (arith, own.1.inside);
        is = own.1.is;
        left = ap (λ (xs : List (List ℕ)). (l ∷ ls) ∷ xs) own.1.left;
        later = λ i low high. next_later l ls cs k own.0 own.1 i low high;
      },
    )
  where
    next_later : (l : ℕ) (ls : List ℕ) (cs : List (List ℕ)) (k j : ℕ) → StandsAt cs k j → (i : ℕ) → suc j < i → i < length (standing ((l ∷ ls) ∷ cs)) → (m : ℕ) × (suc k < m) × (0 < length (get_or ((l ∷ ls) ∷ cs) m [])) × (get_or ((l ∷ ls) ∷ cs) m [] ≡ get_or (standing ((l ∷ ls) ∷ cs)) i [])
    next_later l ls cs k j own zero low high = absurd (omega (arith, low))
    next_later l ls cs k j own (suc i) low high = let m = own.later i (omega (arith, low)) (omega (arith, high)) in (suc m.0, omega (arith, m.1), m.2, m.3)

taken_of : (clauses : List (List ℕ)) (clause : List ℕ) (k : ℕ) → 0 < length clause → IsLastAlike clauses clause k → IsWithout (standing clauses) clause (standing (set clauses k []))
taken_of clauses clause k some l =
    let at = stands_at clauses k (some_literal clause (get_or clauses k []) l.alike some) in
    last at.0
    (record {
      inside = at.1.inside;
      alike = subst (AreSameClause clause) (sym at.1.is) l.alike;
      later = λ i low high a.
          let m = at.1.later i (omega (arith, low)) high in
          l.later m.0 (omega (arith, m.1)) (place_inside clauses m.0 m.2) (subst (AreSameClause clause) (sym m.3) a);
    })
    at.1.left

pub none_taken : (clauses : List (List ℕ)) (clause : List ℕ) → NoneAlikeFrom clauses clause 0 → IsWithout (standing clauses) clause (standing clauses)
none_taken clauses clause n =
    none (λ j low high a. let own = stood clauses j high in n own.0 (omega arith) (place_inside clauses own.0 own.1) (subst (AreSameClause clause) (sym own.2) a)) refl

-- a clause without literals stands nowhere
pub none_without_literals : (clauses : List (List ℕ)) (clause : List ℕ) → length clause ≡ 0 → IsWithout (standing clauses) clause (standing clauses)
none_without_literals clauses clause z =
    none (λ j low high a. let own = stood clauses j high in absurd (omega (arith, z, some_literal (get_or (standing clauses) j []) clause (λ l. sym (a l)) (omega (arith, own.1, ap length own.2))))) refl

no_literal : (clause : List ℕ) → length clause ≡ 0 → clause ≡ []
no_literal [] z = refl
no_literal (x ∷ xs) z = absurd (omega (arith, z))

-- the last clause that is alike taken away; where there are no literals, it stood nowhere
pub taken : (clauses : List (List ℕ)) (clause : List ℕ) (k : ℕ) → IsLastAlike clauses clause k → IsWithout (standing clauses) clause (standing (set clauses k []))
taken clauses clause k l =
    ⊎_elim
    (λ (z : length clause ≡ 0).
    let gone : get_or clauses k [] ≡ [] = no_literal (get_or clauses k []) (⊎_elim (λ (e : length (get_or clauses k []) ≡ 0). e) (λ (ne : length (get_or clauses k []) ≢ 0). absurd (omega (arith, z, some_literal (get_or clauses k []) clause (λ x. sym (l.alike x)) (omega (arith, ne))))) (cases_eq (length (get_or clauses k [])) 0)) in
    let same : set clauses k [] ≡ clauses = ap (set clauses k) (sym gone) ∙ set-get_or clauses k [] in
    subst (λ (cs : List (List ℕ)). IsWithout (standing clauses) clause (standing cs)) (sym same) (none_without_literals clauses clause z))
    (λ (ne : length clause ≢ 0). taken_of clauses clause k (omega (arith, ne)) l)
    (cases_eq (length clause) 0)

pub no_length : (xs : List ℕ) → true ≡ (length xs == 0) → length xs ≡ 0
no_length [] h = refl
no_length (x ∷ xs) h = absurd (omega (arith, eqb-true (suc (length xs)) 0 (sym h)))

pub some_length : (xs : List ℕ) → false ≡ (length xs == 0) → 0 < length xs
some_length [] h = let never : false ≡ true = h in absurd (cc)
some_length (x ∷ xs) h = omega arith

-- what is left of clauses without one is left without one that is alike to it
pub without_alike : (clauses : List (List ℕ)) (one other : List ℕ) (left : List (List ℕ)) → AreSameClause one other → IsWithout clauses other left → IsWithout clauses one left
without_alike clauses one other left same (last k l is) =
    last k (record {
      inside = l.inside;
      alike = λ x. same x ∙ l.alike x;
      later = λ j low high a. l.later j low high (λ x. sym (same x) ∙ a x);
    }) is
without_alike clauses one other left same (none n is) = none (λ j low high a. n j low high (λ x. sym (same x) ∙ a x)) is
