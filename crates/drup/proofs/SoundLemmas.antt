-- Unit propagation is sound.
use Rattle.std.proofs.Common.{◌≡◌, ◌≢◌, ℕ, zero, suc, ◌<◌, ◌≤◌, true, false, not, List, [], ◌∷◌, ◌++◌, ◌⊎◌, inl, inr, length, get_or, ⊎_elim, sym, ap, subst, ◌∙◌, arith, length-append}
use Rattle.std.proofs.lemmas.Bool.{cases_eq, cases_lt, cases_Bool}
use Rattle.base.specs.Literal.{negation, Valuation, literal_value}
use Rattle.drup.specs.Formula.{SatisfiesClause, SatisfiesClauses}
use Rattle.drup.specs.Propagation.{Literals, AllNegated, IsClosedUnder, IsClosed, Conflict, Implied, MeetsConflict, IsModel}
use Rattle.drup.specs.Propagator.{State, Extended, in_list}
use Rattle.std.proofs.lemmas.List.{get_or_append_left}
use Rattle.std.proofs.Math.Seq.{get_or-append_seam}
use Rattle.drup.specs.Propagation.Conflict.{opposite, falsified}
use Rattle.base.proofs.LiteralLemmas.{literal_value-negation}

both : (a : Valuation) (l : ℕ) → literal_value a l ≡ true → literal_value a (negation l) ≡ true → ⊥
both a l on also = let off : literal_value a (negation l) ≡ false = literal_value-negation a l ∙ ap not on in cc

pub true_closed : (a : Valuation) (clause : List ℕ) → SatisfiesClause a clause → IsClosedUnder clause (literal_value a)
true_closed a clause sat i h others =
    ⊎_elim
    (λ (e : get_or clause sat.0 0 ≡ get_or clause i 0). ap (literal_value a) (sym e) ∙ sat.2)
    (λ (ne : get_or clause sat.0 0 ≢ get_or clause i 0). absurd (both a (get_or clause sat.0 0) sat.2 (others sat.0 sat.1 ne)))
    (cases_eq (get_or clause sat.0 0) (get_or clause i 0))

no_conflict : (a : Valuation) (clauses : List (List ℕ)) → SatisfiesClauses a clauses → Conflict clauses (literal_value a) → ⊥
no_conflict a clauses sat (opposite l on also) = both a l on also
no_conflict a clauses sat (falsified k h all) = let own = sat k h in both a (get_or (get_or clauses k []) own.0 0) own.2 (all own.0 own.1)

later : (a : Valuation) (l : ℕ) (ls : List ℕ) → literal_value a (negation l) ≡ true → AllNegated ls (literal_value a) → AllNegated (l ∷ ls) (literal_value a)
later a l ls own all zero h = own
later a l ls own all (suc i) h = all i (omega arith)

-- the first true literal of a clause, or all are false
find_true : (a : Valuation) (clause : List ℕ) → SatisfiesClause a clause ⊎ AllNegated clause (literal_value a)
find_true a [] = inr (λ i h. absurd (omega arith))
find_true a (l ∷ ls) =
    ⊎_elim
    (λ (on : literal_value a l ≡ true). inl (0, omega arith, on))
    (λ (off : literal_value a l ≡ false).
    ⊎_elim
    (λ (s : SatisfiesClause a ls). inl (suc s.0, omega (arith, s.1), s.2))
    (λ (all : AllNegated ls (literal_value a)). inr (later a l ls (literal_value-negation a l ∙ ap not off) all))
    (find_true a ls))
    (cases_Bool (literal_value a l))

pub true_closed_all : (a : Valuation) (clauses : List (List ℕ)) → SatisfiesClauses a clauses → IsClosed clauses (literal_value a)
true_closed_all a clauses sat k h = true_closed a (get_or clauses k []) (sat k h)

pub satisfies_more : (a : Valuation) (clauses : List (List ℕ)) (clause : List ℕ) → SatisfiesClauses a clauses → SatisfiesClause a clause → SatisfiesClauses a (clauses ++ clause ∷ [])
satisfies_more a clauses clause sat own k h =
    ⊎_elim
    (λ (old : k < length clauses). subst (SatisfiesClause a) (sym (get_or_append_left clauses (clause ∷ []) [] k old)) (sat k old))
    (λ (late : length clauses ≤ k).
    let e : k ≡ length clauses = omega (arith, h, late, length-append clauses (clause ∷ [])) in
    let is : get_or (clauses ++ clause ∷ []) k [] ≡ clause = ap (λ (i : ℕ). get_or (clauses ++ clause ∷ []) i []) e ∙ get_or-append_seam clauses clause [] [] in
    subst (SatisfiesClause a) (sym is) own)
    (cases_lt k (length clauses))

pub is_satisfied : (clauses : List (List ℕ)) (given : Literals) (clause : List ℕ) → Implied clauses given clause → (a : Valuation) → IsModel a clauses given → SatisfiesClause a clause
is_satisfied clauses given clause implied a model =
    ⊎_elim
    (λ (s : SatisfiesClause a clause). s)
    (λ (all : AllNegated clause (literal_value a)). absurd (no_conflict a clauses model.satisfies (implied (literal_value a) (true_closed_all a clauses model.satisfies) model.holds all)))
    (find_true a clause)

pub is_unsatisfied : (clauses : List (List ℕ)) (given : Literals) → MeetsConflict clauses given → (a : Valuation) → IsModel a clauses given → ⊥
is_unsatisfied clauses given met a model = no_conflict a clauses model.satisfies (met (literal_value a) (true_closed_all a clauses model.satisfies) model.holds)

pub model_after : (old : State) (clause : List ℕ) (new : State) → Extended old clause new → (a : Valuation) → IsModel a old.clauses (in_list old.followed) → SatisfiesClause a clause → IsModel a new.clauses (in_list new.followed)
model_after old clause new x a model own =
    let sat : SatisfiesClauses a new.clauses = subst (λ (cs : List (List ℕ)). SatisfiesClauses a cs) (sym x.clauses) (satisfies_more a old.clauses clause model.satisfies own) in
    record { satisfies = sat; holds = x.closure.least (literal_value a) (true_closed_all a new.clauses sat) model.holds }
