-- The clauses that stand, put together anew.
use Rattle.std.proofs.Common.{◌≡◌, ℕ, ◌+◌, ◌*◌, ◌/◌, ◌%◌, ◌<◌, List, [], ◌∷◌, ◌++◌, length, get_or, take, sym, ap, subst, ◌∙◌, arith}
use Rattle.std.proofs.lemmas.List.{take_more}
use Rattle.std.specs.Prelude.{Contains}
use Rattle.base.specs.Literal.{negation}
use Rattle.drup.specs.Marked.{Marked}
use Rattle.drup.specs.Flat.{standing}
use Rattle.drup.specs.Watched.{clause_at, IsWatched, IsMet, AreMet, UnitsMet, CanWatch}
use Rattle.base.proofs.LiteralLemmas.{negation-even}
use Rattle.drup.proofs.StandingLemmas.{standing-append, standing-push}

-- a clause that stands can watch what it watches
pub can_watch_still : (clauses : List (List ℕ)) (watched : List ℕ) (lists : List (List ℕ)) (limit : ℕ) (m : Marked) (k : ℕ) → IsWatched clauses watched lists limit → AreMet clauses watched m → UnitsMet clauses m → k < length clauses → 0 < length (get_or clauses k []) → CanWatch (get_or clauses k []) (get_or watched (2 * k) 0) (get_or watched (2 * k + 1) 0) m
can_watch_still clauses watched lists limit m k w met units h some =
    let half : (2 * k) / 2 ≡ k = omega arith in
    let half' : (2 * k + 1) / 2 ≡ k = omega arith in
    let at : clause_at clauses (2 * k) ≡ get_or clauses k [] = ap (λ (i : ℕ). get_or clauses i []) half in
    let at' : clause_at clauses (2 * k + 1) ≡ get_or clauses k [] = ap (λ (i : ℕ). get_or clauses i []) half' in
    let low : 2 * k < length watched = omega (arith, h, w.two_each) in
    let low' : 2 * k + 1 < length watched = omega (arith, h, w.two_each) in
    let even : (2 * k) % 2 ≡ 0 = omega arith in
    let other : negation (2 * k) ≡ 2 * k + 1 = negation-even (2 * k) even in
    record {
      first_in = subst (λ (c : List ℕ). Contains c (get_or watched (2 * k) 0)) at (w.inside (2 * k) low (w.live (2 * k) low (omega (arith, some, ap length at))));
      second_in = subst (λ (c : List ℕ). Contains c (get_or watched (2 * k + 1) 0)) at' (w.inside (2 * k + 1) low' (w.live (2 * k + 1) low' (omega (arith, some, ap length at'))));
      only = λ same i below.
          ap (λ (c : List ℕ). get_or c i 0) (sym at)
          ∙ w.differ (2 * k) low (sym same ∙ ap (λ (n : ℕ). get_or watched n 0) (sym other)) i (omega (arith, below, ap length at));
      first_met = λ on. subst (λ (c : List ℕ). IsMet c m) at (met (2 * k) low on);
      second_met = λ on. subst (λ (c : List ℕ). IsMet c m) at' (met (2 * k + 1) low' on);
      unit_met = λ unit. units k h unit;
    }

-- and what it watches is below the limit
pub watch_below : (clauses : List (List ℕ)) (watched : List ℕ) (lists : List (List ℕ)) (limit : ℕ) (k n : ℕ) → IsWatched clauses watched lists limit → k < length clauses → 0 < length (get_or clauses k []) → n / 2 ≡ k → get_or watched n 0 < limit
watch_below clauses watched lists limit k n w h some half =
    let at : clause_at clauses n ≡ get_or clauses k [] = ap (λ (i : ℕ). get_or clauses i []) half in
    w.live n (omega (arith, h, w.two_each, half)) (omega (arith, some, ap length at))

-- the clauses that stand with one place more
pub standing-more : (clauses : List (List ℕ)) (k : ℕ) → k < length clauses → standing (take k clauses) ++ standing (get_or clauses k [] ∷ []) ≡ standing (take (k + 1) clauses)
standing-more clauses k h = sym (standing-append (take k clauses) (get_or clauses k [] ∷ [])) ∙ ap standing (sym (take_more clauses k [] h))

-- a clause without literals stands nowhere, and one with a literal stands
pub stands_alone : (clause : List ℕ) → 0 < length clause → standing (clause ∷ []) ≡ clause ∷ []
stands_alone clause some = standing-push [] clause some
