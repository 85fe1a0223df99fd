-- A clause taken away.
use Rattle.std.proofs.Common.{◌≡◌, ◌≢◌, ℕ, ◌+◌, ◌*◌, ◌/◌, ◌%◌, ◌<◌, ◌≤◌, List, [], length, get_or, set, ⊎_elim, refl, sym, ap, subst, ◌∙◌, arith}
use Rattle.std.proofs.lemmas.Bool.{cases_eq, cases_lt}
use Rattle.std.proofs.lemmas.List.{get_or_past, get_or-set_same, get_or-set_other, length-set}
use Rattle.std.proofs.lemmas.List.Elements.{All-nil, All-set}
use Rattle.std.specs.Prelude.{All, Contains}
use Rattle.drup.specs.Marked.{Marked, set_of}
use Rattle.drup.proofs.TrailLemmas.{is_inside}
use Rattle.drup.specs.Propagator.{KeepsPropagator}
use Rattle.base.specs.Literal.{negation}
use Rattle.drup.specs.Lists.{list_at}
use Rattle.drup.specs.Watched.{clause_at, IsWatched, IsUnit, AreMet, UnitsMet, IsMet}
use Rattle.base.proofs.LiteralLemmas.{negation-inside, half-negation, negation-negation}

-- A clause is taken away: its position has none, and its two watches are set to what is no literal. Lists and marks stay.

module _ (clauses : List (List ℕ)) (watched : List ℕ) (lists : List (List ℕ)) (limit k none : ℕ) (w : IsWatched clauses watched lists limit) (high : limit ≤ none) where
  abbrev pub without : List (List ℕ)
  without = set clauses k []

  abbrev pub unwatched : List ℕ
  unwatched = set (set watched (2 * k) none) (2 * k + 1) none

  many_unwatched : length unwatched ≡ length watched
  many_unwatched = length-set (set watched (2 * k) none) (2 * k + 1) none ∙ length-set watched (2 * k) none

  -- a watch that still watches is one of another clause, and as it was
  still : (n : ℕ) → n < length watched → get_or unwatched n 0 < limit → (get_or unwatched n 0 ≡ get_or watched n 0) × (n / 2 ≢ k)
  still n h low =
      ⊎_elim
      (λ (e : n ≡ 2 * k + 1). let is : get_or unwatched n 0 ≡ none = ap (λ (i : ℕ). get_or unwatched i 0) e ∙ get_or-set_same (set watched (2 * k) none) (2 * k + 1) none 0 (omega (arith, e, h, length-set watched (2 * k) none)) in absurd (omega (arith, is, low, high)))
      (λ (ne : n ≢ 2 * k + 1).
      let first = get_or-set_other (set watched (2 * k) none) (2 * k + 1) n none 0 ne in
      ⊎_elim
      (λ (e : n ≡ 2 * k). let is : get_or unwatched n 0 ≡ none = first ∙ ap (λ (i : ℕ). get_or (set watched (2 * k) none) i 0) e ∙ get_or-set_same watched (2 * k) none 0 (omega (arith, e, h)) in absurd (omega (arith, is, low, high)))
      (λ (no : n ≢ 2 * k). (first ∙ get_or-set_other watched (2 * k) n none 0 no, omega arith))
      (cases_eq n (2 * k)))
      (cases_eq n (2 * k + 1))

  other_same : (n : ℕ) → n / 2 ≢ k → get_or unwatched n 0 ≡ get_or watched n 0
  other_same n ne = get_or-set_other (set watched (2 * k) none) (2 * k + 1) n none 0 (omega arith) ∙ get_or-set_other watched (2 * k) n none 0 (omega arith)

  other_clause : (n : ℕ) → n / 2 ≢ k → clause_at without n ≡ clause_at clauses n
  other_clause n ne = get_or-set_other clauses k (n / 2) [] [] ne

  own_empty : (i : ℕ) → i ≡ k → length (get_or without i []) ≡ 0
  own_empty i e =
      ⊎_elim
      (λ (h : k < length clauses). ap length (ap (λ (j : ℕ). get_or without j []) e ∙ get_or-set_same clauses k [] [] h))
      (λ (late : length clauses ≤ k). ap length (get_or_past without i [] (omega (arith, e, late, length-set clauses k []))))
      (cases_lt k (length clauses))

  pub IsWatched-delete : IsWatched without unwatched lists limit
  IsWatched-delete = record {
    two_each = omega (arith, many_unwatched, w.two_each, length-set clauses k []);
    many_lists = w.many_lists;
    inside = λ n h low.
        let s = still n (omega (arith, many_unwatched)) low in
        subst (λ (c : List ℕ). Contains c (get_or unwatched n 0)) (sym (other_clause n s.1)) (subst (λ (x : ℕ). Contains (clause_at clauses n) x) (sym s.0) (w.inside n (omega (arith, many_unwatched)) (omega (arith, low, s.0))));
    listed = λ n h low.
        let s = still n (omega (arith, many_unwatched)) low in
        subst (λ (x : ℕ). Contains (list_at lists x) n) (sym s.0) (w.listed n (omega (arith, many_unwatched)) (omega (arith, low, s.0)));
    live = λ n h some.
        ⊎_elim
        (λ (e : n / 2 ≡ k). absurd (omega (arith, some, own_empty (n / 2) e)))
        (λ (ne : n / 2 ≢ k). omega (arith, other_same n ne, w.live n (omega (arith, many_unwatched)) (omega (arith, some, ap length (other_clause n ne)))))
        (cases_eq (n / 2) k);
    differ = λ n h same i below.
        ⊎_elim
        (λ (e : n / 2 ≡ k). absurd (omega (arith, below, own_empty (n / 2) e)))
        (λ (ne : n / 2 ≢ k).
        let half : negation n / 2 ≢ k = λ f. ne (sym (half-negation n) ∙ f) in
        ap (λ (c : List ℕ). get_or c i 0) (other_clause n ne) ∙ w.differ n (omega (arith, many_unwatched)) (sym (other_same n ne) ∙ same ∙ other_same (negation n) half) i (omega (arith, below, ap length (other_clause n ne))) ∙ sym (other_same n ne))
        (cases_eq (n / 2) k);
  }

  -- marks stand below the limit, and a watch of what is no literal is not negated
  pub AreMet-delete : (m : Marked) → length m.marks ≡ limit → limit % 2 ≡ 0 → AreMet clauses watched m → AreMet without unwatched m
  AreMet-delete m many even met n h on =
      let low' : negation (get_or unwatched n 0) < limit = omega (arith, many, is_inside m.marks (negation (get_or unwatched n 0)) on) in
      let low : get_or unwatched n 0 < limit = subst (λ (l : ℕ). l < limit) (negation-negation (get_or unwatched n 0)) (negation-inside (negation (get_or unwatched n 0)) limit even low') in
      let s = still n (omega (arith, many_unwatched)) low in
      subst (λ (c : List ℕ). IsMet c m) (sym (other_clause n s.1)) (met n (omega (arith, many_unwatched)) (ap (λ (l : ℕ). set_of m (negation l)) (sym s.0) ∙ on))

  pub UnitsMet-delete : (m : Marked) → UnitsMet clauses m → UnitsMet without m
  UnitsMet-delete m met i h one =
      ⊎_elim
      (λ (e : i ≡ k). absurd (omega (arith, one.0, own_empty i e)))
      (λ (ne : i ≢ k). let is = get_or-set_other clauses k i [] [] ne in subst (λ (c : List ℕ). IsMet c m) (sym is) (met i (omega (arith, h, length-set clauses k [])) (subst IsUnit is one)))
      (cases_eq i k)

pub KeepsPropagator-delete : (clauses : List (List ℕ)) (watched : List ℕ) (lists : List (List ℕ)) (trail : Marked) (k : ℕ) → KeepsPropagator clauses watched lists trail → KeepsPropagator (set clauses k []) (set (set watched (2 * k) 4294967295) (2 * k + 1) 4294967295) lists trail
KeepsPropagator-delete clauses watched lists trail k f =
    let high : length trail.marks ≤ 4294967295 = omega (arith, f.low) in
    record {
      even = f.even;
      inside = All-set (All (λ l. l < length trail.marks)) clauses k [] (All-nil (λ l. l < length trail.marks)) f.inside;
      consistent = f.consistent;
      low = f.low;
      are_watched = IsWatched-delete clauses watched lists (length trail.marks) k 4294967295 f.are_watched high;
      are_met = AreMet-delete clauses watched lists (length trail.marks) k 4294967295 f.are_watched high trail refl f.even f.are_met;
      units_met = UnitsMet-delete clauses watched lists (length trail.marks) k 4294967295 f.are_watched high trail f.units_met;
    }
