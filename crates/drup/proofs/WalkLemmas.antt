-- Going through the list of a literal, and through a trail.
use Rattle.std.proofs.Common.{◌≡◌, ◌≢◌, ℕ, ◌+◌, ◌*◌, ◌/◌, ◌<◌, ◌≤◌, Bool, true, false, List, [], inl, inr, length, get_or, ⊎_elim, refl, sym, ap, subst, ◌∙◌, arith}
use Rattle.std.proofs.lemmas.Bool.{cases_eq, cases_lt, cases_Bool}
use Rattle.base.specs.Literal.{negation}
use Rattle.drup.specs.Marked.{Marked, set_of, IsConsistent, IsSettled, IsKept, IsPrefix, AreMarked, ArePlaced}
use Rattle.drup.specs.Growth.{GrowsMarked, AreSettled, AssumesAll, Extends, Finished}
use Rattle.drup.specs.Lists.{list_at}
use Rattle.drup.specs.Watched.{clause_at, IsWatched, IsMet, ArePassed, Processed, Walks, AdvancesWatch, Walked, AreMet, Propagated, Stays, UnitsMet}
use Rattle.drup.specs.Flat.{standing}
use Rattle.drup.proofs.StandingLemmas.{place_inside}
use Rattle.base.proofs.LiteralLemmas.{negation-negation, half-negation}
use Rattle.drup.proofs.PassLemmas.{Grows-begin, Grows-more}
use Rattle.drup.proofs.WatchLemmas.{place_of, settled_by_met, settled_by_two, other_inside, on_off}
use Rattle.std.specs.Prelude.{Contains, IsTrue, ◌↔◌, Result, Ok, Err, IfOk}
use Rattle.drup.specs.Propagation.{Implied}
use Rattle.drup.proofs.ConflictLemmas.{implied_exactly}
use Rattle.drup.proofs.TrailLemmas.{off_by}

pub Stays-begin : (watched : List ℕ) (m : Marked) → Stays watched watched m
Stays-begin watched m = record { as_many = refl; same = λ n h. inl refl }

pub Stays-more : (watched0 watched watched' : List ℕ) (old now : Marked) → Stays watched0 watched old → Stays watched watched' now → IsKept old now → Stays watched0 watched' old
Stays-more watched0 watched watched' old now s t kept = record {
  as_many = t.as_many ∙ s.as_many;
  same = λ n h.
      ⊎_elim
      (λ (e : get_or watched' n 0 ≡ get_or watched n 0).
      ⊎_elim
      (λ (f : get_or watched n 0 ≡ get_or watched0 n 0). inl (e ∙ f))
      (λ (off : set_of old (negation (get_or watched n 0)) ≡ false). inr (ap (λ (l : ℕ). set_of old (negation l)) e ∙ off))
      (s.same n (omega (arith, t.as_many))))
      (λ (off : set_of now (negation (get_or watched' n 0)) ≡ false). inr (off_by _ (λ on. on_off _ (kept _ on) off)))
      (t.same n h);
}

-- What rests on the marks at the start, for the watches as they are now.
pub AreMet-stays : (clauses : List (List ℕ)) (watched watched' : List ℕ) (m : Marked) → Stays watched watched' m → AreMet clauses watched m → AreMet clauses watched' m
AreMet-stays clauses watched watched' m s met n h on =
    ⊎_elim
    (λ (e : get_or watched' n 0 ≡ get_or watched n 0). met n (omega (arith, s.as_many)) (ap (λ (l : ℕ). set_of m (negation l)) (sym e) ∙ on))
    (λ (off : set_of m (negation (get_or watched' n 0)) ≡ false). absurd (on_off _ on off))
    (s.same n h)

pub Processed-root : (clauses : List (List ℕ)) (watched : List ℕ) (root m : Marked) → AreMet clauses watched root → AreMarked root → IsKept root m → IsPrefix root m → Processed clauses watched m (length root.order)
Processed-root clauses watched root m met marked kept prefix n j h below is =
    let was = met n h (ap (set_of root) (sym is ∙ prefix j below) ∙ marked j below) in
    (was.0, was.1, kept was.0 was.2)

pub record Walking (clauses : List (List ℕ)) (limit negated : ℕ) (watched0 : List ℕ) (old : Marked) (watched : List ℕ) (lists : List (List ℕ)) (now : Marked) (place : ℕ) : Type 0 where
  pub is_watched : IsWatched clauses watched lists limit
  pub grows : GrowsMarked clauses old now
  pub ahead : Walks clauses watched lists negated place now
  pub processed : (head : ℕ) → head ≤ length old.order → Processed clauses watched0 old head → Processed clauses watched now head
  pub stays : Stays watched0 watched old

pub Walking-begin : (clauses : List (List ℕ)) (limit negated : ℕ) (watched : List ℕ) (lists : List (List ℕ)) (m : Marked) → IsWatched clauses watched lists limit → IsConsistent m → negated < limit → Walking clauses limit negated watched m watched lists m 0
Walking-begin clauses limit negated watched lists m w c low = record {
  is_watched = w;
  grows = Grows-begin clauses m c;
  ahead = λ n h is.
      let there = subst (λ (l : ℕ). Contains (list_at lists l) n) is (w.listed n h (omega (arith, is, low))) in
      inr (there.0, omega arith, there.1, place_of (list_at lists negated) n there);
  processed = λ head room done. done;
  stays = Stays-begin watched m;
}

pub Walking-more : (clauses : List (List ℕ)) (limit negated : ℕ) (watched0 : List ℕ) (old : Marked) (watched : List ℕ) (lists : List (List ℕ)) (now : Marked) (place : ℕ) (watched' : List ℕ) (lists' : List (List ℕ)) (new : Marked) (next : ℕ)
    → Walking clauses limit negated watched0 old watched lists now place → IsWatched clauses watched' lists' limit → GrowsMarked clauses now new → AdvancesWatch clauses negated place watched lists now watched' lists' new next → Stays watched watched' now → Walking clauses limit negated watched0 old watched' lists' new next
Walking-more clauses limit negated watched0 old watched lists now place watched' lists' new next s w g a t = record {
  is_watched = w;
  grows = Grows-more clauses old now new s.grows g;
  ahead = a.ahead s.ahead;
  processed = λ head room done. a.processed head (omega (arith, s.grows.longer)) (s.processed head room done);
  stays = Stays-more watched0 watched watched' old now s.stays t s.grows.kept;
}

-- watches whose clauses' other watches are of marked literals are passed over
pub Walking-pass : (clauses : List (List ℕ)) (limit negated : ℕ) (watched0 : List ℕ) (old : Marked) (watched : List ℕ) (lists : List (List ℕ)) (now : Marked) (place next : ℕ) → Walking clauses limit negated watched0 old watched lists now place → negated < limit → ArePassed (list_at lists negated) watched place next now → Walking clauses limit negated watched0 old watched lists now next
Walking-pass clauses limit negated watched0 old watched lists now place next s low passed = record {
  is_watched = s.is_watched;
  grows = s.grows;
  ahead = λ n h is.
      let own = other_inside clauses watched lists limit n s.is_watched h (omega (arith, is, low)) in
      ⊎_elim
      (λ (met : IsMet (clause_at clauses n) now). inl met)
      (λ (far : (j : ℕ) × (place ≤ j) × (j < length (list_at lists negated)) × (get_or (list_at lists negated) j 0 ≡ n)).
      ⊎_elim
      (λ (before : far.0 < next). inl (get_or watched (negation n) 0, own.4, ap (λ (i : ℕ). set_of now (get_or watched (negation i) 0)) (sym far.3) ∙ (passed far.0 far.1 before).1))
      (λ (behind : next ≤ far.0). inr (far.0, behind, far.2, far.3))
      (cases_lt far.0 next))
      (s.ahead n h is);
  processed = s.processed;
  stays = s.stays;
}

pub Walking-end : (clauses : List (List ℕ)) (limit negated : ℕ) (watched0 : List ℕ) (old : Marked) (watched : List ℕ) (lists : List (List ℕ)) (now : Marked) (place : ℕ) → Walking clauses limit negated watched0 old watched lists now place → length (list_at lists negated) ≤ place → Walked clauses negated watched0 old watched now
Walking-end clauses limit negated watched0 old watched lists now place s over = record {
  all_met = λ n h is. ⊎_elim (λ (met : IsMet (clause_at clauses n) now). met) (λ (far : (j : ℕ) × (place ≤ j) × (j < length (list_at lists negated)) × (get_or (list_at lists negated) j 0 ≡ n)). absurd (omega (arith, far.1, far.2))) (s.ahead n h is);
  processed = s.processed;
  as_many = s.stays.as_many;
}

-- Along the trail.

pub record Propagating (clauses : List (List ℕ)) (limit head0 : ℕ) (watched0 : List ℕ) (old : Marked) (watched : List ℕ) (lists : List (List ℕ)) (now : Marked) (head : ℕ) : Type 0 where
  pub is_watched : IsWatched clauses watched lists limit
  pub grows : GrowsMarked clauses old now
  pub processed : Processed clauses watched now head
  pub within : head ≤ length now.order
  pub stays : Stays watched0 watched old
  pub from : head0 ≤ head

pub Propagating-more : (clauses : List (List ℕ)) (limit head0 : ℕ) (watched0 : List ℕ) (old : Marked) (watched : List ℕ) (lists : List (List ℕ)) (now : Marked) (head negated : ℕ) (watched' : List ℕ) (lists' : List (List ℕ)) (new : Marked)
    → Propagating clauses limit head0 watched0 old watched lists now head → head < length now.order → negated ≡ negation (get_or now.order head 0) → IsWatched clauses watched' lists' limit → GrowsMarked clauses now new → Walked clauses negated watched now watched' new → Stays watched watched' now → Propagating clauses limit head0 watched0 old watched' lists' new (head + 1)
Propagating-more clauses limit head0 watched0 old watched lists now head negated watched' lists' new p h at w g walked t = record {
  is_watched = w;
  grows = Grows-more clauses old now new p.grows g;
  processed = λ n j k below is.
      ⊎_elim
      (λ (e : j ≡ head).
      walked.all_met n k (sym (negation-negation (get_or watched' n 0)) ∙ ap negation (sym is ∙ ap (λ (i : ℕ). get_or new.order i 0) e ∙ g.prefix head h) ∙ sym at))
      (λ (ne : j ≢ head). walked.processed head p.within p.processed n j k (omega arith) is)
      (cases_eq j head);
  within = omega (arith, g.longer);
  stays = Stays-more watched0 watched watched' old now p.stays t p.grows.kept;
  from = omega (arith, p.from);
}

pub Propagating-end : (clauses : List (List ℕ)) (limit head0 : ℕ) (watched0 : List ℕ) (old : Marked) (watched : List ℕ) (lists : List (List ℕ)) (now : Marked) (head : ℕ) → Propagating clauses limit head0 watched0 old watched lists now head → length now.order ≤ head → ArePlaced now → AreMet clauses watched now
Propagating-end clauses limit head0 watched0 old watched lists now head p over placed n h on =
    let at = placed (negation (get_or watched n 0)) on in
    p.processed n at.0 h (omega (arith, at.1)) at.2

-- A position with a clause.
-- At the end every clause is settled.

module _ (clauses : List (List ℕ)) (watched : List ℕ) (lists : List (List ℕ)) (limit : ℕ) (m : Marked) (w : IsWatched clauses watched lists limit) (c : IsConsistent m) (met : AreMet clauses watched m) (units : UnitsMet clauses m) where
  same_watch : (k n : ℕ) → k < length clauses → get_or watched n 0 < limit → n / 2 ≡ k → n < length watched → get_or watched n 0 ≡ get_or watched (negation n) 0 → IsSettled (get_or clauses k []) (set_of m)
  same_watch k n h low half inside same =
      let clause = get_or clauses k [] in
      let one : (i : ℕ) → i < length clause → get_or clause i 0 ≡ get_or watched n 0 = subst (λ (k' : ℕ). (i : ℕ) → i < length (get_or clauses k' []) → get_or (get_or clauses k' []) i 0 ≡ get_or watched n 0) half (w.differ n inside same) in
      let some : Contains clause (get_or watched n 0) = subst (λ (k' : ℕ). Contains (get_or clauses k' []) (get_or watched n 0)) half (w.inside n inside low) in
      let first : 0 < length clause = omega (arith, some.1) in
      settled_by_met clause m c (units k h (first, λ i below. one i below ∙ sym (one 0 first)))

  by_met : (k n : ℕ) → n / 2 ≡ k → n < length watched → set_of m (negation (get_or watched n 0)) ≡ true → IsSettled (get_or clauses k []) (set_of m)
  by_met k n half inside on = settled_by_met (get_or clauses k []) m c (subst (λ (k' : ℕ). IsMet (get_or clauses k' []) m) half (met n inside on))

  pub all_settled : AreSettled clauses m
  all_settled k some =
      let h : k < length clauses = place_inside clauses k some in
      let n : ℕ = 2 * k in
      let half : n / 2 ≡ k = omega arith in
      let inside : n < length watched = omega (arith, w.two_each) in
      let low : get_or watched n 0 < limit = w.live n inside (subst (λ (k' : ℕ). 0 < length (get_or clauses k' [])) (sym half) some) in
      let other = other_inside clauses watched lists limit n w inside low in
      let half' : negation n / 2 ≡ k = half-negation n ∙ half in
      ⊎_elim
      (λ (same : get_or watched n 0 ≡ get_or watched (negation n) 0). same_watch k n h low half inside same)
      (λ (differ : get_or watched n 0 ≢ get_or watched (negation n) 0).
      ⊎_elim
      (λ (on : set_of m (negation (get_or watched n 0)) ≡ true). by_met k n half inside on)
      (λ (off : set_of m (negation (get_or watched n 0)) ≡ false).
      ⊎_elim
      (λ (on : set_of m (negation (get_or watched (negation n) 0)) ≡ true). by_met k (negation n) half' other.0 on)
      (λ (off' : set_of m (negation (get_or watched (negation n) 0)) ≡ false).
      settled_by_two (get_or clauses k []) m (get_or watched n 0) (get_or watched (negation n) 0)
      (subst (λ (k' : ℕ). Contains (get_or clauses k' []) (get_or watched n 0)) half (w.inside n inside low), off)
      (subst (λ (k' : ℕ). Contains (get_or clauses k' []) (get_or watched (negation n) 0)) half' (w.inside (negation n) other.0 other.3), off')
      differ)
      (cases_Bool (set_of m (negation (get_or watched (negation n) 0)))))
      (cases_Bool (set_of m (negation (get_or watched n 0)))))
      (cases_eq (get_or watched n 0) (get_or watched (negation n) 0))

pub units_kept : (clauses : List (List ℕ)) (old new : Marked) → IsKept old new → UnitsMet clauses old → UnitsMet clauses new
units_kept clauses old new kept met k h one = let was = met k h one in (was.0, was.1, kept was.0 was.2)

module _ (clauses : List (List ℕ)) (clause watched : List ℕ) (lists : List (List ℕ)) (limit : ℕ) (root assumed new : Marked) (units : UnitsMet clauses root) (a : AssumesAll clause (length clause) root assumed) (w : IsWatched clauses watched lists limit) (g : GrowsMarked clauses assumed new) where
  finished : (met : Bool) → Propagated clauses watched new met → Finished clauses assumed new met
  finished true f = (g, f)
  finished false met = (g, all_settled clauses watched lists limit new w g.consistent met (units_kept clauses root new (λ l on. g.kept l (a.kept l on)) units))

  pub exact_answer : {E : Type 0} (r : Result Bool E) → IfOk r (λ met. Propagated clauses watched new met) → IfOk r (λ met. IsTrue met ↔ Implied (standing clauses) (set_of root) clause)
  exact_answer (Ok met) p = implied_exactly clauses clause root assumed new met a (finished met p)
  exact_answer (Err e) p = tt

  pub extends : Extends root new
  extends = record {
    as_many = g.as_many ∙ a.as_many;
    longer = omega (arith, a.longer, g.longer);
    kept = λ l on. g.kept l (a.kept l on);
    prefix = λ j below. g.prefix j (omega (arith, a.longer)) ∙ a.prefix j below;
  }

  pub stays_root : (watched0 : List ℕ) → Stays watched0 watched assumed → Stays watched0 watched root
  stays_root watched0 t = Stays-more watched0 watched0 watched root assumed (Stays-begin watched0 root) t a.kept
