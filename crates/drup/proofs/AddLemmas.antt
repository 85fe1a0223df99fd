-- A clause put behind the others.
use Rattle.std.proofs.Common.{◌≡◌, ◌≢◌, ℕ, ◌+◌, ◌*◌, ◌/◌, ◌%◌, ◌<◌, ◌≤◌, true, false, List, [], ◌∷◌, ◌++◌, ◌⊎◌, inl, inr, length, get_or, take, ⊎_elim, refl, sym, ap, subst, ◌∙◌, arith, length-append}
use Rattle.std.proofs.lemmas.Bool.{cases_eq, cases_lt}
use Rattle.std.proofs.lemmas.List.{get_or_append_left}
use Rattle.std.proofs.lemmas.List.Elements.{All-append, All-cons, All-nil, All-contains}
use Rattle.std.proofs.Math.Seq.{get_or-append_seam}
use Rattle.std.specs.Prelude.{All, Contains}
use Rattle.drup.specs.Marked.{Marked, set_of, AreMarked, ArePlaced}
use Rattle.drup.specs.Growth.{Extends, GrowsMarked, GrowsBy, Falsifies, AreSettled}
use Rattle.drup.proofs.TrailLemmas.{same_order, prefix_take}
use Rattle.drup.proofs.WalkLemmas.{AreMet-stays, all_settled, units_kept}
use Rattle.drup.proofs.ConflictLemmas.{no_conflict, falsified_standing, settled_closed}
use Rattle.drup.proofs.StandingLemmas.{closed_places, standing-push}
use Rattle.drup.specs.Propagation.{Literals, AllNegated, IsClosed, IsClosedUnder, Conflict, MeetsConflict}
use Rattle.drup.specs.Propagation.Conflict.{opposite, falsified}
use Rattle.drup.specs.Propagator.{State, KeepsPropagator, Extended}
use Rattle.drup.specs.Added.{Added, Unchanged}
use Rattle.drup.proofs.WatchLemmas.{place_of, on_off}
use Rattle.base.specs.Literal.{negation}
use Rattle.drup.specs.Flat.{standing}
use Rattle.drup.specs.Lists.{list_at, IsListed}
use Rattle.drup.specs.Watched.{clause_at, IsWatched, IsUnit, Stays, AreMet, UnitsMet, IsMet, Chosen, CanWatch}
use Rattle.base.proofs.LiteralLemmas.{negation-inside, negation-even, negation-odd}
use Rattle.drup.proofs.PassLemmas.{Grows-by}

-- A clause that was there, and the last.

module _ (clauses : List (List ℕ)) (clause : List ℕ) where
  pub old_clause : (k : ℕ) → k < length clauses → get_or (clauses ++ clause ∷ []) k [] ≡ get_or clauses k []
  old_clause k h = get_or_append_left clauses (clause ∷ []) [] k h

  pub last_clause : (k : ℕ) → k ≡ length clauses → get_or (clauses ++ clause ∷ []) k [] ≡ clause
  last_clause k e = ap (λ (i : ℕ). get_or (clauses ++ clause ∷ []) i []) e ∙ get_or-append_seam clauses clause [] []

  -- The watches of the clauses that were there, and the two of the last.
  module _ (watched : List ℕ) (lists lists' : List (List ℕ)) (limit first second : ℕ) (w : IsWatched clauses watched lists limit) (l : IsListed lists lists') (at_first : Contains (list_at lists' first) (2 * length clauses)) (at_second : Contains (list_at lists' second) (2 * length clauses + 1))
      (first_in : Contains clause first) (second_in : Contains clause second) (only : second ≡ first → (i : ℕ) → i < length clause → get_or clause i 0 ≡ first) (low_first : first < limit) (low_second : second < limit) where
    abbrev two : List ℕ
    two = (watched ++ first ∷ []) ++ second ∷ []

    many_two : length two ≡ length watched + 2
    many_two = omega (arith, length-append (watched ++ first ∷ []) (second ∷ []), length-append watched (first ∷ []))

    old_watch : (n : ℕ) → n < length watched → get_or two n 0 ≡ get_or watched n 0
    old_watch n h = get_or_append_left (watched ++ first ∷ []) (second ∷ []) 0 n (omega (arith, length-append watched (first ∷ []))) ∙ get_or_append_left watched (first ∷ []) 0 n h

    first_watch : (n : ℕ) → n ≡ length watched → get_or two n 0 ≡ first
    first_watch n e = get_or_append_left (watched ++ first ∷ []) (second ∷ []) 0 n (omega (arith, length-append watched (first ∷ []))) ∙ ap (λ (i : ℕ). get_or (watched ++ first ∷ []) i 0) e ∙ get_or-append_seam watched first [] 0

    second_watch : (n : ℕ) → n ≡ length watched + 1 → get_or two n 0 ≡ second
    second_watch n e =
        let is : n ≡ length (watched ++ first ∷ []) = omega (arith, length-append watched (first ∷ [])) in
        ap (λ (i : ℕ). get_or two i 0) is ∙ get_or-append_seam (watched ++ first ∷ []) second [] 0

    old_at : (n : ℕ) → n < length watched → clause_at (clauses ++ clause ∷ []) n ≡ clause_at clauses n
    old_at n h = old_clause (n / 2) (omega (arith, w.two_each))

    last_at : (n : ℕ) → length watched ≤ n → n < length two → clause_at (clauses ++ clause ∷ []) n ≡ clause
    last_at n low high = last_clause (n / 2) (omega (arith, w.two_each, many_two))

    data_of : (n : ℕ) → n < length two → (n < length watched) ⊎ ((n ≡ length watched) ⊎ (n ≡ length watched + 1))
    data_of n h =
        ⊎_elim (λ (old : n < length watched). inl old)
        (λ (rest : length watched ≤ n). inr (⊎_elim (λ (e : n ≡ length watched). inl e) (λ (ne : n ≢ length watched). inr (omega (arith, many_two))) (cases_eq n (length watched))))
        (cases_lt n (length watched))

    pub IsWatched-add : IsWatched (clauses ++ clause ∷ []) two lists' limit
    IsWatched-add = record {
      two_each = omega (arith, many_two, w.two_each, length-append clauses (clause ∷ []));
      many_lists = l.as_many ∙ w.many_lists;
      live = λ n h some.
          ⊎_elim
          (λ (old : n < length watched). omega (arith, old_watch n old, w.live n old (omega (arith, some, ap length (old_at n old)))))
          (λ (new : (n ≡ length watched) ⊎ (n ≡ length watched + 1)).
          ⊎_elim
          (λ (e : n ≡ length watched). omega (arith, first_watch n e, low_first))
          (λ (e : n ≡ length watched + 1). omega (arith, second_watch n e, low_second))
          new)
          (data_of n h);
      inside = λ n h low.
          ⊎_elim
          (λ (old : n < length watched). subst (λ (c : List ℕ). Contains c (get_or two n 0)) (sym (old_at n old)) (subst (λ (x : ℕ). Contains (clause_at clauses n) x) (sym (old_watch n old)) (w.inside n old (omega (arith, low, old_watch n old)))))
          (λ (new : (n ≡ length watched) ⊎ (n ≡ length watched + 1)).
          ⊎_elim
          (λ (e : n ≡ length watched). subst (λ (c : List ℕ). Contains c (get_or two n 0)) (sym (last_at n (omega arith) h)) (subst (λ (x : ℕ). Contains clause x) (sym (first_watch n e)) first_in))
          (λ (e : n ≡ length watched + 1). subst (λ (c : List ℕ). Contains c (get_or two n 0)) (sym (last_at n (omega arith) h)) (subst (λ (x : ℕ). Contains clause x) (sym (second_watch n e)) second_in))
          new)
          (data_of n h);
      listed = λ n h low.
          ⊎_elim
          (λ (old : n < length watched). subst (λ (x : ℕ). Contains (list_at lists' x) n) (sym (old_watch n old)) (l.kept (get_or watched n 0) n (w.listed n old (omega (arith, low, old_watch n old)))))
          (λ (new : (n ≡ length watched) ⊎ (n ≡ length watched + 1)).
          ⊎_elim
          (λ (e : n ≡ length watched). let is : 2 * length clauses ≡ n = omega (arith, w.two_each) in subst (λ (x : ℕ). Contains (list_at lists' x) n) (sym (first_watch n e)) (subst (λ (m : ℕ). Contains (list_at lists' first) m) is at_first))
          (λ (e : n ≡ length watched + 1). let is : 2 * length clauses + 1 ≡ n = omega (arith, w.two_each) in subst (λ (x : ℕ). Contains (list_at lists' x) n) (sym (second_watch n e)) (subst (λ (m : ℕ). Contains (list_at lists' second) m) is at_second))
          new)
          (data_of n h);
      differ = λ n h same.
          ⊎_elim
          (λ (old : n < length watched).
          let even : length watched % 2 ≡ 0 = omega (arith, w.two_each) in
          let other : negation n < length watched = negation-inside n (length watched) even old in
          λ i k. ap (λ (c : List ℕ). get_or c i 0) (old_at n old) ∙ w.differ n old (sym (old_watch n old) ∙ same ∙ old_watch (negation n) other) i (omega (arith, k, ap length (old_at n old))) ∙ sym (old_watch n old))
          (λ (new : (n ≡ length watched) ⊎ (n ≡ length watched + 1)).
          ⊎_elim
          (λ (e : n ≡ length watched).
          let even : n % 2 ≡ 0 = omega (arith, w.two_each) in
          let other : negation n ≡ length watched + 1 = omega (arith, negation-even n even) in
          let equal : second ≡ first = sym (second_watch (negation n) other) ∙ sym same ∙ first_watch n e in
          λ i k. ap (λ (c : List ℕ). get_or c i 0) (last_at n (omega arith) h) ∙ only equal i (omega (arith, k, ap length (last_at n (omega arith) h))) ∙ sym (first_watch n e))
          (λ (e : n ≡ length watched + 1).
          let odd : n % 2 ≢ 0 = omega (arith, w.two_each) in
          let other : negation n ≡ length watched = omega (arith, negation-odd n odd) in
          let equal : second ≡ first = sym (second_watch n e) ∙ same ∙ first_watch (negation n) other in
          λ i k. ap (λ (c : List ℕ). get_or c i 0) (last_at n (omega arith) h) ∙ only equal i (omega (arith, k, ap length (last_at n (omega arith) h))) ∙ sym equal ∙ sym (second_watch n e))
          new)
          (data_of n h);
    }

-- The whole formula.

abbrev pub state_from : List (List ℕ) → Marked → State
state_from clauses trail = record { limit = length trail.marks; clauses = standing clauses; followed = trail.marks }

pub undone_is : (root : ℕ) (old between new : Marked) → root ≡ length old.order → Extends old between → new.order ≡ take root between.order → length new.marks ≡ length between.marks → AreMarked old → ArePlaced old → AreMarked new → ArePlaced new → new ≡ old
undone_is root old between new is x order many marked placed marked' placed' =
    same_order old new (many ∙ x.as_many) (order ∙ ap (λ (n : ℕ). take n between.order) is ∙ prefix_take old between x.longer x.prefix) marked placed marked' placed'

-- The watches moved, and the marks are what they were.
pub KeepsPropagator-moved : (clauses : List (List ℕ)) (watched ws watched' : List ℕ) (lists lists' : List (List ℕ)) (trail new : Marked)
    → KeepsPropagator clauses watched lists trail → ws ≡ watched → IsWatched clauses watched' lists' (length trail.marks) → Stays ws watched' trail → new ≡ trail → KeepsPropagator clauses watched' lists' new
KeepsPropagator-moved clauses watched ws watched' lists lists' trail new k wis w t same =
    subst (λ (m : Marked). KeepsPropagator clauses watched' lists' m) (sym same)
    (record {
      even = k.even;
      inside = k.inside;
      low = k.low;
      consistent = k.consistent;
      are_watched = w;
      are_met = AreMet-stays clauses watched watched' trail (subst (λ (xs : List ℕ). Stays xs watched' trail) wis t) k.are_met;
      units_met = k.units_met;
    })

-- With a clause more.

module _ (clauses : List (List ℕ)) (clause : List ℕ) where
  pub many_more : length (clauses ++ clause ∷ []) ≡ length clauses + 1
  many_more = length-append clauses (clause ∷ [])

  pub closed_before : (s : Literals) → IsClosed (clauses ++ clause ∷ []) s → IsClosed clauses s
  closed_before s closed k h = subst (λ (c : List ℕ). IsClosedUnder c s) (old_clause clauses clause k h) (closed k (omega (arith, many_more)))

  pub Grows-wider : (old new : Marked) → GrowsMarked clauses old new → GrowsMarked (clauses ++ clause ∷ []) old new
  Grows-wider old new g = record { follows = λ s closed within. g.follows s (closed_before s closed) within; consistent = g.consistent; as_many = g.as_many; longer = g.longer; kept = g.kept; prefix = g.prefix }

  pub Grows-last : (old new : Marked) → GrowsBy clause old new → GrowsMarked (clauses ++ clause ∷ []) old new
  Grows-last old new g = Grows-by (clauses ++ clause ∷ []) (length clauses) clause old new (omega (arith, many_more)) (sym (last_clause clauses clause (length clauses) refl)) g

  pub closed_more : (s : Literals) → IsClosed clauses s → IsClosedUnder clause s → IsClosed (clauses ++ clause ∷ []) s
  closed_more s closed own k h =
      ⊎_elim
      (λ (old : k < length clauses). subst (λ (c : List ℕ). IsClosedUnder c s) (sym (old_clause clauses clause k old)) (closed k old))
      (λ (late : length clauses ≤ k). subst (λ (c : List ℕ). IsClosedUnder c s) (sym (last_clause clauses clause k (omega (arith, h, late, many_more)))) own)
      (cases_lt k (length clauses))

  last_falsified : (s : Literals) → AllNegated clause s → Conflict (standing clauses ++ clause ∷ []) s
  last_falsified s all = falsified (length (standing clauses)) (omega (arith, length-append (standing clauses) (clause ∷ []))) (subst (λ (c : List ℕ). AllNegated c s) (sym (get_or-append_seam (standing clauses) clause [] [])) all)

  wider_conflict : (s : Literals) → Conflict (standing clauses) s → Conflict (standing clauses ++ clause ∷ []) s
  wider_conflict s (opposite l on also) = opposite l on also
  wider_conflict s (falsified k h all) = falsified k (omega (arith, h, length-append (standing clauses) (clause ∷ []))) (subst (λ (c : List ℕ). AllNegated c s) (sym (get_or_append_left (standing clauses) (clause ∷ []) [] k h)) all)

  closed_all : (s : Literals) → IsClosed (standing clauses ++ clause ∷ []) s → IsClosed (clauses ++ clause ∷ []) s
  closed_all s closed =
      closed_more s
      (closed_places clauses s (λ k h. subst (λ (c : List ℕ). IsClosedUnder c s) (get_or_append_left (standing clauses) (clause ∷ []) [] k h) (closed k (omega (arith, h, length-append (standing clauses) (clause ∷ []))))))
      (subst (λ (c : List ℕ). IsClosedUnder c s) (get_or-append_seam (standing clauses) clause [] []) (closed (length (standing clauses)) (omega (arith, length-append (standing clauses) (clause ∷ [])))))

  pub refuted : (old new : Marked) → GrowsMarked (clauses ++ clause ∷ []) old new → Falsifies clauses new ⊎ AllNegated clause (set_of new) → MeetsConflict (standing clauses ++ clause ∷ []) (set_of old)
  refuted old new g f s closed within =
      let all = g.follows s (closed_all s closed) within in
      ⊎_elim
      (λ (c : Falsifies clauses new). wider_conflict s (falsified_standing clauses s c.0 c.1 (λ i h. all _ (c.2 i h))))
      (λ (c : AllNegated clause (set_of new)). last_falsified s (λ i h. all _ (c i h)))
      f

  -- the two literals that were chosen can be watched
  pub can_watch : (first second : ℕ) (m : Marked) → Chosen clause first second m → CanWatch clause first second m
  can_watch first second m chosen = record {
    first_in = chosen.first_in;
    second_in = chosen.second_in;
    only = chosen.only;
    first_met = λ on.
        ⊎_elim
        (λ (marked : set_of m first ≡ true). (first, chosen.first_in, marked))
        (λ (off : (set_of m (negation first) ≡ false) × (set_of m (negation second) ≡ false) × (second ≢ first)). absurd (on_off _ on off.0))
        chosen.fit;
    second_met = λ on.
        ⊎_elim
        (λ (marked : set_of m first ≡ true). (first, chosen.first_in, marked))
        (λ (off : (set_of m (negation first) ≡ false) × (set_of m (negation second) ≡ false) × (second ≢ first)). absurd (on_off _ on off.1))
        chosen.fit;
    unit_met = λ unit.
        ⊎_elim
        (λ (marked : set_of m first ≡ true). (first, chosen.first_in, marked))
        (λ (off : (set_of m (negation first) ≡ false) × (set_of m (negation second) ≡ false) × (second ≢ first)).
        absurd (off.2 (sym (place_of clause second chosen.second_in) ∙ unit.1 chosen.second_in.0 chosen.second_in.1 ∙ sym (unit.1 chosen.first_in.0 chosen.first_in.1) ∙ place_of clause first chosen.first_in)))
        chosen.fit;
  }

  module _ (watched : List ℕ) (first second : ℕ) (m : Marked) (two_each : length watched ≡ 2 * length clauses) (can : CanWatch clause first second m) where
    abbrev both : List ℕ
    both = (watched ++ first ∷ []) ++ second ∷ []

    pub AreMet-add : AreMet clauses watched m → AreMet (clauses ++ clause ∷ []) both m
    AreMet-add met n h on =
        let many : length both ≡ length watched + 2 = omega (arith, length-append (watched ++ first ∷ []) (second ∷ []), length-append watched (first ∷ [])) in
        ⊎_elim
        (λ (old : n < length watched).
        let same : get_or both n 0 ≡ get_or watched n 0 = get_or_append_left (watched ++ first ∷ []) (second ∷ []) 0 n (omega (arith, length-append watched (first ∷ []))) ∙ get_or_append_left watched (first ∷ []) 0 n old in
        subst (λ (c : List ℕ). IsMet c m) (sym (old_clause clauses clause (n / 2) (omega (arith, two_each)))) (met n old (ap (λ (l : ℕ). set_of m (negation l)) (sym same) ∙ on)))
        (λ (late : length watched ≤ n).
        subst (λ (c : List ℕ). IsMet c m) (sym (last_clause clauses clause (n / 2) (omega (arith, two_each, many, h, late))))
        (⊎_elim
        (λ (e : n ≡ length watched).
        let here : get_or both n 0 ≡ first = get_or_append_left (watched ++ first ∷ []) (second ∷ []) 0 n (omega (arith, length-append watched (first ∷ []))) ∙ ap (λ (i : ℕ). get_or (watched ++ first ∷ []) i 0) e ∙ get_or-append_seam watched first [] 0 in
        can.first_met (ap (λ (l : ℕ). set_of m (negation l)) (sym here) ∙ on))
        (λ (ne : n ≢ length watched).
        let is : n ≡ length (watched ++ first ∷ []) = omega (arith, many, h, late, length-append watched (first ∷ [])) in
        let here : get_or both n 0 ≡ second = ap (λ (i : ℕ). get_or both i 0) is ∙ get_or-append_seam (watched ++ first ∷ []) second [] 0 in
        can.second_met (ap (λ (l : ℕ). set_of m (negation l)) (sym here) ∙ on))
        (cases_eq n (length watched))))
        (cases_lt n (length watched))

    pub UnitsMet-add : UnitsMet clauses m → UnitsMet (clauses ++ clause ∷ []) m
    UnitsMet-add met k h one =
        ⊎_elim
        (λ (old : k < length clauses). subst (λ (c : List ℕ). IsMet c m) (sym (old_clause clauses clause k old)) (met k old (subst IsUnit (old_clause clauses clause k old) one)))
        (λ (late : length clauses ≤ k).
        let is = last_clause clauses clause k (omega (arith, h, late, many_more)) in
        subst (λ (c : List ℕ). IsMet c m) (sym is) (can.unit_met (subst IsUnit is one)))
        (cases_lt k (length clauses))

-- After a clause is put behind the others.

pub KeepsPropagator-add : (clauses : List (List ℕ)) (watched : List ℕ) (lists : List (List ℕ)) (trail : Marked) (clause : List ℕ) (first second : ℕ) → KeepsPropagator clauses watched lists trail → All (λ l. l < length trail.marks) clause → CanWatch clause first second trail
    → (clauses' : List (List ℕ)) (watched' : List ℕ) (lists' : List (List ℕ)) → Added clauses watched lists clause first second clauses' watched' lists' → KeepsPropagator clauses' watched' lists' trail
KeepsPropagator-add clauses watched lists trail clause first second k low can clauses' watched' lists' a =
    let below = λ (l : ℕ) (there : Contains clause l). All-contains (λ l. l < length trail.marks) clause l low there in
    rw (a.clauses_are, a.watched_are) (record {
      even = k.even;
      inside = All-append (All (λ l. l < length trail.marks)) clauses (clause ∷ []) k.inside (All-cons (All (λ l. l < length trail.marks)) clause [] low (All-nil (All (λ l. l < length trail.marks))));
      low = k.low;
      consistent = k.consistent;
      are_watched = IsWatched-add clauses clause watched lists lists' (length trail.marks) first second k.are_watched a.listed a.first_listed a.second_listed can.first_in can.second_in can.only (below first can.first_in) (below second can.second_in);
      are_met = AreMet-add clauses clause watched first second trail k.are_watched.two_each can k.are_met;
      units_met = UnitsMet-add clauses clause watched first second trail k.are_watched.two_each can k.units_met;
    })

pub KeepsPropagator-same : (clauses : List (List ℕ)) (watched : List ℕ) (lists : List (List ℕ)) (trail : Marked) (clauses' : List (List ℕ)) (watched' : List ℕ) (lists' : List (List ℕ)) → KeepsPropagator clauses watched lists trail → Unchanged clauses watched lists clauses' watched' lists' → KeepsPropagator clauses' watched' lists' trail
KeepsPropagator-same clauses watched lists trail clauses' watched' lists' k u =
    let w = k.are_watched in
    rw (u.clauses_are, u.watched_are) (record {
      even = k.even;
      inside = k.inside;
      low = k.low;
      consistent = k.consistent;
      are_watched = record { two_each = w.two_each; many_lists = u.listed.as_many ∙ w.many_lists; inside = w.inside; listed = λ n h low. u.listed.kept (get_or watched n 0) n (w.listed n h low); live = w.live; differ = w.differ };
      are_met = k.are_met;
      units_met = k.units_met;
    })

pub at_rest : (clauses : List (List ℕ)) (watched : List ℕ) (lists : List (List ℕ)) (trail : Marked) → KeepsPropagator clauses watched lists trail → AreSettled clauses trail
at_rest clauses watched lists trail k = all_settled clauses watched lists (length trail.marks) trail k.are_watched k.consistent k.are_met k.units_met

-- What follows of a new clause is marked, before it is put behind the others.
pub KeepsPropagator-grown : (clauses : List (List ℕ)) (watched watched' : List ℕ) (lists lists' : List (List ℕ)) (trail new : Marked) (clauses' : List (List ℕ))
    → KeepsPropagator clauses watched lists trail → IsWatched clauses watched' lists' (length trail.marks) → GrowsMarked clauses' trail new → AreMet clauses watched' new → KeepsPropagator clauses watched' lists' new
KeepsPropagator-grown clauses watched watched' lists lists' trail new clauses' k w g met = record {
  even = ap (λ (n : ℕ). n % 2) g.as_many ∙ k.even;
  inside = subst (λ (n : ℕ). All (All (λ l. l < n)) clauses) (sym g.as_many) k.inside;
  low = omega (arith, k.low, g.as_many);
  consistent = g.consistent;
  are_watched = subst (λ (n : ℕ). IsWatched clauses watched' lists' n) (sym g.as_many) w;
  are_met = met;
  units_met = units_kept clauses trail new g.kept k.units_met;
}

pub extended : (clauses clauses' : List (List ℕ)) (watched' : List ℕ) (lists' : List (List ℕ)) (trail new : Marked) (clause : List ℕ) → 0 < length clause → clauses' ≡ clauses ++ clause ∷ [] → GrowsMarked (clauses ++ clause ∷ []) trail new → KeepsPropagator clauses' watched' lists' new
    → Extended (state_from clauses trail) clause (state_from clauses' new)
extended clauses clauses' watched' lists' trail new clause some is g k =
    let settled = at_rest clauses' watched' lists' new k in
    record {
      limit = g.as_many;
      clauses = ap standing is ∙ standing-push clauses clause some;
      closure = record {
        holds = g.kept;
        closed = settled_closed clauses' new settled;
        least = λ s closed within. g.follows s (subst (λ (cs : List (List ℕ)). IsClosed cs s) is (closed_places clauses' s closed)) within;
      };
      free = no_conflict clauses' new k.consistent settled;
    }

pub extends_of : (clauses : List (List ℕ)) (old new : Marked) → GrowsMarked clauses old new → Extends old new
extends_of clauses old new g = record { as_many = g.as_many; longer = g.longer; kept = g.kept; prefix = g.prefix }
