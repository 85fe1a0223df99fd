-- Watches, and what a look at one of them keeps.
use Rattle.std.proofs.Common.{◌≡◌, ◌≢◌, ℕ, ◌+◌, ◌/◌, ◌%◌, ◌<◌, ◌≤◌, Bool, true, false, List, [], ◌∷◌, ◌++◌, ◌⊎◌, inl, inr, length, get_or, set, ⊎_elim, refl, sym, ap, subst, ◌∙◌, arith}
use Rattle.std.proofs.lemmas.Bool.{cases_eq}
use Rattle.std.proofs.lemmas.List.{length-set, get_or-set_same, get_or-set_other}
use Rattle.std.proofs.lemmas.List.Elements.{Contains-push, Contains-append_left}
use Rattle.std.proofs.lemmas.Grind.{get_or_default_zero}
use Rattle.std.specs.Prelude.{Contains}
use Rattle.std.specs.List.{swap_remove}
use Rattle.base.specs.Literal.{negation}
use Rattle.drup.specs.Propagation.{Literals, OthersNegated}
use Rattle.drup.specs.Marked.{Marked, set_of, IsConsistent, IsSettled, IsKept, IsPrefix, AreMarked}
use Rattle.drup.specs.Growth.{IsOpen, GrowsMarked}
use Rattle.drup.specs.Lists.{list_at}
use Rattle.drup.specs.Watched.{clause_at, IsWatched, IsMet, Moved, AdvancesWatch, Stays}
use Rattle.base.proofs.LiteralLemmas.{negation-negation, negation-other, negation-inside, half-negation}
use Rattle.drup.proofs.PassLemmas.{Grows-begin}
use Rattle.drup.proofs.ListsLemmas.{stays, length-swap_remove}

-- A number stands in a list: at a place with any default.
pub stands_at : (xs : List ℕ) (j n : ℕ) → j < length xs → get_or xs j 0 ≡ n → Contains xs n
stands_at xs j n h e = (j, h, get_or_default_zero xs j n h ∙ e)

pub place_of : (xs : List ℕ) (n : ℕ) (c : Contains xs n) → get_or xs c.0 0 ≡ n
place_of xs n c = sym (get_or_default_zero xs c.0 n c.1) ∙ c.2

-- A clause with a marked literal, or with two that are not negated, is settled.

pub on_off : (b : Bool) → b ≡ true → b ≡ false → ⊥
on_off b on off = cc

pub settled_by_met : (clause : List ℕ) (m : Marked) → IsConsistent m → IsMet clause m → IsSettled clause (set_of m)
settled_by_met clause m c met =
    let at = place_of clause met.0 met.1 in
    record {
      closed = λ i h others.
          ⊎_elim
          (λ (e : met.0 ≡ get_or clause i 0). ap (set_of m) (sym e) ∙ met.2)
          (λ (ne : met.0 ≢ get_or clause i 0). absurd (c met.0 met.2 (ap (λ (x : ℕ). set_of m (negation x)) (sym at) ∙ others met.1.0 met.1.1 (λ e. ne (sym at ∙ e)))))
          (cases_eq met.0 (get_or clause i 0));
      open_still = λ all. c met.0 met.2 (ap (λ (x : ℕ). set_of m (negation x)) (sym at) ∙ all met.1.0 met.1.1);
    }

pub settled_by_two : (clause : List ℕ) (m : Marked) (a b : ℕ) → IsOpen clause a (set_of m) → IsOpen clause b (set_of m) → a ≢ b → IsSettled clause (set_of m)
settled_by_two clause m a b p q ne =
    let at_a = place_of clause a p.0 in
    let at_b = place_of clause b q.0 in
    record {
      closed = λ i h others.
          ⊎_elim
          (λ (e : a ≡ get_or clause i 0). absurd (on_off (set_of m (negation b)) (ap (λ (x : ℕ). set_of m (negation x)) (sym at_b) ∙ others q.0.0 q.0.1 (λ f. ne (e ∙ sym f ∙ at_b))) q.1))
          (λ (na : a ≢ get_or clause i 0). absurd (on_off (set_of m (negation a)) (ap (λ (x : ℕ). set_of m (negation x)) (sym at_a) ∙ others p.0.0 p.0.1 (λ f. na (sym at_a ∙ f))) p.1))
          (cases_eq a (get_or clause i 0));
      open_still = λ all. on_off (set_of m (negation a)) (ap (λ (x : ℕ). set_of m (negation x)) (sym at_a) ∙ all p.0.0 p.0.1) p.1;
    }

-- Lists after a watch was taken out of one, or moved to another.

pub record Dropped (lists : List (List ℕ)) (negated place : ℕ) (lists' : List (List ℕ)) : Type 0 where
  pub left : list_at lists' negated ≡ swap_remove (list_at lists negated) place 0
  pub others : (l : ℕ) → l ≢ negated → list_at lists' l ≡ list_at lists l
  pub as_many : length lists' ≡ length lists

pub is_dropped : (lists lists' : List (List ℕ)) (negated place : ℕ) → negated < length lists → lists' ≡ set lists negated (swap_remove (list_at lists negated) place 0) → Dropped lists negated place lists'
is_dropped lists lists' negated place h is =
    rw is (record {
      left = get_or-set_same lists negated (swap_remove (list_at lists negated) place 0) [] h;
      others = λ l ne. get_or-set_other lists negated l (swap_remove (list_at lists negated) place 0) [] ne;
      as_many = length-set lists negated (swap_remove (list_at lists negated) place 0);
    })

-- What stands in a list still does, but for the number taken out.
pub still_stands : (xs ys : List ℕ) (place n : ℕ) → ys ≡ swap_remove xs place 0 → place < length xs → get_or xs place 0 ≢ n → Contains xs n → Contains ys n
still_stands xs ys place n is h ne c =
    let at = place_of xs n c in
    let s = stays xs place c.0 h c.1 (λ e. ne (ap (λ (i : ℕ). get_or xs i 0) (sym e) ∙ at)) in
    subst (λ (zs : List ℕ). Contains zs n) (sym is) (stands_at (swap_remove xs place 0) s.0 n s.2 (s.3 ∙ at))

-- A watch ahead still is, when another one is taken out.
pub after_drop : (ys : List ℕ) (clauses : List (List ℕ)) (watched : List ℕ) (lists : List (List ℕ)) (negated place : ℕ) (m : Marked) (n : ℕ) → ys ≡ swap_remove (list_at lists negated) place 0 → place < length (list_at lists negated) → get_or (list_at lists negated) place 0 ≢ n
    → IsMet (clause_at clauses n) m ⊎ ((j : ℕ) × (place ≤ j) × (j < length (list_at lists negated)) × (get_or (list_at lists negated) j 0 ≡ n)) → IsMet (clause_at clauses n) m ⊎ ((j : ℕ) × (place ≤ j) × (j < length ys) × (get_or ys j 0 ≡ n))
after_drop ys clauses watched lists negated place m n is there ne was =
    ⊎_elim
    (λ (met : IsMet (clause_at clauses n) m). inl met)
    (λ (far : (j : ℕ) × (place ≤ j) × (j < length (list_at lists negated)) × (get_or (list_at lists negated) j 0 ≡ n)).
    let s = stays (list_at lists negated) place far.0 there far.2 (λ e. ne (ap (λ (i : ℕ). get_or (list_at lists negated) i 0) (sym e) ∙ far.3)) in
    inr (s.0, s.1 far.1, omega (arith, s.2, ap length is), ap (λ (xs : List ℕ). get_or xs s.0 0) is ∙ s.3 ∙ far.3))
    was

module _ (clauses : List (List ℕ)) (watched : List ℕ) (lists : List (List ℕ)) (limit negated place : ℕ) (w : IsWatched clauses watched lists limit) (there : place < length (list_at lists negated)) where
  -- A watch that is in the list of a literal that it does not watch any more is taken out.
  pub IsWatched-drop : (lists' : List (List ℕ)) → Dropped lists negated place lists' → ((n : ℕ) → n < length watched → get_or watched n 0 ≡ negated → get_or (list_at lists negated) place 0 ≢ n) → IsWatched clauses watched lists' limit
  IsWatched-drop lists' d stale = record {
    two_each = w.two_each;
    many_lists = d.as_many ∙ w.many_lists;
    inside = w.inside;
    live = w.live;
    listed = λ n h low.
        ⊎_elim
        (λ (e : get_or watched n 0 ≡ negated).
        subst (λ (l : ℕ). Contains (list_at lists' l) n) (sym e)
        (still_stands (list_at lists negated) (list_at lists' negated) place n d.left there (stale n h e) (subst (λ (l : ℕ). Contains (list_at lists l) n) e (w.listed n h low))))
        (λ (ne : get_or watched n 0 ≢ negated). subst (λ (xs : List ℕ). Contains xs n) (sym (d.others (get_or watched n 0) ne)) (w.listed n h low))
        (cases_eq (get_or watched n 0) negated);
    differ = w.differ;
  }

  -- The watch at the place was negated's, and now watches another literal of its clause.
  module _ (literal watch : ℕ) (watched' : List ℕ) (lists' : List (List ℕ)) (m : Moved watched lists negated place literal watched' lists') (at : get_or (list_at lists negated) place 0 ≡ watch)
      (watch_inside : watch < length watched) (own : get_or watched watch 0 ≡ negated) (differs : literal ≢ negated) (in_clause : Contains (clause_at clauses watch) literal) (not_other : literal ≢ get_or watched (negation watch) 0) (low_literal : literal < limit) where
    watch_is : watched' ≡ set watched watch literal
    watch_is = m.watch ∙ ap (λ (n : ℕ). set watched n literal) at

    came_is : list_at lists' literal ≡ list_at lists literal ++ watch ∷ []
    came_is = m.came ∙ ap (λ (n : ℕ). list_at lists literal ++ n ∷ []) at

    here : get_or watched' watch 0 ≡ literal
    here = ap (λ (ws : List ℕ). get_or ws watch 0) watch_is ∙ get_or-set_same watched watch literal 0 watch_inside

    elsewhere : (n : ℕ) → n ≢ watch → get_or watched' n 0 ≡ get_or watched n 0
    elsewhere n ne = ap (λ (ws : List ℕ). get_or ws n 0) watch_is ∙ get_or-set_other watched watch n literal 0 ne

    as_many : length watched' ≡ length watched
    as_many = ap length watch_is ∙ length-set watched watch literal

    listed_other : (n : ℕ) → n < length watched → get_or watched n 0 < limit → n ≢ watch → Contains (list_at lists' (get_or watched n 0)) n
    listed_other n h low ne =
        ⊎_elim
        (λ (e : get_or watched n 0 ≡ negated).
        subst (λ (l : ℕ). Contains (list_at lists' l) n) (sym e)
        (still_stands (list_at lists negated) (list_at lists' negated) place n m.left there (λ f. ne (sym f ∙ at)) (subst (λ (l : ℕ). Contains (list_at lists l) n) e (w.listed n h low))))
        (λ (nn : get_or watched n 0 ≢ negated).
        ⊎_elim
        (λ (e : get_or watched n 0 ≡ literal).
        subst (λ (l : ℕ). Contains (list_at lists' l) n) (sym e)
        (subst (λ (xs : List ℕ). Contains xs n) (sym came_is) (Contains-append_left (list_at lists literal) (watch ∷ []) n (subst (λ (l : ℕ). Contains (list_at lists l) n) e (w.listed n h low)))))
        (λ (nl : get_or watched n 0 ≢ literal). subst (λ (xs : List ℕ). Contains xs n) (sym (m.others (get_or watched n 0) nn nl)) (w.listed n h low))
        (cases_eq (get_or watched n 0) literal))
        (cases_eq (get_or watched n 0) negated)

    pub IsWatched-move : IsWatched clauses watched' lists' limit
    IsWatched-move = record {
      two_each = as_many ∙ w.two_each;
      many_lists = m.as_many ∙ w.many_lists;
      live = λ n h some.
          ⊎_elim
          (λ (e : n ≡ watch). omega (arith, low_literal, ap (λ (i : ℕ). get_or watched' i 0) e, here))
          (λ (ne : n ≢ watch). omega (arith, w.live n (omega (arith, as_many)) some, elsewhere n ne))
          (cases_eq n watch);
      inside = λ n h low.
          ⊎_elim
          (λ (e : n ≡ watch). subst (λ (l : ℕ). Contains (clause_at clauses n) l) (sym (ap (λ (i : ℕ). get_or watched' i 0) e ∙ here)) (subst (λ (i : ℕ). Contains (clause_at clauses i) literal) (sym e) in_clause))
          (λ (ne : n ≢ watch). subst (λ (l : ℕ). Contains (clause_at clauses n) l) (sym (elsewhere n ne)) (w.inside n (omega (arith, as_many)) (omega (arith, low, elsewhere n ne))))
          (cases_eq n watch);
      listed = λ n h low.
          ⊎_elim
          (λ (e : n ≡ watch).
          subst (λ (l : ℕ). Contains (list_at lists' l) n) (sym (ap (λ (i : ℕ). get_or watched' i 0) e ∙ here))
          (subst (λ (xs : List ℕ). Contains xs n) (sym came_is) (subst (λ (i : ℕ). Contains (list_at lists literal ++ watch ∷ []) i) (sym e) (Contains-push (list_at lists literal) watch))))
          (λ (ne : n ≢ watch). subst (λ (l : ℕ). Contains (list_at lists' l) n) (sym (elsewhere n ne)) (listed_other n (omega (arith, as_many)) (omega (arith, low, elsewhere n ne)) ne))
          (cases_eq n watch);
      differ = λ n h same.
          ⊎_elim
          (λ (e : n ≡ watch).
          let opposite : negation n ≢ watch = λ f. negation-other n (f ∙ sym e) in
          absurd (not_other (sym here ∙ ap (λ (i : ℕ). get_or watched' i 0) (sym e) ∙ same ∙ elsewhere (negation n) opposite ∙ ap (λ (i : ℕ). get_or watched (negation i) 0) e)))
          (λ (ne : n ≢ watch).
          ⊎_elim
          (λ (e : negation n ≡ watch).
          let back : n ≡ negation watch = sym (negation-negation n) ∙ ap negation e in
          absurd (not_other (sym here ∙ ap (λ (i : ℕ). get_or watched' i 0) (sym e) ∙ sym same ∙ elsewhere n ne ∙ ap (λ (i : ℕ). get_or watched i 0) back)))
          (λ (no : negation n ≢ watch).
          λ i k. w.differ n (omega (arith, as_many)) (sym (elsewhere n ne) ∙ same ∙ elsewhere (negation n) no) i k ∙ sym (elsewhere n ne))
          (cases_eq (negation n) watch))
          (cases_eq n watch);
    }

    pub Advances-move : (now : Marked) → AreMarked now → set_of now (negation literal) ≡ false → AdvancesWatch clauses negated place watched lists now watched' lists' now place
    Advances-move now marked off = record {
      ahead = λ walks n h.
          ⊎_elim
          (λ (e : n ≡ watch). λ is. absurd (differs (sym here ∙ ap (λ (i : ℕ). get_or watched' i 0) (sym e) ∙ is)))
          (λ (ne : n ≢ watch). λ is. after_drop (list_at lists' negated) clauses watched lists negated place now n m.left there (λ f. ne (sym f ∙ at)) (walks n (omega (arith, as_many)) (sym (elsewhere n ne) ∙ is)))
          (cases_eq n watch);
      processed = λ head room done n j h k is.
          ⊎_elim
          (λ (e : n ≡ watch).
          let on : set_of now (get_or now.order j 0) ≡ true = marked j (omega arith) in
          absurd (on_off (set_of now (negation literal)) (ap (set_of now) (sym (is ∙ ap negation (ap (λ (i : ℕ). get_or watched' i 0) e ∙ here))) ∙ on) off))
          (λ (ne : n ≢ watch). done n j (omega (arith, as_many)) k (is ∙ ap negation (elsewhere n ne)))
          (cases_eq n watch);
      as_many = as_many;
      nearer = omega (arith, ap length m.left, length-swap_remove (list_at lists negated) place there);
      within = omega (arith, ap length m.left, length-swap_remove (list_at lists negated) place there);
    }

  pub Advances-drop : (lists' : List (List ℕ)) (now : Marked) → Dropped lists negated place lists' → ((n : ℕ) → n < length watched → get_or watched n 0 ≡ negated → get_or (list_at lists negated) place 0 ≢ n) → AdvancesWatch clauses negated place watched lists now watched lists' now place
  Advances-drop lists' now d stale = record {
    ahead = λ walks n h is. after_drop (list_at lists' negated) clauses watched lists negated place now n d.left there (stale n h is) (walks n h is);
    processed = λ head room done. done;
    as_many = refl;
    nearer = omega (arith, ap length d.left, length-swap_remove (list_at lists negated) place there);
    within = omega (arith, ap length d.left, length-swap_remove (list_at lists negated) place there);
  }

  pub Advances-keep : (old new : Marked) → IsKept old new → IsPrefix old new → IsMet (clause_at clauses (get_or (list_at lists negated) place 0)) new → AdvancesWatch clauses negated place watched lists old watched lists new (place + 1)
  Advances-keep old new kept prefix met = record {
    ahead = λ walks n h is.
        ⊎_elim
        (λ (was : IsMet (clause_at clauses n) old). inl (was.0, was.1, kept was.0 was.2))
        (λ (far : (j : ℕ) × (place ≤ j) × (j < length (list_at lists negated)) × (get_or (list_at lists negated) j 0 ≡ n)).
        ⊎_elim
        (λ (e : far.0 ≡ place). inl (subst (λ (i : ℕ). IsMet (clause_at clauses i) new) (ap (λ (j : ℕ). get_or (list_at lists negated) j 0) (sym e) ∙ far.3) met))
        (λ (ne : far.0 ≢ place). inr (far.0, omega (arith, far.1), far.2, far.3))
        (cases_eq far.0 place))
        (walks n h is);
    processed = λ head room done n j h k is. let was = done n j h k (sym (prefix j (omega arith)) ∙ is) in (was.0, was.1, kept was.0 was.2);
    as_many = refl;
    nearer = omega arith;
    within = omega arith;
  }

-- The other watch of a clause.
pub other_inside : (clauses : List (List ℕ)) (watched : List ℕ) (lists : List (List ℕ)) (limit n : ℕ) → IsWatched clauses watched lists limit → n < length watched → get_or watched n 0 < limit → (negation n < length watched) × (n / 2 < length clauses) × (0 < length (clause_at clauses n)) × (get_or watched (negation n) 0 < limit) × Contains (clause_at clauses n) (get_or watched (negation n) 0)
other_inside clauses watched lists limit n w h low =
    let even : length watched % 2 ≡ 0 = omega (arith, w.two_each) in
    let room : negation n < length watched = negation-inside n (length watched) even h in
    let there = w.inside n h low in
    let some : 0 < length (clause_at clauses n) = omega (arith, there.1) in
    let same : clause_at clauses (negation n) ≡ clause_at clauses n = ap (λ (k : ℕ). get_or clauses k []) (half-negation n) in
    let low' : get_or watched (negation n) 0 < limit = w.live (negation n) room (omega (arith, some, ap length same)) in (
      room,
      omega (arith, w.two_each),
      some,
      low',
      subst (λ (c : List ℕ). Contains c (get_or watched (negation n) 0)) same (w.inside (negation n) room low'),
    )

-- Of a clause of two literals, both of which are watched, the one is known where the other is.
pub two_negated : (clause : List ℕ) (one negated : ℕ) (s : Literals) → length clause ≡ 2 → Contains clause one → Contains clause negated → (negated ≡ one → (i : ℕ) → i < length clause → get_or clause i 0 ≡ negated) → s (negation negated) ≡ true → OthersNegated clause one s
two_negated clause one negated s two a b alike off =
    let at_one = place_of clause one a in
    let at_negated = place_of clause negated b in
    λ i h ne.
    let apart : i ≢ a.0 = λ e. ne (ap (λ (j : ℕ). get_or clause j 0) e ∙ at_one) in
    let differ : b.0 ≢ a.0 = λ e. let same : negated ≡ one = sym at_negated ∙ ap (λ (j : ℕ). get_or clause j 0) e ∙ at_one in ne (alike same i h ∙ same) in
    let is : i ≡ b.0 = omega (arith, two, h, a.1, b.1) in
    ap (λ (j : ℕ). s (negation (get_or clause j 0))) is ∙ ap (λ (l : ℕ). s (negation l)) at_negated ∙ off

pub Grows-none : (clauses : List (List ℕ)) (old new : Marked) → new ≡ old → IsConsistent old → GrowsMarked clauses old new
Grows-none clauses old new is c = subst (λ (m : Marked). GrowsMarked clauses old m) (sym is) (Grows-begin clauses old c)

pub Stays-move : (watched watched' : List ℕ) (lists lists' : List (List ℕ)) (negated place literal : ℕ) (m : Marked) → Moved watched lists negated place literal watched' lists' → set_of m (negation literal) ≡ false → Stays watched watched' m
Stays-move watched watched' lists lists' negated place literal m moved off =
    let watch = get_or (list_at lists negated) place 0 in
    let many : length watched' ≡ length watched = ap length moved.watch ∙ length-set watched watch literal in
    record {
      as_many = many;
      same = λ n h.
          ⊎_elim
          (λ (e : n ≡ watch).
          let here : get_or watched' n 0 ≡ literal = ap (λ (ws : List ℕ). get_or ws n 0) moved.watch ∙ ap (λ (i : ℕ). get_or (set watched watch literal) i 0) e ∙ get_or-set_same watched watch literal 0 (omega (arith, many)) in
          inr (ap (λ (l : ℕ). set_of m (negation l)) here ∙ off))
          (λ (ne : n ≢ watch). inl (ap (λ (ws : List ℕ). get_or ws n 0) moved.watch ∙ get_or-set_other watched watch n literal 0 ne))
          (cases_eq n watch);
    }
