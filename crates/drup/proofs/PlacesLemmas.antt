-- The places of clauses by their sums.
use Rattle.std.proofs.Common.{◌≡◌, ◌≢◌, ℕ, suc, ◌+◌, ◌<◌, ◌≤◌, inl, inr, ⊎_elim, Bool, true, false, List, [], ◌∷◌, ◌++◌, length, get_or, set, refl, sym, ap, subst, ◌∙◌, arith, length-append}
use Rattle.std.proofs.lemmas.Bool.{cases_eq, cases_lt}
use Rattle.std.proofs.lemmas.List.{get_or-set_same, get_or-set_other, length-set, get_or_append_left}
use Rattle.std.proofs.Math.Seq.{get_or-append_seam}
use Rattle.std.proofs.lemmas.Bool.Decides.{nat_tests}
use Rattle.std.specs.Prelude.{◌==◌, ◌&&◌, if◌then◌else◌, fold}
use Rattle.drup.specs.Ordered.{RiseFrom}
use Rattle.std.specs.Hash.DefaultHasher as sip
use Rattle.drup.specs.Places.{with_literal, sum_in_order, clause_sum, last_at, HasSum, IsLatest, AreLinked, IsLink, IsLinkedBehind, IsUnlinked}
use Rattle.drup.specs.declared.places.Places.{Places}
use Rattle.drup.specs.Without.{AreSameClause, NoneAlikeFrom}
use Rattle.drup.proofs.AlikeLemmas.{some_literal}
use Rattle.drup.proofs.OrderedLemmas.{ordered-alike, order_is}
use Rattle.drup.proofs.StandingLemmas.{place_inside}

-- ---- clauses with the same literals have one sum

pub clause_sum-alike : (one other : List ℕ) → AreSameClause one other → clause_sum one ≡ clause_sum other
clause_sum-alike one other a = ap sum_in_order (ordered-alike one other a)

-- the sum of literals that rise
pub sum_rising : (clause : List ℕ) → RiseFrom 0 clause → sip.finish (fold with_literal sip.initial clause) ≡ clause_sum clause
unfolding sum_in_order
sum_rising clause up = ap sum_in_order (order_is clause clause (λ l. refl) up)

-- a clause that is alike to one with a literal has its sum
pub has_sum_alike : (clauses : List (List ℕ)) (clause : List ℕ) (s j : ℕ) → s ≡ clause_sum clause → 0 < length clause → AreSameClause clause (get_or clauses j []) → HasSum clauses s j
has_sum_alike clauses clause s j is some a = (some_literal clause (get_or clauses j []) a some, sym (clause_sum-alike clause (get_or clauses j []) a) ∙ sym is)

-- ---- the search for the last one

pub none_left : (clauses : List (List ℕ)) (clause : List ℕ) (s behind place : ℕ) → s ≡ clause_sum clause → 0 < length clause → IsLatest clauses s behind place → behind ≤ place → NoneAlikeFrom clauses clause behind → NoneAlikeFrom clauses clause 0
none_left clauses clause s behind place is some latest late none j low high a =
    ⊎_elim
    (λ (h : j < behind). omega (arith, late, (latest.last j h (has_sum_alike clauses clause s j is some a)).0))
    (λ (h : behind ≤ j). none j h high a)
    (cases_lt j behind)

pub none_behind : (clauses : List (List ℕ)) (clause : List ℕ) (s behind place : ℕ) → s ≡ clause_sum clause → 0 < length clause → IsLatest clauses s behind place → NoneAlikeFrom clauses clause behind → NoneAlikeFrom clauses clause (suc place)
none_behind clauses clause s behind place is some latest none j low high a =
    ⊎_elim
    (λ (h : j < behind). omega (arith, low, (latest.last j h (has_sum_alike clauses clause s j is some a)).1))
    (λ (h : behind ≤ j). none j h high a)
    (cases_lt j behind)

pub none_from : (clauses : List (List ℕ)) (clause : List ℕ) (place : ℕ) → (AreSameClause clause (get_or clauses place []) → ⊥) → NoneAlikeFrom clauses clause (suc place) → NoneAlikeFrom clauses clause place
none_from clauses clause place other none j low high a =
    ⊎_elim
    (λ (e : j ≡ place). other (subst (λ (k : ℕ). AreSameClause clause (get_or clauses k [])) e a))
    (λ (ne : j ≢ place). none j (omega (arith, low, ne)) high a)
    (cases_eq j place)

-- a place that is before another one has the sum
pub found_sum : (clauses : List (List ℕ)) (s behind place : ℕ) → IsLatest clauses s behind place → place < behind → behind < 4294967296 → HasSum clauses s place
found_sum clauses s behind place latest h few =
    ⊎_elim (λ (e : place ≡ 4294967295). absurd (omega (arith, e, h, few))) (λ (own : (place < behind) × HasSum clauses s place). own.1) latest.there

pub next_link : (clauses : List (List ℕ)) (last : ℕ → ℕ) (before : List ℕ) (s behind place : ℕ) → AreLinked clauses last before → IsLatest clauses s behind place → place < behind → behind ≤ length clauses → IsLink clauses last before s (get_or before place 0) place
next_link clauses last before s behind place linked latest h within =
    let own = found_sum clauses s behind place latest h (omega (arith, linked.few, within)) in
    record {
      is = inr (omega (arith, h, within), own, refl);
      latest = subst (λ (t : ℕ). IsLatest clauses t place (get_or before place 0)) own.1 (linked.befores place own.0);
    }

pub link_within : (clauses : List (List ℕ)) (last : ℕ → ℕ) (before : List ℕ) (s place behind : ℕ) → IsLink clauses last before s place behind → behind ≤ length clauses
link_within clauses last before s place behind link =
    ⊎_elim (λ (e : (behind ≡ length clauses) × (last s ≡ place)). omega (arith, e.0)) (λ (e : (behind < length clauses) × HasSum clauses s behind × (get_or before behind 0 ≡ place)). omega (arith, e.0)) link.is

pub link_last : (clauses : List (List ℕ)) (last : ℕ → ℕ) (before : List ℕ) (s place behind : ℕ) → IsLink clauses last before s place behind → behind ≡ length clauses → last s ≡ place
link_last clauses last before s place behind link at =
    ⊎_elim (λ (e : (behind ≡ length clauses) × (last s ≡ place)). e.1) (λ (e : (behind < length clauses) × HasSum clauses s behind × (get_or before behind 0 ≡ place)). absurd (omega (arith, e.0, at))) link.is

-- ---- a clause less

module _ (clauses : List (List ℕ)) (k s : ℕ) (own : HasSum clauses s k) where
  still : (t j : ℕ) → j ≢ k → HasSum clauses t j → HasSum (set clauses k []) t j
  still t j ne h = subst (λ (c : List ℕ). (0 < length c) × (clause_sum c ≡ t)) (sym (get_or-set_other clauses k j [] [] ne)) h

  stood_before : (t j : ℕ) → HasSum (set clauses k []) t j → (j ≢ k) × HasSum clauses t j
  stood_before t j h =
      let ne : j ≢ k = λ e. omega (arith, h.0, ap length (ap (λ (i : ℕ). get_or (set clauses k []) i []) e ∙ get_or-set_same clauses k [] [] (place_inside clauses k own.0))) in
      (ne, subst (λ (c : List ℕ). (0 < length c) × (clause_sum c ≡ t)) (get_or-set_other clauses k j [] [] ne) h)

  latest_still : (t bound place : ℕ) → place ≢ k → IsLatest clauses t bound place → IsLatest (set clauses k []) t bound place
  latest_still t bound place ne latest = record {
    there = ⊎_elim (λ (e : place ≡ 4294967295). inl e) (λ (h : (place < bound) × HasSum clauses t place). inr (h.0, still t place ne h.1)) latest.there;
    last = λ j h has. latest.last j h (stood_before t j has).1;
  }

  latest_next : (bound next : ℕ) → k < bound → IsLatest clauses s bound k → IsLatest clauses s k next → IsLatest (set clauses k []) s bound next
  latest_next bound next h latest before = record {
    there = ⊎_elim (λ (e : next ≡ 4294967295). inl e) (λ (n : (next < k) × HasSum clauses s next). inr (omega (arith, n.0, h), still s next (omega (arith, n.0)) n.1)) before.there;
    last = λ j low has.
        let was = stood_before s j has in
        let at = before.last j (omega (arith, was.0, (latest.last j low was.1).1)) was.1 in
        (omega (arith, at.0, h), at.1);
  }

  pub AreLinked-delete : (last last' : ℕ → ℕ) (before before' : List ℕ) (behind : ℕ) → AreLinked clauses last before → IsLink clauses last before s k behind → k < behind
      → ((t : ℕ) → last' t ≡ (if behind == length clauses && t == s then get_or before k 0 else last t)) → before' ≡ (if behind == length clauses then before else set before behind (get_or before k 0))
      → AreLinked (set clauses k []) last' before'
  AreLinked-delete last last' before before' behind linked link h lasts' is =
      let low : k < length clauses = place_inside clauses k own.0 in
      let own_next : IsLatest clauses s k (get_or before k 0) = subst (λ (t : ℕ). IsLatest clauses t k (get_or before k 0)) own.1 (linked.befores k own.0) in
      -- a link to the place is that of its sum
      let of_sum : (t bound place : ℕ) → IsLatest clauses t bound place → place ≡ k → (t ≡ s) × (k < bound) =
      (λ t bound place latest e.
      ⊎_elim (λ (n : place ≡ 4294967295). absurd (omega (arith, n, e, low, linked.few))) (λ (has : (place < bound) × HasSum clauses t place). (sym has.1.1 ∙ ap (λ (i : ℕ). clause_sum (get_or clauses i [])) e ∙ own.1, omega (arith, has.0, e))) latest.there) in
      ⊎_elim
      (λ (last_one : (behind ≡ length clauses) × (last s ≡ k)).
      let at_end : (behind == length clauses) ≡ true = grind (arith, nat_tests, last_one.0) in
      let latest : IsLatest clauses s (length clauses) k = subst (λ (b : ℕ). IsLatest clauses s b k) last_one.0 link.latest in
      record {
        as_many = ap length (is ∙ ap (λ (b : Bool). if b then before else set before behind (get_or before k 0)) at_end) ∙ linked.as_many ∙ sym (length-set clauses k []);
        few = omega (arith, linked.few, length-set clauses k []);
        lasts = λ t.
            ⊎_elim
            (λ (e : t ≡ s).
            let same : (t == s) ≡ true = grind (arith, nat_tests, e) in
            let now : last' t ≡ get_or before k 0 = lasts' t ∙ ap (λ (b : Bool). if b && t == s then get_or before k 0 else last t) at_end ∙ ap (λ (b : Bool). if b then get_or before k 0 else last t) same in
            subst (λ (n : ℕ). IsLatest (set clauses k []) t n (last' t)) (sym (length-set clauses k []))
            (subst (λ (x : ℕ). IsLatest (set clauses k []) t (length clauses) x) (sym now) (subst (λ (u : ℕ). IsLatest (set clauses k []) u (length clauses) (get_or before k 0)) (sym e) (latest_next (length clauses) (get_or before k 0) low latest own_next))))
            (λ (ne : t ≢ s).
            let other : (t == s) ≡ false = grind (arith, nat_tests, ne) in
            let now : last' t ≡ last t = lasts' t ∙ ap (λ (b : Bool). if b && t == s then get_or before k 0 else last t) at_end ∙ ap (λ (b : Bool). if b then get_or before k 0 else last t) other in
            subst (λ (n : ℕ). IsLatest (set clauses k []) t n (last' t)) (sym (length-set clauses k []))
            (subst (λ (x : ℕ). IsLatest (set clauses k []) t (length clauses) x) (sym now) (latest_still t (length clauses) (last t) (λ e. ne (of_sum t (length clauses) (last t) (linked.lasts t) e).0) (linked.lasts t))))
            (cases_eq t s);
        befores = λ q some.
            let was = stood_before (clause_sum (get_or (set clauses k []) q [])) q (some, refl) in
            let same : get_or (set clauses k []) q [] ≡ get_or clauses q [] = get_or-set_other clauses k q [] [] was.0 in
            let old : IsLatest clauses (clause_sum (get_or clauses q [])) q (get_or before q 0) = linked.befores q was.1.0 in
            let apart : get_or before q 0 ≢ k = λ e. let f = of_sum _ q (get_or before q 0) old e in omega (arith, f.1, (latest.last q (place_inside clauses q was.1.0) (was.1.0, f.0)).1) in
            let now : before' ≡ before = is ∙ ap (λ (b : Bool). if b then before else set before behind (get_or before k 0)) at_end in
            subst (λ (b : List ℕ). IsLatest (set clauses k []) (clause_sum (get_or (set clauses k []) q [])) q (get_or b q 0)) (sym now)
            (subst (λ (c : List ℕ). IsLatest (set clauses k []) (clause_sum c) q (get_or before q 0)) (sym same) (latest_still _ q (get_or before q 0) apart old));
      })
      (λ (within : (behind < length clauses) × HasSum clauses s behind × (get_or before behind 0 ≡ k)).
      let inside : (behind == length clauses) ≡ false = grind (arith, nat_tests, within.0) in
      let now_all : before' ≡ set before behind (get_or before k 0) = is ∙ ap (λ (b : Bool). if b then before else set before behind (get_or before k 0)) inside in
      record {
        as_many = ap length now_all ∙ length-set before behind (get_or before k 0) ∙ linked.as_many ∙ sym (length-set clauses k []);
        few = omega (arith, linked.few, length-set clauses k []);
        lasts = λ t.
            let now : last' t ≡ last t = lasts' t ∙ ap (λ (b : Bool). if b && t == s then get_or before k 0 else last t) inside in
            let apart : last t ≢ k = λ e.
            let f = of_sum t (length clauses) (last t) (linked.lasts t) e in
            omega (arith, e, h, ((linked.lasts t).last behind within.0 (subst (λ (u : ℕ). HasSum clauses u behind) (sym f.0) within.1)).1) in
            subst (λ (n : ℕ). IsLatest (set clauses k []) t n (last' t)) (sym (length-set clauses k []))
            (subst (λ (x : ℕ). IsLatest (set clauses k []) t (length clauses) x) (sym now) (latest_still t (length clauses) (last t) apart (linked.lasts t)));
        befores = λ q some.
            let was = stood_before (clause_sum (get_or (set clauses k []) q [])) q (some, refl) in
            let same : get_or (set clauses k []) q [] ≡ get_or clauses q [] = get_or-set_other clauses k q [] [] was.0 in
            let old : IsLatest clauses (clause_sum (get_or clauses q [])) q (get_or before q 0) = linked.befores q was.1.0 in
            subst (λ (b : List ℕ). IsLatest (set clauses k []) (clause_sum (get_or (set clauses k []) q [])) q (get_or b q 0)) (sym now_all)
            (⊎_elim
            (λ (e : q ≡ behind).
            let now : get_or (set before behind (get_or before k 0)) q 0 ≡ get_or before k 0 = ap (λ (i : ℕ). get_or (set before behind (get_or before k 0)) i 0) e ∙ get_or-set_same before behind (get_or before k 0) 0 (omega (arith, within.0, linked.as_many)) in
            let of : clause_sum (get_or (set clauses k []) q []) ≡ s = ap clause_sum same ∙ ap (λ (i : ℕ). clause_sum (get_or clauses i [])) e ∙ within.1.1 in
            subst (λ (u : ℕ). IsLatest (set clauses k []) u q (get_or (set before behind (get_or before k 0)) q 0)) (sym of)
            (subst (λ (x : ℕ). IsLatest (set clauses k []) s q x) (sym now)
            (subst (λ (b : ℕ). IsLatest (set clauses k []) s b (get_or before k 0)) (sym e) (latest_next behind (get_or before k 0) h link.latest own_next))))
            (λ (ne : q ≢ behind).
            let now : get_or (set before behind (get_or before k 0)) q 0 ≡ get_or before q 0 = get_or-set_other before behind q (get_or before k 0) 0 ne in
            let apart : get_or before q 0 ≢ k = λ e.
            let f = of_sum _ q (get_or before q 0) old e in
            ⊎_elim
            (λ (early : q < behind). omega (arith, f.1, (link.latest.last q early (was.1.0, f.0)).1))
            (λ (late : behind ≤ q). omega (arith, e, h, (old.last behind (omega (arith, late, ne)) (subst (λ (u : ℕ). HasSum clauses u behind) (sym f.0) within.1)).1))
            (cases_lt q behind) in
            subst (λ (x : ℕ). IsLatest (set clauses k []) (clause_sum (get_or (set clauses k []) q [])) q x) (sym now)
            (subst (λ (c : List ℕ). IsLatest (set clauses k []) (clause_sum c) q (get_or before q 0)) (sym same) (latest_still _ q (get_or before q 0) apart old)))
            (cases_eq q behind));
      })
      link.is

-- ---- a clause more

module _ (clauses : List (List ℕ)) (clause : List ℕ) (some : 0 < length clause) where
  more_at : (j : ℕ) → j < length clauses → get_or (clauses ++ clause ∷ []) j [] ≡ get_or clauses j []
  more_at j h = get_or_append_left clauses (clause ∷ []) [] j h

  has_more : (t j : ℕ) → j < length clauses → HasSum clauses t j → HasSum (clauses ++ clause ∷ []) t j
  has_more t j h has = subst (λ (c : List ℕ). (0 < length c) × (clause_sum c ≡ t)) (sym (more_at j h)) has

  had : (t j : ℕ) → j < length clauses → HasSum (clauses ++ clause ∷ []) t j → HasSum clauses t j
  had t j h has = subst (λ (c : List ℕ). (0 < length c) × (clause_sum c ≡ t)) (more_at j h) has

  last_at_end : get_or (clauses ++ clause ∷ []) (length clauses) [] ≡ clause
  last_at_end = get_or-append_seam clauses clause [] []

  latest_more : (t bound place : ℕ) → bound ≤ length clauses → IsLatest clauses t bound place → IsLatest (clauses ++ clause ∷ []) t bound place
  latest_more t bound place h latest = record {
    there = ⊎_elim (λ (e : place ≡ 4294967295). inl e) (λ (own : (place < bound) × HasSum clauses t place). inr (own.0, has_more t place (omega (arith, own.0, h)) own.1)) latest.there;
    last = λ j low has. latest.last j low (had t j (omega (arith, low, h)) has);
  }

  pub AreLinked-add : (last last' : ℕ → ℕ) (before before' : List ℕ) → AreLinked clauses last before → length clauses < 2147483647
      → ((t : ℕ) → last' t ≡ (if t == clause_sum clause then length clauses else last t)) → before' ≡ before ++ last (clause_sum clause) ∷ []
      → AreLinked (clauses ++ clause ∷ []) last' before'
  AreLinked-add last last' before before' linked few lasts' is =
      let many : length (clauses ++ clause ∷ []) ≡ length clauses + 1 = length-append clauses (clause ∷ []) in
      record {
        as_many = omega (arith, many, ap length is, length-append before (last (clause_sum clause) ∷ []), linked.as_many);
        few = omega (arith, many, few);
        lasts = λ t.
            ⊎_elim
            (λ (e : t ≡ clause_sum clause).
            let same : (t == clause_sum clause) ≡ true = grind (arith, nat_tests, e) in
            let now : last' t ≡ length clauses = lasts' t ∙ ap (λ (b : Bool). if b then length clauses else last t) same in
            subst (λ (x : ℕ). IsLatest (clauses ++ clause ∷ []) t (length (clauses ++ clause ∷ [])) x) (sym now)
            (record {
              there = inr (omega (arith, many), subst (λ (c : List ℕ). (0 < length c) × (clause_sum c ≡ t)) (sym last_at_end) (some, sym e));
              last = λ j low has. (omega (arith, many), omega (arith, many, low));
            }))
            (λ (ne : t ≢ clause_sum clause).
            let other : (t == clause_sum clause) ≡ false = grind (arith, nat_tests, ne) in
            let now : last' t ≡ last t = lasts' t ∙ ap (λ (b : Bool). if b then length clauses else last t) other in
            let old = linked.lasts t in
            subst (λ (x : ℕ). IsLatest (clauses ++ clause ∷ []) t (length (clauses ++ clause ∷ [])) x) (sym now)
            (record {
              there = ⊎_elim (λ (e : last t ≡ 4294967295). inl e) (λ (own : (last t < length clauses) × HasSum clauses t (last t)). inr (omega (arith, own.0, many), has_more t (last t) own.0 own.1)) old.there;
              last = λ j low has.
                  ⊎_elim
                  (λ (h : j < length clauses). let at = old.last j h (had t j h has) in (omega (arith, at.0, many), at.1))
                  (λ (h : length clauses ≤ j).
                  let e : j ≡ length clauses = omega (arith, h, low, many) in
                  absurd (ne (sym has.1 ∙ ap clause_sum (ap (λ (i : ℕ). get_or (clauses ++ clause ∷ []) i []) e ∙ last_at_end))))
                  (cases_lt j (length clauses));
            }))
            (cases_eq t (clause_sum clause));
        befores = λ q some'.
            subst (λ (b : List ℕ). IsLatest (clauses ++ clause ∷ []) (clause_sum (get_or (clauses ++ clause ∷ []) q [])) q (get_or b q 0)) (sym is)
            (⊎_elim
            (λ (h : q < length clauses).
            subst (λ (x : ℕ). IsLatest (clauses ++ clause ∷ []) (clause_sum (get_or (clauses ++ clause ∷ []) q [])) q x) (sym (get_or_append_left before (last (clause_sum clause) ∷ []) 0 q (omega (arith, h, linked.as_many))))
            (subst (λ (c : List ℕ). IsLatest (clauses ++ clause ∷ []) (clause_sum c) q (get_or before q 0)) (sym (more_at q h))
            (latest_more _ q (get_or before q 0) (omega (arith, h)) (linked.befores q (omega (arith, some', ap length (more_at q h)))))))
            (λ (h : length clauses ≤ q).
            let e : q ≡ length clauses = omega (arith, h, place_inside (clauses ++ clause ∷ []) q some', many) in
            let e' : q ≡ length before = omega (arith, e, linked.as_many) in
            let own : get_or (before ++ last (clause_sum clause) ∷ []) q 0 ≡ last (clause_sum clause) = ap (λ (i : ℕ). get_or (before ++ last (clause_sum clause) ∷ []) i 0) e' ∙ get_or-append_seam before (last (clause_sum clause)) [] 0 in
            let sum : clause_sum (get_or (clauses ++ clause ∷ []) q []) ≡ clause_sum clause = ap clause_sum (ap (λ (i : ℕ). get_or (clauses ++ clause ∷ []) i []) e ∙ last_at_end) in
            subst (λ (x : ℕ). IsLatest (clauses ++ clause ∷ []) (clause_sum (get_or (clauses ++ clause ∷ []) q [])) q x) (sym own)
            (subst (λ (u : ℕ). IsLatest (clauses ++ clause ∷ []) u q (last (clause_sum clause))) (sym sum)
            (subst (λ (b : ℕ). IsLatest (clauses ++ clause ∷ []) (clause_sum clause) b (last (clause_sum clause))) (sym e)
            (latest_more (clause_sum clause) (length clauses) (last (clause_sum clause)) (omega arith) (linked.lasts (clause_sum clause))))))
            (cases_lt q (length clauses)));
      }

-- nothing was changed, and a clause was put behind the others
pub AreLinked-same : (clauses clauses' : List (List ℕ)) (last last' : ℕ → ℕ) (before before' : List ℕ) → AreLinked clauses last before → clauses' ≡ clauses → ((t : ℕ) → last' t ≡ last t) → before' ≡ before → AreLinked clauses' last' before'
AreLinked-same clauses clauses' last last' before before' linked same lasts is =
    subst (λ (cs : List (List ℕ)). AreLinked cs last' before') (sym same)
    (subst (λ (b : List ℕ). AreLinked clauses last' b) (sym is)
    (record {
      as_many = linked.as_many;
      few = linked.few;
      lasts = λ t. subst (λ (x : ℕ). IsLatest clauses t (length clauses) x) (sym (lasts t)) (linked.lasts t);
      befores = linked.befores;
    }))

pub AreLinked-behind : (clauses clauses' : List (List ℕ)) (clause : List ℕ) (count : ℕ) (old new : Places) → 0 < length clause → AreLinked clauses (last_at old) old.before.items → count ≡ length clauses → count < 2147483647 → IsLinkedBehind old (clause_sum clause) count new → clauses' ≡ clauses ++ clause ∷ [] → AreLinked clauses' (last_at new) new.before.items
AreLinked-behind clauses clauses' clause count old new some linked many few behind same =
    subst (λ (cs : List (List ℕ)). AreLinked cs (last_at new) new.before.items) (sym same)
    (AreLinked-add clauses clause some (last_at old) (last_at new) old.before.items new.before.items linked (omega (arith, many, few))
    (λ t. behind.last t ∙ ap (λ (n : ℕ). if t == clause_sum clause then n else last_at old t) many) behind.before)

pub AreLinked-without : (clauses clauses' : List (List ℕ)) (k s count behind : ℕ) (old new : Places) → AreLinked clauses (last_at old) old.before.items → IsLink clauses (last_at old) old.before.items s k behind → k < behind → k < length clauses → count ≡ length clauses → IsUnlinked old count s k behind new → clauses' ≡ set clauses k [] → AreLinked clauses' (last_at new) new.before.items
AreLinked-without clauses clauses' k s count behind old new linked link h low many gone same =
    let behind_low = link_within clauses (last_at old) old.before.items s k behind link in
    subst (λ (cs : List (List ℕ)). AreLinked cs (last_at new) new.before.items) (sym same)
    (AreLinked-delete clauses k s (found_sum clauses s behind k link.latest h (omega (arith, behind_low, linked.few))) (last_at old) (last_at new) old.before.items new.before.items behind linked link h
    (λ t. gone.last t ∙ ap (λ (n : ℕ). if behind == n && t == s then get_or old.before.items k 0 else last_at old t) many)
    (gone.before ∙ ap (λ (n : ℕ). if behind == n then old.before.items else set old.before.items behind (get_or old.before.items k 0)) many))
