-- Gates that wait for others.
use Rattle.std.proofs.Common.{Option, None, Some, ◌≡◌, ℕ, zero, suc, ◌+◌, ◌-◌, ◌*◌, ◌<◌, ◌≤◌, Bool, true, false, not, ◌&&◌, ◌||◌, List, [], ◌∷◌, ◌++◌, length, replicate, ◌⊎◌, inl, inr, nat_eq, nat_lt, get_or, slice_index_or, slice_set, refl, ap, sym, ◌∙◌, subst, arith, if◌then◌else◌, append_assoc, append-nil, ⊎_elim}
use Rattle.std.proofs.HeapSift.{at_most}
use Rattle.std.proofs.lemmas.Bool.Decides.{nat_tests}
use Rattle.std.proofs.lemmas.Bool.{and_from, and_left, and_parts, and_right, both_ways, cases_eq, cases_lt, cases_order, eq-eqb, eqb-false, eqb-true, le-ltb, lt-ltb, ltb-true, ne_eqb, not-false, not-true, or_parts, or_right}
use Rattle.std.proofs.lemmas.Cmp.{nat_eq_equiv}
use Rattle.std.proofs.lemmas.List.{get_or-replicate, get_or-set_same, get_or-set_other, length-replicate, length-set}
use Rattle.std.proofs.lemmas.Grind.{get_or_default_zero}
use Rattle.std.proofs.lemmas.List.Folds.{list_any-append}
use Rattle.std.proofs.lemmas.List.Sorted.{sum_by_popped, sum_by_pushed}
use Rattle.std.proofs.lemmas.List.Sums.{sum_by-cons}
use Rattle.std.proofs.lemmas.Map.Keys.{IsDistinct-push}
use Rattle.std.proofs.lemmas.Map.Steps.{length-le_from_distinct_below}
use Rattle.std.specs.BinaryHeap.{IsHeap, IsUpperBound, PopsGreatest}
use Rattle.std.specs.List.{AllByRecursion, list_any, IsDistinct}
use Rattle.std.specs.List.Sorted.{IsPermutation}
use Rattle.std.specs.declared.cmp.Reverse.{Reverse}
use Rattle.aigerlists.specs.Readiness.{slot_at, waits_for_nothing, awaited, may_be_next, AreSlots, is_passed, stands, IsChain, turns, one_if, times_ready, IsFirstReady, is_open, IsPut, IsFirst, AreFirst, AreDone, IsUnderway, IsTaken}
use Rattle.aigerlists.proofs.OrderLemmas.{false_unless}

-- what is read at a position is the element there
pub read_at : (xs : List ℕ) (i e : ℕ) → i < length xs → e ≡ get_or xs i e → slice_index_or xs i 0 ≡ e
read_at xs i e low h = sym (h ∙ get_or_default_zero xs i e low)

-- a slot of a gate among others
pub any_suc : (slot g : ℕ) (xs : List ℕ) → slot ≡ suc g → list_any (λ h. nat_eq slot (suc h)) xs ≡ list_any (nat_eq g) xs
any_suc slot g [] e = refl
any_suc slot g (x ∷ xs) e =
    let r = any_suc slot g xs e in
    let h : nat_eq slot (suc x) ≡ nat_eq g x = grind (arith, nat_tests) in
    cc

-- a test of a list with one more at the end
any_push : (j g : ℕ) (done : List ℕ) → list_any (nat_eq j) (done ++ g ∷ []) ≡ true → (list_any (nat_eq j) done ≡ true) ⊎ (j ≡ g)
any_push j g done t = by (list_any (nat_eq j) done) refl
  where
    by : (b : Bool) → list_any (nat_eq j) done ≡ b → (list_any (nat_eq j) done ≡ true) ⊎ (j ≡ g)
    by true e = inl e
    by false e =
        let a = list_any-append (nat_eq j) done (g ∷ []) in
        let s : nat_eq j g ≡ true = grind (arith, nat_tests, a, e, t) in
        inr (grind (arith, nat_tests))

any_last : (g : ℕ) (done : List ℕ) → list_any (nat_eq g) (done ++ g ∷ []) ≡ true
any_last g done =
    let a = list_any-append (nat_eq g) done (g ∷ []) in
    let s : nat_eq g g ≡ true = eq-eqb g g refl in
    grind (arith, nat_tests, a, s)

any_other : (j g : ℕ) (done : List ℕ) → nat_eq j g ≡ false → list_any (nat_eq j) (done ++ g ∷ []) ≡ list_any (nat_eq j) done
any_other j g done s =
    let a = list_any-append (nat_eq j) done (g ∷ []) in
    grind (arith, nat_tests, a, s)

or_last : (a b c : Bool) → (a || (b || (c || false))) ≡ ((a || b) || c)
or_last true b c = refl
or_last false true c = refl
or_last false false true = refl
or_last false false false = refl

-- a slot once a gate more is done
free_push : (slots done : List ℕ) (g s : ℕ) → waits_for_nothing slots (done ++ g ∷ []) s ≡ (waits_for_nothing slots done s || nat_eq (slot_at slots s) (suc g))
free_push slots done g s =
    ap (λ (b : Bool). nat_eq (slot_at slots s) 0 || b) (list_any-append (λ (h : ℕ). nat_eq (slot_at slots s) (suc h)) done (g ∷ [])) ∙ or_last (nat_eq (slot_at slots s) 0) (list_any (λ h. nat_eq (slot_at slots s) (suc h)) done) (nat_eq (slot_at slots s) (suc g))

-- a slot that waits names no gate that is done
open_slot : (slots done : List ℕ) (s g : ℕ) → waits_for_nothing slots done s ≡ false → slot_at slots s ≡ suc g → list_any (nat_eq g) done ≡ false
open_slot slots done s g t e = sym (any_suc (slot_at slots s) g done e) ∙ (or_parts (nat_eq (slot_at slots s) 0) (list_any (λ h. nat_eq (slot_at slots s) (suc h)) done) t).1

-- what a gate waits for is not done
awaited_open : (slots done : List ℕ) (j g : ℕ) → awaited slots done j ≡ suc g → list_any (nat_eq g) done ≡ false
awaited_open slots done j g e = by (waits_for_nothing slots done (2 * j)) (waits_for_nothing slots done (2 * j + 1)) refl refl e
  where
    by : (p q : Bool) → waits_for_nothing slots done (2 * j) ≡ p → waits_for_nothing slots done (2 * j + 1) ≡ q → (if p then (if q then 0 else slot_at slots (2 * j + 1)) else slot_at slots (2 * j)) ≡ suc g → list_any (nat_eq g) done ≡ false
    by true true t u h = absurd (cc)
    by true false t u h = open_slot slots done (2 * j + 1) g u h
    by false q t u h = open_slot slots done (2 * j) g t h

-- a gate that waits for another one waits for it still
awaited_kept : (slots done : List ℕ) (g j : ℕ) → nat_eq (awaited slots done j) (suc g) ≡ false → awaited slots (done ++ g ∷ []) j ≡ awaited slots done j
awaited_kept slots done g j other =
    ap (λ (t : Bool). if t then (if waits_for_nothing slots (done ++ g ∷ []) (2 * j + 1) then 0 else slot_at slots (2 * j + 1)) else slot_at slots (2 * j)) (free_push slots done g (2 * j))
    ∙ (ap (λ (t : Bool). if waits_for_nothing slots done (2 * j) || nat_eq (slot_at slots (2 * j)) (suc g) then (if t then 0 else slot_at slots (2 * j + 1)) else slot_at slots (2 * j)) (free_push slots done g (2 * j + 1))
    ∙ by (slot_at slots (2 * j)) (slot_at slots (2 * j + 1)) (waits_for_nothing slots done (2 * j)) (waits_for_nothing slots done (2 * j + 1)) (nat_eq (slot_at slots (2 * j)) (suc g)) (nat_eq (slot_at slots (2 * j + 1)) (suc g)) refl refl other)
  where
    by : (a b : ℕ) (p q x y : Bool) → nat_eq a (suc g) ≡ x → nat_eq b (suc g) ≡ y → nat_eq (if p then (if q then 0 else b) else a) (suc g) ≡ false → (if p || x then (if q || y then 0 else b) else a) ≡ (if p then (if q then 0 else b) else a)
    by a b true true x y e f h = refl
    by a b true false x true e f h = absurd (both_ways (nat_eq b (suc g)) h f)
    by a b true false x false e f h = refl
    by a b false q true y e f h = absurd (both_ways (nat_eq a (suc g)) h e)
    by a b false q false y e f h = refl

-- the first slot of a gate that waits for this one waits no longer once it is done
freed_first : (slots done : List ℕ) (g j : ℕ) → awaited slots done j ≡ suc g → waits_for_nothing slots (done ++ g ∷ []) (2 * j) ≡ true
freed_first slots done g j e = free_push slots done g (2 * j) ∙ by (waits_for_nothing slots done (2 * j)) e
  where
    by : (p : Bool) → (if p then (if waits_for_nothing slots done (2 * j + 1) then 0 else slot_at slots (2 * j + 1)) else slot_at slots (2 * j)) ≡ suc g → (p || nat_eq (slot_at slots (2 * j)) (suc g)) ≡ true
    by true h = refl
    by false h = eq-eqb (slot_at slots (2 * j)) (suc g) h

-- where a gate's first slot waits, and where it does not
awaited_first : (slots done : List ℕ) (j : ℕ) → waits_for_nothing slots done (2 * j) ≡ false → awaited slots done j ≡ slot_at slots (2 * j)
awaited_first slots done j t = ap (λ (b : Bool). if b then (if waits_for_nothing slots done (2 * j + 1) then 0 else slot_at slots (2 * j + 1)) else slot_at slots (2 * j)) t

awaited_second : (slots done : List ℕ) (j : ℕ) (b : Bool) → waits_for_nothing slots done (2 * j) ≡ true → waits_for_nothing slots done (2 * j + 1) ≡ b → awaited slots done j ≡ (if b then 0 else slot_at slots (2 * j + 1))
awaited_second slots done j b t e =
    ap (λ (b : Bool). if b then (if waits_for_nothing slots done (2 * j + 1) then 0 else slot_at slots (2 * j + 1)) else slot_at slots (2 * j)) t ∙ ap (λ (b : Bool). if b then 0 else slot_at slots (2 * j + 1)) e

-- a slot that the links still have is open where it waits
open_is : (slots : List ℕ) (n : ℕ) (done heads links : List ℕ) (s : ℕ) → AreSlots slots n → AreDone n done heads → slot_at links s ≡ slot_at slots s → s < length slots → is_open heads links s ≡ not (waits_for_nothing slots done s)
open_is slots n done heads links s are marks e low =
    ap (λ (x : ℕ). not (nat_eq x 0) && not (nat_eq (slice_index_or heads (x - 1) 0) 0)) e ∙ by (slot_at slots s) (are.within s 0 low)
  where
    by : (x : ℕ) → x ≤ n → (not (nat_eq x 0) && not (nat_eq (slice_index_or heads (x - 1) 0) 0)) ≡ not (nat_eq x 0 || list_any (λ g. nat_eq x (suc g)) done)
    by zero h = refl
    by (suc g) h =
        let z : suc g - 1 ≡ g = omega arith in
        let m : nat_eq (slice_index_or heads (suc g - 1) 0) 0 ≡ list_any (nat_eq g) done = ap (λ (k : ℕ). nat_eq (slice_index_or heads k 0) 0) z ∙ marks.each g (omega arith) in
        let f : nat_eq (suc g) 0 ≡ false = ne_eqb (suc g) 0 (λ x. omega arith) in
        ap (λ (b : Bool). not (nat_eq (suc g) 0) && not b) m ∙ (ap (λ (b : Bool). not b && not (list_any (nat_eq g) done)) f ∙ sym (ap (λ (b : Bool). not (b || list_any (λ h. nat_eq (suc g) (suc h)) done)) f ∙ ap not (any_suc (suc g) g done refl)))

-- the parts of a gate that may be next
next_parts : (slots : List ℕ) (n : ℕ) (done : List ℕ) (j : ℕ) → may_be_next slots n done j ≡ true → (j < n) × (list_any (nat_eq j) done ≡ false) × (awaited slots done j ≡ 0)
next_parts slots n done j t =
    let p = and_parts (nat_lt j n) (not (list_any (nat_eq j) done) && nat_eq (awaited slots done j) 0) t in
    let q = and_parts (not (list_any (nat_eq j) done)) (nat_eq (awaited slots done j) 0) p.1 in
    (ltb-true j n p.0, not-true (list_any (nat_eq j) done) q.0, eqb-true (awaited slots done j) 0 q.1)

next_from : (slots : List ℕ) (n : ℕ) (done : List ℕ) (j : ℕ) → j < n → list_any (nat_eq j) done ≡ false → awaited slots done j ≡ 0 → may_be_next slots n done j ≡ true
next_from slots n done j low new none =
    and_from (nat_lt j n) (not (list_any (nat_eq j) done) && nat_eq (awaited slots done j) 0) (lt-ltb j n low) (and_from (not (list_any (nat_eq j) done)) (nat_eq (awaited slots done j) 0) (ap not new) (eq-eqb (awaited slots done j) 0 none))

-- a gate that waits for something may not be next, and one that waits for nothing stands in no chain
not_next : (slots : List ℕ) (n : ℕ) (done : List ℕ) (j k h : ℕ) → awaited slots done j ≡ suc h → nat_eq k j ≡ true → may_be_next slots n done k ≡ false
not_next slots n done j k h wait t =
    let w : awaited slots done k ≡ suc h = ap (awaited slots done) (eqb-true k j t) ∙ wait in
    let z : nat_eq (awaited slots done k) 0 ≡ false = ne_eqb (awaited slots done k) 0 (λ x. let y : 0 ≡ suc h = sym x ∙ w in omega (arith, y)) in
    and_right (nat_lt k n) (not (list_any (nat_eq k) done) && nat_eq (awaited slots done k) 0) (and_right (not (list_any (nat_eq k) done)) (nat_eq (awaited slots done k) 0) z)

not_other : (slots done : List ℕ) (j k g h : ℕ) → awaited slots done j ≡ h → (h ≡ suc g → ⊥) → nat_eq k j ≡ true → nat_eq (awaited slots done k) (suc g) ≡ false
not_other slots done j k g h wait other t = ne_eqb (awaited slots done k) (suc g) (λ x. other (sym (ap (awaited slots done) (eqb-true k j t) ∙ wait) ∙ x))

-- a gate that is looked at stands nowhere
looked_at : (bound : ℕ) (away : List ℕ) (j k : ℕ) (b : Bool) → nat_eq k j ≡ true → (is_passed bound (j ∷ away) k && b) ≡ false
looked_at bound away j k b t =
    and_left (is_passed bound (j ∷ away) k) b (and_right (nat_lt k bound) (not (nat_eq k j || list_any (nat_eq k) away)) (ap (λ (x : Bool). not (x || list_any (nat_eq k) away)) t))

-- that it is looked at no longer changes only where it stands
back : (bound : ℕ) (away : List ℕ) (j k : ℕ) (b : Bool) → (nat_eq k j ≡ true → b ≡ false) → (is_passed bound (j ∷ away) k && b) ≡ (is_passed bound away k && b)
back bound away j k b none = by (nat_eq k j) refl
  where
    by : (t : Bool) → nat_eq k j ≡ t → (is_passed bound (j ∷ away) k && b) ≡ (is_passed bound away k && b)
    by true e = looked_at bound away j k b e ∙ sym (and_right (is_passed bound away k) b (none e))
    by false e = ap (λ (t : Bool). (nat_lt k bound && not (t || list_any (nat_eq k) away)) && b) e

-- where it stands then
stands_now : (bound : ℕ) (away : List ℕ) (j k : ℕ) (b : Bool) → list_any (nat_eq j) away ≡ false → j < bound → nat_eq k j ≡ true → b ≡ true → (is_passed bound away k && b) ≡ true
stands_now bound away j k b new low t is =
    let p : is_passed bound away j ≡ true = and_from (nat_lt j bound) (not (list_any (nat_eq j) away)) (lt-ltb j bound low) (ap not new) in
    and_from (is_passed bound away k) b (ap (is_passed bound away) (eqb-true k j t) ∙ p) is

-- a chain is kept where the link of a gate changes that does not stand in it
chain_kept : (links : List ℕ) (k v at : ℕ) (js : List ℕ) → list_any (nat_eq k) js ≡ false → IsChain links at js → IsChain (slice_set links (2 * k) v) at js
chain_kept links k v at [] new c = c
chain_kept links k v at (j ∷ js) new c =
    let p = or_parts (nat_eq k j) (list_any (nat_eq k) js) new in
    let other : 2 * j ≡ 2 * k → ⊥ = λ e. eqb-false k j p.0 (omega (arith, e)) in
    (c.0, c.1, subst (λ (a : ℕ). IsChain (slice_set links (2 * k) v) a js) (sym (get_or-set_other links (2 * k) (2 * j) v 0 other)) (chain_kept links k v (slot_at links (2 * j)) js p.1 c.2))

-- a gate that is looked at is put into the chain of what it waits for
put : (slots : List ℕ) (n bound : ℕ) (done away heads links heads_put links_put : List ℕ) (ready now : ℕ → ℕ) (j s : ℕ) → IsUnderway slots n bound done (j ∷ away) heads links ready → list_any (nat_eq j) away ≡ false → j < bound
    → s < length slots → slot_at links s ≡ slot_at slots s → waits_for_nothing slots done s ≡ false → awaited slots done j ≡ slot_at slots s → IsPut j s heads links heads_put links_put → ((i : ℕ) → now i ≡ ready i) → IsUnderway slots n bound done away heads_put links_put now
put slots n bound done away heads links heads_put links_put ready now j s u new low place same busy waits is still =
    subst (λ (x : List ℕ). IsUnderway slots n bound done away heads_put x now) (sym (is.link ∙ ap (λ (i : ℕ). slice_set links (2 * j) (slice_index_or heads i 0)) named))
    (subst (λ (x : List ℕ). IsUnderway slots n bound done away x (slice_set links (2 * j) (slice_index_or heads h 0)) now) (sym (is.head ∙ ap (λ (i : ℕ). slice_set heads i (j + 2)) named)) at_once)
  where
    h : ℕ
    h = slot_at slots s - 1

    some : slot_at slots s ≡ suc h
    some = let x = eqb-false (slot_at slots s) 0 (or_parts (nat_eq (slot_at slots s) 0) (list_any (λ g. nat_eq (slot_at slots s) (suc g)) done) busy).0 in ⊎_elim (λ (z : slot_at slots s < 1). absurd (x (omega arith))) (λ (z : 1 ≤ slot_at slots s). omega arith) (cases_lt (slot_at slots s) 1)

    named : slot_at links s - 1 ≡ h
    named = ap (λ (x : ℕ). x - 1) same

    wait : awaited slots done j ≡ suc h
    wait = waits ∙ some

    within : h < length heads
    within = omega (arith, some, u.are.within s 0 place, u.marks.count)

    here : (g : ℕ) → g ≡ h → slice_index_or (slice_set heads h (j + 2)) g 0 ≡ j + 2
    here g e = ap (λ (i : ℕ). slice_index_or (slice_set heads h (j + 2)) i 0) e ∙ get_or-set_same heads h (j + 2) 0 within

    marked : (g : ℕ) → g < n → nat_eq (slice_index_or (slice_set heads h (j + 2)) g 0) 0 ≡ list_any (nat_eq g) done
    marked g l =
        ⊎_elim
        (λ (e : g ≡ h). ap (λ (i : ℕ). nat_eq i 0) (here g e) ∙ (ne_eqb (j + 2) 0 (λ x. omega arith) ∙ sym (ap (λ (i : ℕ). list_any (nat_eq i) done) e ∙ awaited_open slots done j h wait)))
        (λ (o : g ≡ h → ⊥). ap (λ (i : ℕ). nat_eq i 0) (get_or-set_other heads h g (j + 2) 0 o) ∙ u.marks.each g l)
        (cases_eq g h)

    below : (g : ℕ) → g < length (slice_set heads h (j + 2)) → g < length heads
    below g l = omega (arith, l, length-set heads h (j + 2))

    absent : (g : ℕ) → g < length heads → list_any (nat_eq j) (u.chains.chain g) ≡ false
    absent g l = u.chains.each g j l ∙ looked_at bound away j j (nat_eq (awaited slots done j) (suc g)) (eq-eqb j j refl)

    kept : (g : ℕ) → g < length heads → IsChain (slice_set links (2 * j) (slice_index_or heads h 0)) (slice_index_or heads g 0) (u.chains.chain g)
    kept g l = chain_kept links j (slice_index_or heads h 0) (slice_index_or heads g 0) (u.chains.chain g) (absent g l) (u.chains.are g l)

    are : (g : ℕ) → g < length (slice_set heads h (j + 2)) → IsChain (slice_set links (2 * j) (slice_index_or heads h 0)) (slice_index_or (slice_set heads h (j + 2)) g 0) (if nat_eq g h then j ∷ u.chains.chain g else u.chains.chain g)
    are g l = by (nat_eq g h) refl
      where
        by : (t : Bool) → nat_eq g h ≡ t → IsChain (slice_set links (2 * j) (slice_index_or heads h 0)) (slice_index_or (slice_set heads h (j + 2)) g 0) (if t then j ∷ u.chains.chain g else u.chains.chain g)
        by true t =
            let e : g ≡ h = eqb-true g h t in
            let at' : slot_at (slice_set links (2 * j) (slice_index_or heads h 0)) (2 * j) ≡ slice_index_or heads g 0 =
            get_or-set_same links (2 * j) (slice_index_or heads h 0) 0 (omega (arith, low, u.low, u.kept.count, u.are.count)) ∙ ap (λ (i : ℕ). slice_index_or heads i 0) (sym e) in
            (here g e, absent g (below g l), subst (λ (a : ℕ). IsChain (slice_set links (2 * j) (slice_index_or heads h 0)) a (u.chains.chain g)) (sym at') (kept g (below g l)))
        by false t =
            subst (λ (a : ℕ). IsChain (slice_set links (2 * j) (slice_index_or heads h 0)) a (u.chains.chain g)) (sym (get_or-set_other heads h g (j + 2) 0 (eqb-false g h t))) (kept g (below g l))

    each : (g k : ℕ) → g < length (slice_set heads h (j + 2)) → list_any (nat_eq k) (if nat_eq g h then j ∷ u.chains.chain g else u.chains.chain g) ≡ stands slots bound done away g k
    each g k l = by (nat_eq g h) refl
      where
        other : (nat_eq k j ≡ true → nat_eq (awaited slots done k) (suc g) ≡ false) → list_any (nat_eq k) (u.chains.chain g) ≡ stands slots bound done away g k
        other none = u.chains.each g k (below g l) ∙ back bound away j k (nat_eq (awaited slots done k) (suc g)) none

        in_it : (b : Bool) → nat_eq k j ≡ b → g ≡ h → (b || list_any (nat_eq k) (u.chains.chain g)) ≡ stands slots bound done away g k
        in_it true x e =
            let w : awaited slots done k ≡ suc g = ap (awaited slots done) (eqb-true k j x) ∙ (wait ∙ ap suc (sym e)) in
            sym (stands_now bound away j k (nat_eq (awaited slots done k) (suc g)) new low x (eq-eqb (awaited slots done k) (suc g) w))
        in_it false x e = other (λ y. absurd (both_ways (nat_eq k j) x y))

        by : (t : Bool) → nat_eq g h ≡ t → list_any (nat_eq k) (if t then j ∷ u.chains.chain g else u.chains.chain g) ≡ stands slots bound done away g k
        by true t = in_it (nat_eq k j) refl (eqb-true g h t)
        by false t = other (not_other slots done j k g (suc h) wait (λ x. eqb-false g h t (omega (arith, x))))

    at_once : IsUnderway slots n bound done away (slice_set heads h (j + 2)) (slice_set links (2 * j) (slice_index_or heads h 0)) now
    at_once = record {
      are = u.are;
      low = u.low;
      kept = record {
        count = length-set links (2 * j) (slice_index_or heads h 0) ∙ u.kept.count;
        second = λ k. get_or-set_other links (2 * j) (2 * k + 1) (slice_index_or heads h 0) 0 (λ e. omega (arith, e)) ∙ u.kept.second k;
        first = λ k more. get_or-set_other links (2 * j) (2 * k) (slice_index_or heads h 0) 0 (λ e. omega (arith, e, more, low)) ∙ u.kept.first k more;
      };
      marks = record { count = length-set heads h (j + 2) ∙ u.marks.count; each = marked };
      chains = record { chain = λ g. if nat_eq g h then j ∷ u.chains.chain g else u.chains.chain g; are = are; each = each };
      has = λ k. still k ∙ u.has k ∙ ap one_if (back bound away j k (may_be_next slots n done k) (not_next slots n done j k h wait));
      before = u.before;
      closed = u.closed;
      in_turn = u.in_turn;
    }

-- a gate that is looked at is ready
note : (slots : List ℕ) (n bound : ℕ) (done away heads links : List ℕ) (ready now : ℕ → ℕ) (j : ℕ) → IsUnderway slots n bound done (j ∷ away) heads links ready → list_any (nat_eq j) away ≡ false → j < bound → list_any (nat_eq j) done ≡ false → awaited slots done j ≡ 0
    → ((i : ℕ) → now i ≡ ready i + one_if (nat_eq j i)) → IsUnderway slots n bound done away heads links now
note slots n bound done away heads links ready now j u new low left none is =
    record {
      are = u.are;
      low = u.low;
      kept = u.kept;
      marks = u.marks;
      chains = record { chain = u.chains.chain; are = u.chains.are; each = λ g k l. u.chains.each g k l ∙ back bound away j k (nat_eq (awaited slots done k) (suc g)) (not_other slots done j k g 0 none (λ x. omega (arith, x))) };
      has = λ k. each k (nat_eq k j) refl;
      before = u.before;
      closed = u.closed;
      in_turn = u.in_turn;
    }
  where
    each : (k : ℕ) (t : Bool) → nat_eq k j ≡ t → now k ≡ one_if (is_passed bound away k && may_be_next slots n done k)
    each k true t =
        let turn : may_be_next slots n done k ≡ true = ap (may_be_next slots n done) (eqb-true k j t) ∙ next_from slots n done j (omega (arith, low, u.low)) left none in
        let old : one_if (is_passed bound (j ∷ away) k && may_be_next slots n done k) ≡ 0 = ap one_if (looked_at bound away j k (may_be_next slots n done k) t) in
        let more : one_if (nat_eq j k) ≡ 1 = ap one_if (eq-eqb j k (sym (eqb-true k j t))) in
        let here : one_if (is_passed bound away k && may_be_next slots n done k) ≡ 1 = ap one_if (stands_now bound away j k (may_be_next slots n done k) new low t turn) in
        omega (arith, is k, u.has k, old, more, here)
    each k false t =
        let more : one_if (nat_eq j k) ≡ 0 = ap one_if (ne_eqb j k (λ x. eqb-false k j t (sym x))) in
        let same : one_if (is_passed bound (j ∷ away) k && may_be_next slots n done k) ≡ one_if (is_passed bound away k && may_be_next slots n done k) = ap one_if (back bound away j k (may_be_next slots n done k) (λ x. absurd (both_ways (nat_eq k j) t x))) in
        omega (arith, is k, u.has k, more, same)

-- how often a gate is in a heap
abbrev pub times_in : List (Reverse ℕ) → ℕ → ℕ
times_in others i = times_ready None others i

-- no gate before the one that a heap gives is in it
pub times_before : (i g : ℕ) (x : Reverse ℕ) (others : List (Reverse ℕ)) → i < g → g ≤ x.0 → IsUpperBound turns x others → times_in others i ≡ 0
times_before i g x [] low most h = refl
times_before i g x (y ∷ others) low most h =
    let least : x.0 ≤ y.0 = at_most y.0 x.0 h.0 in
    let no : nat_eq y.0 i ≡ false = ne_eqb y.0 i (λ e. omega (arith, e, least, low, most)) in
    let here : one_if (nat_eq y.0 i) ≡ 0 = ap one_if no in
    omega (arith, sum_by-cons (λ (g : Reverse ℕ). one_if (nat_eq g.0 i)) y others, here, times_before i g x others low most h.1)

-- one more in a heap, and the first one out of it
pub times_pushed : (i : ℕ) (x : Reverse ℕ) (others now : List (Reverse ℕ)) → IsPermutation (x ∷ others) now → times_in now i ≡ one_if (nat_eq x.0 i) + times_in others i
times_pushed i x others now moved = sum_by_pushed (λ (g : Reverse ℕ). one_if (nat_eq g.0 i)) x others now moved

pub first_popped : (x : Reverse ℕ) (others now : List (Reverse ℕ)) → IsHeap turns others → IsPermutation others (x ∷ now) → PopsGreatest turns others x now → IsFirstReady (Some x.0) (times_in others) (times_in now)
first_popped x others now heap moved pops = (λ i. sum_by_popped (λ (g : Reverse ℕ). one_if (nat_eq g.0 i)) x others now moved, λ i low. times_before i x.0 x others low (omega arith) (pops heap).1)

-- the one that stands apart, where it comes before all in a heap
pub apart_first : (g : ℕ) (others : List (Reverse ℕ)) → ((i : ℕ) → i < g → times_in others i ≡ 0) → IsFirstReady (Some g) (times_ready (Some g) others) (times_in others)
apart_first g others none = (λ i. omega arith, λ i low. let no : one_if (nat_eq g i) ≡ 0 = ap one_if (ne_eqb g i (λ e. omega (arith, e, low))) in omega (arith, no, none i low))

-- of as many ready gates
pub first_same : (g : Option ℕ) (old was new : ℕ → ℕ) → ((i : ℕ) → was i ≡ old i) → IsFirstReady g was new → IsFirstReady g old new
first_same None old was new e f = λ i. (sym (e i) ∙ (f i).0, (f i).1)
first_same (Some g) old was new e f = (λ i. f.0 i ∙ e i, λ i low. sym (e i) ∙ f.1 i low)

-- a test by how often it is passed
passed : (b : Bool) → 1 ≤ one_if b → b ≡ true
passed true h = refl
passed false h = absurd (omega arith)

failed : (b : Bool) → one_if b ≡ 0 → b ≡ false
failed true h = absurd (omega (arith, h))
failed false h = refl

-- where none before the bound is ready, none of them may be next
none_passed : (bound i : ℕ) (b : Bool) → i < bound → one_if (is_passed bound [] i && b) ≡ 0 → b ≡ false
none_passed bound i b low none = sym (ap (λ (t : Bool). (t && not false) && b) (lt-ltb i bound low)) ∙ failed (is_passed bound [] i && b) none

-- the first of those that are ready leaves them
pub popped : (slots : List ℕ) (n bound : ℕ) (done heads links : List ℕ) (ready rest : ℕ → ℕ) (x : ℕ) → IsUnderway slots n bound done [] heads links ready → IsFirstReady (Some x) ready rest → IsTaken slots n bound done x heads links rest
popped slots n bound done heads links ready rest x u is =
    record {
      underway = record {
        are = u.are;
        low = u.low;
        kept = u.kept;
        marks = u.marks;
        chains = record { chain = u.chains.chain; are = u.chains.are; each = λ g k l. u.chains.each g k l ∙ sym (back bound [] x k (nat_eq (awaited slots done k) (suc g)) (not_other slots done x k g 0 parts.2 (λ y. omega (arith, y)))) };
        has = λ k. each k (nat_eq k x) refl;
        before = u.before;
        closed = u.closed;
        in_turn = u.in_turn;
      };
      first = record { ready = turn.1; first = λ i low. none_passed bound i (may_be_next slots n done i) (omega (arith, low, within)) (sym (u.has i) ∙ is.1 i low) };
      within = within;
    }
  where
    turn : (is_passed bound [] x ≡ true) × (may_be_next slots n done x ≡ true)
    turn =
        let here : one_if (nat_eq x x) ≡ 1 = ap one_if (eq-eqb x x refl) in
        and_parts (is_passed bound [] x) (may_be_next slots n done x) (passed (is_passed bound [] x && may_be_next slots n done x) (omega (arith, is.0 x, here, u.has x)))

    within : x < bound
    within = ltb-true x bound (and_parts (nat_lt x bound) (not false) turn.0).0

    parts : (x < n) × (list_any (nat_eq x) done ≡ false) × (awaited slots done x ≡ 0)
    parts = next_parts slots n done x turn.1

    each : (k : ℕ) (t : Bool) → nat_eq k x ≡ t → rest k ≡ one_if (is_passed bound (x ∷ []) k && may_be_next slots n done k)
    each k true t =
        let e : k ≡ x = eqb-true k x t in
        let here : one_if (nat_eq x k) ≡ 1 = ap one_if (eq-eqb x k (sym e)) in
        let once : one_if (is_passed bound [] k && may_be_next slots n done k) ≡ 1 = ap (λ (i : ℕ). one_if (is_passed bound [] i && may_be_next slots n done i)) e ∙ ap one_if (and_from (is_passed bound [] x) (may_be_next slots n done x) turn.0 turn.1) in
        let now : one_if (is_passed bound (x ∷ []) k && may_be_next slots n done k) ≡ 0 = ap one_if (looked_at bound [] x k (may_be_next slots n done k) t) in
        omega (arith, is.0 k, here, once, u.has k, now)
    each k false t =
        let here : one_if (nat_eq x k) ≡ 0 = ap one_if (ne_eqb x k (λ y. eqb-false k x t (sym y))) in
        let now : one_if (is_passed bound (x ∷ []) k && may_be_next slots n done k) ≡ one_if (is_passed bound [] k && may_be_next slots n done k) = ap one_if (back bound [] x k (may_be_next slots n done k) (λ y. absurd (both_ways (nat_eq k x) t y))) in
        omega (arith, is.0 k, here, u.has k, now)

-- a bound more, of which the last gate is looked at
one_more : (c k : ℕ) → is_passed c [] k ≡ is_passed (c + 1) (c ∷ []) k
one_more c k =
    ⊎_elim
    (λ (e : k ≡ c).
    let a : nat_lt k c ≡ false = le-ltb k c (omega (arith, e)) in
    let b : nat_eq k c ≡ true = eq-eqb k c e in
    and_left (nat_lt k c) (not false) a ∙ sym (and_right (nat_lt k (c + 1)) (not (nat_eq k c || false)) (ap (λ (t : Bool). not (t || false)) b)))
    (λ (o : (k < c) ⊎ (c < k)).
    let b : nat_eq k c ≡ false = ne_eqb k c (λ e. ⊎_elim (λ (l : k < c). omega (arith, e, l)) (λ (l : c < k). omega (arith, e, l)) o) in
    let a : nat_lt k c ≡ nat_lt k (c + 1) = ⊎_elim (λ (l : k < c). lt-ltb k c l ∙ sym (lt-ltb k (c + 1) (omega (arith, l)))) (λ (l : c < k). le-ltb k c (omega (arith, l)) ∙ sym (le-ltb k (c + 1) (omega (arith, l)))) o in
    ap (λ (t : Bool). t && not false) a ∙ sym (ap (λ (t : Bool). nat_lt k (c + 1) && not (t || false)) b))
    (cases_order k c)

-- file order comes to a gate
comes_to : (slots : List ℕ) (n c : ℕ) (done heads links : List ℕ) (ready : ℕ → ℕ) → IsUnderway slots n c done [] heads links ready → c < n → IsUnderway slots n (c + 1) done (c ∷ []) heads links ready
comes_to slots n c done heads links ready u low =
    record {
      are = u.are;
      low = omega (arith, low);
      kept = record { count = u.kept.count; second = u.kept.second; first = λ j more. u.kept.first j (omega (arith, more)) };
      marks = u.marks;
      chains = record { chain = u.chains.chain; are = u.chains.are; each = λ g k l. u.chains.each g k l ∙ ap (λ (b : Bool). b && nat_eq (awaited slots done k) (suc g)) (one_more c k) };
      has = λ k. u.has k ∙ ap (λ (b : Bool). one_if (b && may_be_next slots n done k)) (one_more c k);
      before = λ j t. omega (arith, u.before j t);
      closed = u.closed;
      in_turn = u.in_turn;
    }

-- whether its slots are open
passed_open : (slots : List ℕ) (n c : ℕ) (done heads links : List ℕ) (ready : ℕ → ℕ) → IsUnderway slots n c done [] heads links ready → c < n → (is_open heads links (2 * c) ≡ not (waits_for_nothing slots done (2 * c))) × (is_open heads links (2 * c + 1) ≡ not (waits_for_nothing slots done (2 * c + 1)))
passed_open slots n c done heads links ready u low = (
  open_is slots n done heads links (2 * c) u.are u.marks (u.kept.first c (omega arith)) (omega (arith, u.are.count, low)),
  open_is slots n done heads links (2 * c + 1) u.are u.marks (u.kept.second c) (omega (arith, u.are.count, low)),
)

-- it waits for the first of its operands, for the second one, or is next
pub waits_for_first : (slots : List ℕ) (n c : ℕ) (done heads links heads_put links_put : List ℕ) (ready : ℕ → ℕ) → IsUnderway slots n c done [] heads links ready → c < n → is_open heads links (2 * c) ≡ true → IsPut c (2 * c) heads links heads_put links_put → IsUnderway slots n (c + 1) done [] heads_put links_put ready
waits_for_first slots n c done heads links heads_put links_put ready u low opened is =
    let free : waits_for_nothing slots done (2 * c) ≡ false = not-true (waits_for_nothing slots done (2 * c)) (sym (passed_open slots n c done heads links ready u low).0 ∙ opened) in
    put slots n (c + 1) done [] heads links heads_put links_put ready ready c (2 * c) (comes_to slots n c done heads links ready u low) refl (omega arith) (omega (arith, u.are.count, low)) (u.kept.first c (omega arith)) free (awaited_first slots done c free) is (λ i. refl)

pub waits_for_second : (slots : List ℕ) (n c : ℕ) (done heads links heads_put links_put : List ℕ) (ready : ℕ → ℕ) → IsUnderway slots n c done [] heads links ready → c < n → is_open heads links (2 * c) ≡ false → is_open heads links (2 * c + 1) ≡ true → IsPut c (2 * c + 1) heads links heads_put links_put
    → IsUnderway slots n (c + 1) done [] heads_put links_put ready
waits_for_second slots n c done heads links heads_put links_put ready u low closed opened is =
    let p = passed_open slots n c done heads links ready u low in
    let first : waits_for_nothing slots done (2 * c) ≡ true = not-false (waits_for_nothing slots done (2 * c)) (sym p.0 ∙ closed) in
    let free : waits_for_nothing slots done (2 * c + 1) ≡ false = not-true (waits_for_nothing slots done (2 * c + 1)) (sym p.1 ∙ opened) in
    put slots n (c + 1) done [] heads links heads_put links_put ready ready c (2 * c + 1) (comes_to slots n c done heads links ready u low) refl (omega arith) (omega (arith, u.are.count, low)) (u.kept.second c) free (awaited_second slots done c false first free) is (λ i. refl)

pub taken_at_once : (slots : List ℕ) (n c : ℕ) (done heads links : List ℕ) (ready : ℕ → ℕ) → IsUnderway slots n c done [] heads links ready → c < n → ((i : ℕ) → ready i ≡ 0) → is_open heads links (2 * c) ≡ false → is_open heads links (2 * c + 1) ≡ false → IsTaken slots n (c + 1) done c heads links ready
taken_at_once slots n c done heads links ready u low none closed shut =
    let p = passed_open slots n c done heads links ready u low in
    let first : waits_for_nothing slots done (2 * c) ≡ true = not-false (waits_for_nothing slots done (2 * c)) (sym p.0 ∙ closed) in
    let second : waits_for_nothing slots done (2 * c + 1) ≡ true = not-false (waits_for_nothing slots done (2 * c + 1)) (sym p.1 ∙ shut) in
    let new : list_any (nat_eq c) done ≡ false = false_unless (list_any (nat_eq c) done) (λ t. omega (arith, u.before c t)) in
    record {
      underway = comes_to slots n c done heads links ready u low;
      first = record {
        ready = next_from slots n done c low new (awaited_second slots done c true first second);
        first = λ i less. none_passed c i (may_be_next slots n done i) less (sym (u.has i) ∙ none i);
      };
      within = omega arith;
    }

-- one more in turn
pub AreFirst-push : (passes : List ℕ → ℕ → Bool) (done js : List ℕ) (j : ℕ) → AreFirst passes done js → IsFirst passes (done ++ js) j → AreFirst passes done (js ++ j ∷ [])
AreFirst-push passes done [] j a f = (subst (λ (xs : List ℕ). IsFirst passes xs j) (append-nil done) f, tt)
AreFirst-push passes done (i ∷ js) j a f = (a.0, AreFirst-push passes (done ++ i ∷ []) js j a.1 (subst (λ (xs : List ℕ). IsFirst passes xs j) (sym (append_assoc done (i ∷ []) js)) f))

-- a gate that waited for one that has its place now
pub record IsFreed (slots : List ℕ) (bound : ℕ) (done : List ℕ) (j : ℕ) : Type 0 where
  pub low : j < bound
  pub left : list_any (nat_eq j) done ≡ false
  pub first : waits_for_nothing slots done (2 * j) ≡ true

-- on the way along the chain of a gate that has its place now
pub record IsWalk (slots : List ℕ) (n bound : ℕ) (done heads links : List ℕ) (ready : ℕ → ℕ) (at : ℕ) : Type 0 where
  pub rest : List ℕ
  pub underway : IsUnderway slots n bound done rest heads links ready
  pub chain : IsChain links at rest
  pub each : (j : ℕ) → list_any (nat_eq j) rest ≡ true → IsFreed slots bound done j

-- where a gate other than the one that takes its place stands then
moved_by : (g : ℕ) (low : Bool) (was now : ℕ) (test : ℕ → Bool) → test (suc g) ≡ false → (nat_eq was (suc g) ≡ false → now ≡ was) → (low && test was) ≡ ((low && not (low && nat_eq was (suc g))) && test now)
moved_by g low was now test none same = by (nat_eq was (suc g)) refl low
  where
    by : (b : Bool) → nat_eq was (suc g) ≡ b → (l : Bool) → (l && test was) ≡ ((l && not (l && b)) && test now)
    by true e true = ap test (eqb-true was (suc g) e) ∙ none
    by true e false = refl
    by false e true = ap test (sym (same e))
    by false e false = refl

pub walk_begins : (slots : List ℕ) (n bound : ℕ) (done heads links : List ℕ) (ready : ℕ → ℕ) (g : ℕ) → IsTaken slots n bound done g heads links ready → IsWalk slots n bound (done ++ g ∷ []) (slice_set heads g 0) links ready (slice_index_or heads g 0)
walk_begins slots n bound done heads links ready g is =
    record {
      rest = u.chains.chain g;
      underway = record {
        are = u.are;
        low = u.low;
        kept = u.kept;
        marks = record { count = length-set heads g 0 ∙ u.marks.count; each = λ k l. marked k (nat_eq k g) refl l };
        chains = record { chain = λ h. if nat_eq h g then [] else u.chains.chain h; are = λ h l. are h (nat_eq h g) refl (below h l); each = λ h k l. each h k (nat_eq h g) refl (below h l) };
        has = λ k. u.has k ∙ ap one_if (ready_now k (nat_eq k g) refl);
        before = λ k t. ⊎_elim (λ (x : list_any (nat_eq k) done ≡ true). u.before k x) (λ (e : k ≡ g). omega (arith, e, is.within)) (any_push k g done t);
        closed = λ k t. let z : awaited slots done k ≡ 0 = waits_not k t in awaited_kept slots done g k (ne_eqb (awaited slots done k) (suc g) (λ x. let y : 0 ≡ suc g = sym z ∙ x in omega (arith, y))) ∙ z;
        in_turn = AreFirst-push (may_be_next slots n) [] done g u.in_turn is.first;
      };
      chain = u.chains.are g within;
      each = freed;
    }
  where
    u : IsUnderway slots n bound done (g ∷ []) heads links ready
    u = is.underway

    parts : (g < n) × (list_any (nat_eq g) done ≡ false) × (awaited slots done g ≡ 0)
    parts = next_parts slots n done g is.first.ready

    within : g < length heads
    within = omega (arith, parts.0, u.marks.count)

    below : (h : ℕ) → h < length (slice_set heads g 0) → h < length heads
    below h l = omega (arith, l, length-set heads g 0)

    waits_not : (k : ℕ) → list_any (nat_eq k) (done ++ g ∷ []) ≡ true → awaited slots done k ≡ 0
    waits_not k t = ⊎_elim (λ (x : list_any (nat_eq k) done ≡ true). u.closed k x) (λ (e : k ≡ g). ap (awaited slots done) e ∙ parts.2) (any_push k g done t)

    marked : (k : ℕ) (t : Bool) → nat_eq k g ≡ t → k < n → nat_eq (slice_index_or (slice_set heads g 0) k 0) 0 ≡ list_any (nat_eq k) (done ++ g ∷ [])
    marked k true t l =
        let e : k ≡ g = eqb-true k g t in
        ap (λ (i : ℕ). nat_eq (slice_index_or (slice_set heads g 0) i 0) 0) e ∙ (ap (λ (i : ℕ). nat_eq i 0) (get_or-set_same heads g 0 0 within) ∙ sym (ap (λ (i : ℕ). list_any (nat_eq i) (done ++ g ∷ [])) e ∙ any_last g done))
    marked k false t l = ap (λ (i : ℕ). nat_eq i 0) (get_or-set_other heads g k 0 0 (eqb-false k g t)) ∙ (u.marks.each k l ∙ sym (any_other k g done t))

    are : (h : ℕ) (t : Bool) → nat_eq h g ≡ t → h < length heads → IsChain links (slice_index_or (slice_set heads g 0) h 0) (if t then [] else u.chains.chain h)
    are h true t l =
        let z : slice_index_or (slice_set heads g 0) h 0 ≡ 0 = ap (λ (i : ℕ). slice_index_or (slice_set heads g 0) i 0) (eqb-true h g t) ∙ get_or-set_same heads g 0 0 within in
        omega (arith, z)
    are h false t l = subst (λ (a : ℕ). IsChain links a (u.chains.chain h)) (sym (get_or-set_other heads g h 0 0 (eqb-false h g t))) (u.chains.are h l)

    and_true : (a b : Bool) → ((a && not false) && b) ≡ (a && b)
    and_true true b = refl
    and_true false b = refl

    -- who stands in the chain
    in_rest : (k : ℕ) → nat_eq k g ≡ false → list_any (nat_eq k) (u.chains.chain g) ≡ (nat_lt k bound && nat_eq (awaited slots done k) (suc g))
    in_rest k t = u.chains.each g k within ∙ back bound [] g k (nat_eq (awaited slots done k) (suc g)) (λ x. absurd (both_ways (nat_eq k g) t x)) ∙ and_true (nat_lt k bound) (nat_eq (awaited slots done k) (suc g))

    -- one that is not the gate, by what it waited for
    moved : (k : ℕ) (test : ℕ → Bool) → nat_eq k g ≡ false → test (suc g) ≡ false → (is_passed bound (g ∷ []) k && test (awaited slots done k)) ≡ (is_passed bound (u.chains.chain g) k && test (awaited slots (done ++ g ∷ []) k))
    moved k test t none =
        back bound [] g k (test (awaited slots done k)) (λ x. absurd (both_ways (nat_eq k g) t x)) ∙ (and_true (nat_lt k bound) (test (awaited slots done k))
        ∙ (moved_by g (nat_lt k bound) (awaited slots done k) (awaited slots (done ++ g ∷ []) k) test none (awaited_kept slots done g k) ∙ ap (λ (b : Bool). (nat_lt k bound && not b) && test (awaited slots (done ++ g ∷ []) k)) (sym (in_rest k t))))

    each : (h k : ℕ) (t : Bool) → nat_eq h g ≡ t → h < length heads → list_any (nat_eq k) (if t then [] else u.chains.chain h) ≡ stands slots bound (done ++ g ∷ []) (u.chains.chain g) h k
    each h k true t l =
        let no : nat_eq (awaited slots (done ++ g ∷ []) k) (suc h) ≡ false = ne_eqb (awaited slots (done ++ g ∷ []) k) (suc h) (λ x. both_ways (list_any (nat_eq h) (done ++ g ∷ [])) (awaited_open slots (done ++ g ∷ []) k h x) (ap (λ (i : ℕ). list_any (nat_eq i) (done ++ g ∷ [])) (eqb-true h g t) ∙ any_last g done)) in
        sym (and_right (is_passed bound (u.chains.chain g) k) (nat_eq (awaited slots (done ++ g ∷ []) k) (suc h)) no)
    each h k false t l = u.chains.each h k l ∙ by (nat_eq k g) refl
      where
        by : (b : Bool) → nat_eq k g ≡ b → stands slots bound done (g ∷ []) h k ≡ stands slots bound (done ++ g ∷ []) (u.chains.chain g) h k
        by true b =
            let z : awaited slots (done ++ g ∷ []) k ≡ 0 = awaited_kept slots done g k (not_other slots done g k g 0 parts.2 (λ x. omega (arith, x)) b) ∙ (ap (awaited slots done) (eqb-true k g b) ∙ parts.2) in
            let no : nat_eq (awaited slots (done ++ g ∷ []) k) (suc h) ≡ false = ne_eqb (awaited slots (done ++ g ∷ []) k) (suc h) (λ x. let y : 0 ≡ suc h = sym z ∙ x in omega (arith, y)) in
            looked_at bound [] g k (nat_eq (awaited slots done k) (suc h)) b ∙ sym (and_right (is_passed bound (u.chains.chain g) k) (nat_eq (awaited slots (done ++ g ∷ []) k) (suc h)) no)
        by false b = moved k (λ (a : ℕ). nat_eq a (suc h)) b (ne_eqb (suc g) (suc h) (λ x. eqb-false h g t (omega (arith, x))))

    ready_now : (k : ℕ) (t : Bool) → nat_eq k g ≡ t → (is_passed bound (g ∷ []) k && may_be_next slots n done k) ≡ (is_passed bound (u.chains.chain g) k && may_be_next slots n (done ++ g ∷ []) k)
    ready_now k true t =
        let is_done : list_any (nat_eq k) (done ++ g ∷ []) ≡ true = ap (λ (i : ℕ). list_any (nat_eq i) (done ++ g ∷ [])) (eqb-true k g t) ∙ any_last g done in
        let no : may_be_next slots n (done ++ g ∷ []) k ≡ false = and_right (nat_lt k n) (not (list_any (nat_eq k) (done ++ g ∷ [])) && nat_eq (awaited slots (done ++ g ∷ []) k) 0) (and_left (not (list_any (nat_eq k) (done ++ g ∷ []))) (nat_eq (awaited slots (done ++ g ∷ []) k) 0) (ap not is_done)) in
        looked_at bound [] g k (may_be_next slots n done k) t ∙ sym (and_right (is_passed bound (u.chains.chain g) k) (may_be_next slots n (done ++ g ∷ []) k) no)
    ready_now k false t =
        moved k (λ (a : ℕ). nat_lt k n && (not (list_any (nat_eq k) done) && nat_eq a 0)) t (and_right (nat_lt k n) (not (list_any (nat_eq k) done) && nat_eq (suc g) 0) (and_right (not (list_any (nat_eq k) done)) (nat_eq (suc g) 0) (ne_eqb (suc g) 0 (λ x. omega (arith, x)))))
        ∙ ap (λ (b : Bool). is_passed bound (u.chains.chain g) k && (nat_lt k n && (not b && nat_eq (awaited slots (done ++ g ∷ []) k) 0))) (sym (any_other k g done t))

    freed : (k : ℕ) → list_any (nat_eq k) (u.chains.chain g) ≡ true → IsFreed slots bound (done ++ g ∷ []) k
    freed k t =
        let p = and_parts (is_passed bound (g ∷ []) k) (nat_eq (awaited slots done k) (suc g)) (sym (u.chains.each g k within) ∙ t) in
        let wait : awaited slots done k ≡ suc g = eqb-true (awaited slots done k) (suc g) p.1 in
        record {
          low = ltb-true k bound (and_parts (nat_lt k bound) (not (list_any (nat_eq k) (g ∷ []))) p.0).0;
          left = false_unless (list_any (nat_eq k) (done ++ g ∷ [])) (λ x. let y : 0 ≡ suc g = sym (waits_not k x) ∙ wait in omega (arith, y));
          first = freed_first slots done g k wait;
        }

-- at a gate of the chain, with so many left
pub record IsAt (slots : List ℕ) (n bound : ℕ) (done heads links : List ℕ) (ready : ℕ → ℕ) (j left : ℕ) : Type 0 where
  pub rest : List ℕ
  pub many : left ≡ suc (length rest)
  pub underway : IsUnderway slots n bound done (j ∷ rest) heads links ready
  pub new : list_any (nat_eq j) rest ≡ false
  pub chain : IsChain links (slot_at links (2 * j)) rest
  pub here : IsFreed slots bound done j
  pub each : (k : ℕ) → list_any (nat_eq k) rest ≡ true → IsFreed slots bound done k

pub walk_at : (slots : List ℕ) (n bound : ℕ) (done heads links : List ℕ) (ready : ℕ → ℕ) (at : ℕ) (w : IsWalk slots n bound done heads links ready at) → 1 < at → IsAt slots n bound done heads links ready (at - 2) (length w.rest)
walk_at slots n bound done heads links ready at w more = by w.rest w.underway w.chain w.each
  where
    by : (rest : List ℕ) → IsUnderway slots n bound done rest heads links ready → IsChain links at rest → ((k : ℕ) → list_any (nat_eq k) rest ≡ true → IsFreed slots bound done k) → IsAt slots n bound done heads links ready (at - 2) (length rest)
    by [] u c e = absurd (omega (arith, c, more))
    by (j ∷ js) u c e =
        let s : j ≡ at - 2 = omega (arith, c.0) in
        let a : IsAt slots n bound done heads links ready j (length (j ∷ js)) = record {
          rest = js;
          many = omega arith;
          underway = u;
          new = c.1;
          chain = c.2;
          here = e j (ap (λ (t : Bool). t || list_any (nat_eq j) js) (eq-eqb j j refl));
          each = λ k t. e k (or_right (nat_eq k j) (list_any (nat_eq k) js) t);
        } in
        subst (λ (k : ℕ). IsAt slots n bound done heads links ready k (length (j ∷ js))) s a

-- its second slot is there, and names a gate if any
pub at_place : (slots : List ℕ) (n bound : ℕ) (done heads links : List ℕ) (ready : ℕ → ℕ) (j left : ℕ) → IsAt slots n bound done heads links ready j left → (2 * j + 1 < length links) × (slot_at links (2 * j + 1) ≤ length heads)
at_place slots n bound done heads links ready j left a =
    let u = a.underway in
    let place : 2 * j + 1 < length slots = omega (arith, u.are.count, a.here.low, u.low) in
    (omega (arith, place, u.kept.count), omega (arith, u.kept.second j, u.are.within (2 * j + 1) 0 place, u.marks.count))

-- where it stands then
pub walk_step : (slots : List ℕ) (n bound : ℕ) (done heads links heads_now links_now : List ℕ) (ready now : ℕ → ℕ) (j left next : ℕ) → IsAt slots n bound done heads links ready j left → next ≡ slot_at links (2 * j)
    → (is_open heads links (2 * j + 1) ≡ true → IsPut j (2 * j + 1) heads links heads_now links_now × ((i : ℕ) → now i ≡ ready i)) → (is_open heads links (2 * j + 1) ≡ false → (heads_now ≡ heads) × (links_now ≡ links) × ((i : ℕ) → now i ≡ ready i + one_if (nat_eq j i)))
    → (w : IsWalk slots n bound done heads_now links_now now next) × (suc (length w.rest) ≡ left)
walk_step slots n bound done heads links heads_now links_now ready now j left next a e waits notes =
    subst (λ (k : ℕ). (w : IsWalk slots n bound done heads_now links_now now k) × (suc (length w.rest) ≡ left)) (sym e) (by (waits_for_nothing slots done (2 * j + 1)) refl)
  where
    u : IsUnderway slots n bound done (j ∷ a.rest) heads links ready
    u = a.underway

    place : 2 * j + 1 < length slots
    place = omega (arith, u.are.count, a.here.low, u.low)

    test : is_open heads links (2 * j + 1) ≡ not (waits_for_nothing slots done (2 * j + 1))
    test = open_is slots n done heads links (2 * j + 1) u.are u.marks (u.kept.second j) place

    by : (b : Bool) → waits_for_nothing slots done (2 * j + 1) ≡ b → (w : IsWalk slots n bound done heads_now links_now now (slot_at links (2 * j))) × (suc (length w.rest) ≡ left)
    by false t =
        let is = waits (test ∙ ap not t) in
        let after : IsUnderway slots n bound done a.rest heads_now links_now now = put slots n bound done a.rest heads links heads_now links_now ready now j (2 * j + 1) u a.new a.here.low place (u.kept.second j) t (awaited_second slots done j false a.here.first t) is.0 is.1 in
        let chain : IsChain (slice_set links (2 * j) (slice_index_or heads (slot_at links (2 * j + 1) - 1) 0)) (slot_at links (2 * j)) a.rest = chain_kept links j (slice_index_or heads (slot_at links (2 * j + 1) - 1) 0) (slot_at links (2 * j)) a.rest a.new a.chain in
        (record { rest = a.rest; underway = after; chain = subst (λ (l : List ℕ). IsChain l (slot_at links (2 * j)) a.rest) (sym is.0.link) chain; each = a.each }, sym a.many)
    by true t =
        let is = notes (test ∙ ap not t) in
        let after : IsUnderway slots n bound done a.rest heads links now = note slots n bound done a.rest heads links ready now j u a.new a.here.low a.here.left (awaited_second slots done j true a.here.first t) is.2 in
        let moved : IsUnderway slots n bound done a.rest heads_now links_now now = subst (λ (l : List ℕ). IsUnderway slots n bound done a.rest heads_now l now) (sym is.1) (subst (λ (l : List ℕ). IsUnderway slots n bound done a.rest l links now) (sym is.0) after) in
        (record { rest = a.rest; underway = moved; chain = subst (λ (l : List ℕ). IsChain l (slot_at links (2 * j)) a.rest) (sym is.1) a.chain; each = a.each }, sym a.many)

pub walk_ends : (slots : List ℕ) (n bound : ℕ) (done heads links : List ℕ) (ready : ℕ → ℕ) (at : ℕ) → IsWalk slots n bound done heads links ready at → at ≤ 1 → IsUnderway slots n bound done [] heads links ready
walk_ends slots n bound done heads links ready at w low = by w.rest w.underway w.chain
  where
    by : (rest : List ℕ) → IsUnderway slots n bound done rest heads links ready → IsChain links at rest → IsUnderway slots n bound done [] heads links ready
    by [] u c = u
    by (j ∷ js) u c = absurd (omega (arith, c.0, low))

-- how many gates a chain has, of so many at most
pub walk_length : List ℕ → ℕ → ℕ → ℕ
walk_length links at zero = 0
walk_length links at (suc most) = if nat_lt at 2 then 0 else suc (walk_length links (slot_at links (2 * (at - 2))) most)

length_is : (links : List ℕ) (at most : ℕ) (js : List ℕ) → IsChain links at js → length js ≤ most → walk_length links at most ≡ length js
unfolding walk_length
length_is links at zero [] c few = refl
length_is links at zero (j ∷ js) c few = absurd (omega (arith, few))
length_is links at (suc most) [] c few = ap (λ (t : Bool). if t then 0 else suc (walk_length links (slot_at links (2 * (at - 2))) most)) (lt-ltb at 2 c)
length_is links at (suc most) (j ∷ js) c few =
    let s : at - 2 ≡ j = omega (arith, c.0) in
    ap (λ (t : Bool). if t then 0 else suc (walk_length links (slot_at links (2 * (at - 2))) most)) (le-ltb at 2 (omega (arith, c.0)))
    ∙ ap suc (ap (λ (k : ℕ). walk_length links (slot_at links (2 * k)) most) s ∙ length_is links (slot_at links (2 * j)) most js c.2 (omega (arith, few)))

chain_once : (links : List ℕ) (at : ℕ) (js : List ℕ) → IsChain links at js → IsDistinct nat_eq js
unfolding IsDistinct
chain_once links at [] c = tt
chain_once links at (j ∷ js) c = (none j js c.1, chain_once links (slot_at links (2 * j)) js c.2)
  where
    none : (j : ℕ) (js : List ℕ) → list_any (nat_eq j) js ≡ false → AllByRecursion (λ k. nat_eq j k ≡ false) js
    none j [] t = tt
    none j (k ∷ ks) t = let p = or_parts (nat_eq j k) (list_any (nat_eq j) ks) t in (p.0, none j ks p.1)

pub walk_left : (slots : List ℕ) (n bound : ℕ) (done heads links : List ℕ) (ready : ℕ → ℕ) (at : ℕ) (w : IsWalk slots n bound done heads links ready at) → walk_length links at (length heads) ≡ length w.rest
walk_left slots n bound done heads links ready at w =
    length_is links at (length heads) w.rest w.chain
    (omega (arith, w.underway.marks.count, length-le_from_distinct_below w.rest n (chain_once links at w.rest w.chain) (λ k t. let l : k < bound = (w.each k t).low in omega (arith, l, w.underway.low))))

-- gates in turn are no more than there are
few_from : (passes : List ℕ → ℕ → Bool) (n : ℕ) → ((done : List ℕ) (j : ℕ) → passes done j ≡ true → (j < n) × (list_any (nat_eq j) done ≡ false)) → (done js : List ℕ) → AreFirst passes done js → IsDistinct nat_eq done → ((i : ℕ) → list_any (nat_eq i) done ≡ true → i < n) → length (done ++ js) ≤ n
few_from passes n parts done [] turn once below = omega (arith, ap length (append-nil done), length-le_from_distinct_below done n once below)
few_from passes n parts done (j ∷ js) turn once below =
    let p = parts done j turn.0.ready in
    let more : (i : ℕ) → list_any (nat_eq i) (done ++ j ∷ []) ≡ true → i < n = λ i t. ⊎_elim (λ (u : list_any (nat_eq i) done ≡ true). below i u) (λ (e : i ≡ j). omega (arith, e, p.0)) (any_push i j done t) in
    omega (arith, ap length (append_assoc done (j ∷ []) js), few_from passes n parts (done ++ j ∷ []) js turn.1 (IsDistinct-push nat_eq_equiv done j once p.1) more)

pub few_first : (passes : List ℕ → ℕ → Bool) (n : ℕ) → ((done : List ℕ) (j : ℕ) → passes done j ≡ true → (j < n) × (list_any (nat_eq j) done ≡ false)) → (js : List ℕ) → AreFirst passes [] js → length js ≤ n
unfolding IsDistinct
few_first passes n parts js turn = few_from passes n parts [] js turn tt (λ i t. absurd (cc))

pub few_next : (slots : List ℕ) (n : ℕ) (order : List ℕ) → AreFirst (may_be_next slots n) [] order → length order ≤ n
few_next slots n order turn = few_first (may_be_next slots n) n (λ done j t. let p = next_parts slots n done j t in (p.0, p.1)) order turn

pub no_gates : IsHeap turns []
unfolding IsHeap
no_gates = λ p k d low left right high. absurd (omega arith)

-- before file order comes to any gate
pub underway_begins : (slots : List ℕ) (n : ℕ) (order heads : List ℕ) → AreSlots slots n → heads ≡ replicate n 1 → order ≡ [] → IsUnderway slots (length heads) 0 order [] heads slots (λ (i : ℕ). 0)
underway_begins slots n order heads are ones none =
    subst (λ (k : ℕ). IsUnderway slots k 0 order [] heads slots (λ (i : ℕ). 0)) (sym count) (subst (λ (o : List ℕ). IsUnderway slots n 0 o [] heads slots (λ (i : ℕ). 0)) (sym none) begun)
  where
    count : length heads ≡ n
    count = ap length ones ∙ length-replicate n 1

    one : (j : ℕ) → j < n → slice_index_or heads j 0 ≡ 1
    one j low = ap (λ (hs : List ℕ). slice_index_or hs j 0) ones ∙ get_or-replicate n j 1 0 low

    nowhere : (j : ℕ) (b : Bool) → (is_passed 0 [] j && b) ≡ false
    nowhere j b = and_left (is_passed 0 [] j) b (and_left (nat_lt j 0) (not false) (le-ltb j 0 (omega arith)))

    begun : IsUnderway slots n 0 [] [] heads slots (λ (i : ℕ). 0)
    begun = record {
      are = are;
      low = omega arith;
      kept = record { count = refl; second = λ j. refl; first = λ j more. refl };
      marks = record { count = count; each = λ j low. ap (λ (x : ℕ). nat_eq x 0) (one j low) };
      chains = record { chain = λ g. []; are = λ g low. omega (arith, one g (omega (arith, low, count))); each = λ g j low. sym (nowhere j (nat_eq (awaited slots [] j) (suc g))) };
      has = λ j. sym (ap one_if (nowhere j (may_be_next slots n [] j)));
      before = λ j t. absurd (cc);
      closed = λ j t. absurd (cc);
      in_turn = tt;
    }
