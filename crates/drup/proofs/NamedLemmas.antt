-- Clauses by their ids: one more, one less, and those that stand put together anew.
use Rattle.std.proofs.Common.{◌≡◌, ℕ, zero, suc, ◌+◌, ◌*◌, ◌<◌, ◌≤◌, Bool, true, false, List, [], ◌∷◌, ◌++◌, length, get_or, Option, Some, None, Result, Ok, Err, IfOk, OnOk, is_err, ◌⊎◌, inl, inr, refl, sym, ap, ap₂, subst, ◌∙◌, arith, length-append}
use Rattle.std.specs.Prelude.{◌==◌, nat_lt, if◌then◌else◌, All}
use Rattle.std.proofs.lemmas.Bool.{cases_eq, cases_lt, eq-eqb, ne_eqb, lt-ltb, le-ltb}
use Rattle.std.proofs.lemmas.List.{get_or_append_left, get_or_push}
use Rattle.std.proofs.lemmas.List.Elements.{All-get_or, All-push}
use Rattle.drup.specs.ClauseLists.{literal_count}
use Rattle.drup.specs.Hints.{with_clause, without_clause}
use Rattle.drup.specs.IdPlaces.{place_of}
use Rattle.drup.specs.Named.{Kept, at_place, clause_of, is_at, standing_from, standing_count, AreNamedBy, AreNamed, IsTight, before, IsSweptTo}

abbrev Placing : Type 0
Placing = ℕ → Option ℕ

-- a place more, and a place less
abbrev pub with_place : Placing → ℕ → ℕ → Placing
with_place places id k i = if i == id then Some k else places i

abbrev pub without_place : Placing → ℕ → Placing
without_place places id i = if i == id then None else places i

abbrev number : Option ℕ → ℕ
number None = 0
number (Some k) = k

same_number : (m n : ℕ) → Some m ≡ Some n → m ≡ n
same_number m n is = ap number is

-- ---- literals that stand

count_more : (clauses : List (List ℕ)) (clause : List ℕ) → literal_count (clauses ++ clause ∷ []) ≡ literal_count clauses + length clause
count_more [] clause = omega arith
count_more (c ∷ cs) clause = omega (arith, count_more cs clause)

at_with : (P : Placing) (id n k j : ℕ) → P id ≡ None → (n ≡ k → ⊥) → is_at k (with_place P id n j) ≡ is_at k (P j)
at_with P id n k j fresh apart =
    elim (cases_eq j id) [
      | inl e ↦ let s : (j == id) ≡ true = eq-eqb j id e in rw s (ne_eqb n k apart ∙ sym (ap (is_at k) (ap P e ∙ fresh)))
      | inr other ↦ let s : (j == id) ≡ false = ne_eqb j id other in rw s refl
    ]

at_without : (P : Placing) (id p k j : ℕ) → P id ≡ Some p → (p ≡ k → ⊥) → is_at k (without_place P id j) ≡ is_at k (P j)
at_without P id p k j is apart =
    elim (cases_eq j id) [
      | inl e ↦ let s : (j == id) ≡ true = eq-eqb j id e in rw s (sym (ap (is_at k) (ap P e ∙ is) ∙ ne_eqb p k apart))
      | inr other ↦ let s : (j == id) ≡ false = ne_eqb j id other in rw s refl
    ]

last_stands : (P : Placing) (id n k : ℕ) → k ≡ n → is_at k (with_place P id n id) ≡ true
last_stands P id n k is = let s : (id == id) ≡ true = eq-eqb id id refl in rw s (eq-eqb n k (sym is))

standing_more : (P : Placing) (id n k : ℕ) (clauses : List (List ℕ)) (ids clause : List ℕ) → P id ≡ None → k + length clauses ≡ n → length ids ≡ length clauses
    → standing_from (with_place P id n) k (clauses ++ clause ∷ []) (ids ++ id ∷ []) ≡ standing_from P k clauses ids + length clause
standing_more P id n k [] [] clause fresh last many =
    ap (λ (b : Bool). (if b then length clause else 0) + 0) (last_stands P id n k (omega (arith, last))) ∙ omega arith
standing_more P id n k [] (i ∷ is) clause fresh last many = absurd (omega (arith, many))
standing_more P id n k (c ∷ cs) [] clause fresh last many = absurd (omega (arith, many))
standing_more P id n k (c ∷ cs) (i ∷ is) clause fresh last many =
    let first : is_at k (with_place P id n i) ≡ is_at k (P i) = at_with P id n k i fresh (λ e. omega (arith, last, e)) in
    let rest = standing_more P id n (suc k) cs is clause fresh (omega (arith, last)) (omega (arith, many)) in
    ap₂ (λ (b : Bool) (m : ℕ). (if b then length c else 0) + m) first rest ∙ omega arith

standing_apart : (P : Placing) (id p k : ℕ) (clauses : List (List ℕ)) (ids : List ℕ) → P id ≡ Some p → p < k → standing_from (without_place P id) k clauses ids ≡ standing_from P k clauses ids
standing_apart P id p k [] ids is low = refl
standing_apart P id p k (c ∷ cs) [] is low = refl
standing_apart P id p k (c ∷ cs) (i ∷ js) is low =
    ap₂ (λ (b : Bool) (m : ℕ). (if b then length c else 0) + m) (at_without P id p k i is (λ e. omega (arith, low, e))) (standing_apart P id p (suc k) cs js is (omega (arith, low)))

most : (b : Bool) (n : ℕ) → (if b then n else 0) ≤ n
most true n = omega arith
most false n = omega arith

standing_less : (P : Placing) (id p k j : ℕ) (clauses : List (List ℕ)) (ids : List ℕ) → P id ≡ Some p → k + j ≡ p → standing_from P k clauses ids ≤ standing_from (without_place P id) k clauses ids + length (get_or clauses j [])
standing_less P id p k j [] ids is at = omega arith
standing_less P id p k j (c ∷ cs) [] is at = omega arith
standing_less P id p k zero (c ∷ cs) (i ∷ js) is at =
    omega (arith, most (is_at k (P i)) (length c), standing_apart P id p (suc k) cs js is (omega (arith, at)))
standing_less P id p k (suc j) (c ∷ cs) (i ∷ js) is at =
    let first : (if is_at k (without_place P id i) then length c else 0) ≡ (if is_at k (P i) then length c else 0) = ap (λ (b : Bool). if b then length c else 0) (at_without P id p k i is (λ e. omega (arith, at, e))) in
    omega (arith, first, standing_less P id p (suc k) j cs js is (omega (arith, at)))

-- ---- one more, and one less

inside_with : (b : Bool) (n k : ℕ) (o : Option ℕ) → (o ≡ Some k → k < n) → (if b then Some n else o) ≡ Some k → k < n + 1
inside_with true n k o h is = omega (arith, same_number n k is)
inside_with false n k o h is = omega (arith, h is)

pub named_insert : (P : Placing) (clauses : List (List ℕ)) (ids : List ℕ) (dead limit id : ℕ) (clause : List ℕ) → AreNamedBy P clauses ids dead limit → P id ≡ None → All (λ l. l < limit) clause
    → AreNamedBy (with_place P id (length clauses)) (clauses ++ clause ∷ []) (ids ++ id ∷ []) dead limit
named_insert P clauses ids dead limit id clause named fresh below = record {
  as_many = omega (arith, named.as_many, length-append ids (id ∷ []), length-append clauses (clause ∷ []));
  inside = λ i k is. omega (arith, inside_with (i == id) (length clauses) k (P i) (named.inside i k) is, length-append clauses (clause ∷ []));
  own = λ i k is. own i k is;
  below = All-push (All (λ l. l < limit)) clauses clause named.below below;
  held = omega (arith, named.held, count_more clauses clause, standing_more P id (length clauses) 0 clauses ids clause fresh (omega arith) named.as_many);
}
  where
    own : (i k : ℕ) → with_place P id (length clauses) i ≡ Some k → get_or (ids ++ id ∷ []) k 0 ≡ i
    own i k is =
        elim (cases_eq i id) [
          | inl e ↦
              let s : (i == id) ≡ true = eq-eqb i id e in
              let at : Some (length clauses) ≡ Some k = rw s at is in
              get_or_push ids id 0 k (named.as_many ∙ same_number (length clauses) k at) ∙ sym e
          | inr n ↦
              let s : (i == id) ≡ false = ne_eqb i id n in
              let at : P i ≡ Some k = rw s at is in
              get_or_append_left ids (id ∷ []) 0 k (omega (arith, named.as_many, named.inside i k at)) ∙ named.own i k at
        ]

without_is : (b : Bool) (o : Option ℕ) (k : ℕ) → (if b then None else o) ≡ Some k → o ≡ Some k
without_is true o k is = absurd (cc)
without_is false o k is = is

pub named_remove : (P : Placing) (clauses : List (List ℕ)) (ids : List ℕ) (dead limit id p gone : ℕ) → AreNamedBy P clauses ids dead limit → P id ≡ Some p → (length (get_or clauses p []) + dead ≤ gone) ⊎ (literal_count clauses ≤ gone)
    → AreNamedBy (without_place P id) clauses ids gone limit
named_remove P clauses ids dead limit id p gone named is many = record {
  as_many = named.as_many;
  inside = λ i k at. named.inside i k (without_is (i == id) (P i) k at);
  own = λ i k at. named.own i k (without_is (i == id) (P i) k at);
  below = named.below;
  held = elim many [
    | inl more ↦ omega (arith, more, named.held, standing_less P id p 0 p clauses ids is (omega arith))
    | inr all ↦ omega (arith, all)
  ];
}

-- ---- as what is kept

-- an id has a clause more
pub record Inserted (old : Kept) (id : ℕ) (clause : List ℕ) (new : Kept) : Type 0 where
  pub clauses : new.clauses ≡ old.clauses ++ clause ∷ []
  pub ids : new.ids ≡ old.ids ++ id ∷ []
  pub dead : new.dead ≡ old.dead
  pub places : (i : ℕ) → place_of new.places i ≡ with_place (place_of old.places) id (length old.clauses) i

-- all is as it was, by the places of ids
pub record Unmoved (old new : Kept) : Type 0 where
  pub clauses : new.clauses ≡ old.clauses
  pub ids : new.ids ≡ old.ids
  pub dead : new.dead ≡ old.dead
  pub places : (i : ℕ) → place_of new.places i ≡ place_of old.places i

no_place : (clauses : List (List ℕ)) (o : Option ℕ) → at_place clauses o ≡ None → o ≡ None
no_place clauses None is = refl
no_place clauses (Some k) is = absurd (cc)

pub fresh_place : (n : Kept) (id : ℕ) → clause_of n id ≡ None → place_of n.places id ≡ None
fresh_place n id is = no_place n.clauses (place_of n.places id) is

pub inserted_named : (old new : Kept) (id : ℕ) (clause : List ℕ) (limit : ℕ) → Inserted old id clause new → clause_of old id ≡ None → AreNamed old limit → All (λ l. l < limit) clause → AreNamed new limit
inserted_named old new id clause limit h fresh named below =
    rw (h.clauses, h.ids, h.dead)
    (subst (λ (P : Placing). AreNamedBy P (old.clauses ++ clause ∷ []) (old.ids ++ id ∷ []) old.dead limit) (sym (λ i k. h.places k i))
    (named_insert (place_of old.places) old.clauses old.ids old.dead limit id clause named (fresh_place old id fresh) below))

pub inserted_tight : (old new : Kept) (id : ℕ) (clause : List ℕ) (limit : ℕ) → Inserted old id clause new → clause_of old id ≡ None → AreNamed old limit → IsTight old → IsTight new
inserted_tight old new id clause limit h fresh named tight =
    let count : literal_count new.clauses ≡ literal_count old.clauses + length clause = ap literal_count h.clauses ∙ count_more old.clauses clause in
    let more : standing_count new ≡ standing_count old + length clause =
    ap (λ (P : Placing). standing_from P 0 new.clauses new.ids) (λ i k. h.places k i)
    ∙ ap₂ (standing_from (with_place (place_of old.places) id (length old.clauses)) 0) h.clauses h.ids
    ∙ standing_more (place_of old.places) id (length old.clauses) 0 old.clauses old.ids clause (fresh_place old id fresh) (omega arith) named.as_many in
    omega (arith, tight, count, more)

with_at : (clauses : List (List ℕ)) (clause : List ℕ) (b : Bool) (o : Option ℕ) → ((k : ℕ) → o ≡ Some k → k < length clauses) → at_place (clauses ++ clause ∷ []) (if b then Some (length clauses) else o) ≡ (if b then Some clause else at_place clauses o)
with_at clauses clause true o inside = ap (λ (c : List ℕ). Some c) (get_or_push clauses clause [] (length clauses) refl)
with_at clauses clause false None inside = refl
with_at clauses clause false (Some k) inside = ap (λ (c : List ℕ). Some c) (get_or_append_left clauses (clause ∷ []) [] k (inside k refl))

pub inserted_clause : (old new : Kept) (id : ℕ) (clause : List ℕ) (limit i : ℕ) → Inserted old id clause new → AreNamed old limit → clause_of new i ≡ with_clause (clause_of old) id clause i
inserted_clause old new id clause limit i h named = ap₂ at_place h.clauses (h.places i) ∙ with_at old.clauses clause (i == id) (place_of old.places i) (named.inside i)

unmoved_is : (old new : Kept) (limit : ℕ) → Unmoved old new → AreNamedBy (place_of new.places) new.clauses new.ids new.dead limit ≡ AreNamedBy (place_of old.places) old.clauses old.ids old.dead limit
unmoved_is old new limit h =
    ap₂ (λ (P : Placing) (cs : List (List ℕ)). AreNamedBy P cs new.ids new.dead limit) (λ i k. h.places k i) h.clauses
    ∙ ap₂ (λ (ids : List ℕ) (dead : ℕ). AreNamedBy (place_of old.places) old.clauses ids dead limit) h.ids h.dead

pub unmoved_named : (old new : Kept) (limit : ℕ) → Unmoved old new → AreNamed old limit → AreNamed new limit
unmoved_named old new limit h named = subst (λ (T : Type 0). T) (sym (unmoved_is old new limit h)) named

pub unmoved_tight : (old new : Kept) → Unmoved old new → IsTight old → IsTight new
unmoved_tight old new h tight =
    let count : literal_count new.clauses ≡ literal_count old.clauses = ap literal_count h.clauses in
    let more : standing_count new ≡ standing_count old =
    ap (λ (P : Placing). standing_from P 0 new.clauses new.ids) (λ i k. h.places k i) ∙ ap₂ (standing_from (place_of old.places) 0) h.clauses h.ids in
    omega (arith, tight, count, more)

pub unmoved_clause : (old new : Kept) (i : ℕ) → Unmoved old new → clause_of new i ≡ clause_of old i
unmoved_clause old new i h = ap₂ at_place h.clauses (h.places i)

-- behind the last id none has a clause, still
pub fresh_more : (old new : Kept) (last id : ℕ) (clause : List ℕ) → ((i : ℕ) → clause_of new i ≡ with_clause (clause_of old) id clause i) → last < id → ((i : ℕ) → last < i → clause_of old i ≡ None) → (i : ℕ) → id < i → clause_of new i ≡ None
fresh_more old new last id clause h above fresh i behind =
    let s : (i == id) ≡ false = ne_eqb i id (λ e. omega (arith, behind, e)) in
    h i ∙ ap (λ (b : Bool). if b then Some clause else clause_of old i) s ∙ fresh i (omega (arith, above, behind))

pub fresh_still : (old new : Kept) (last id : ℕ) → ((i : ℕ) → clause_of new i ≡ clause_of old i) → last < id → ((i : ℕ) → last < i → clause_of old i ≡ None) → (i : ℕ) → id < i → clause_of new i ≡ None
fresh_still old new last id h above fresh i behind = h i ∙ fresh i (omega (arith, above, behind))

none_without : (b : Bool) (o : Option (List ℕ)) → o ≡ None → (if b then None else o) ≡ None
none_without true o is = refl
none_without false o is = is

pub fresh_without : (old mid new : Kept) (last id : ℕ) → ((i : ℕ) → clause_of mid i ≡ without_clause (clause_of old) id i) → ((i : ℕ) → clause_of new i ≡ clause_of mid i) → ((i : ℕ) → last < i → clause_of old i ≡ None) → (i : ℕ) → last < i → clause_of new i ≡ None
fresh_without old mid new last id gone same fresh i behind = same i ∙ gone i ∙ none_without (i == id) (clause_of old i) (fresh i behind)

pub on_no_err : {T E : Type 0} (r : Result T E) (P : Type 0) → IfOk r (λ x. P) → is_err r ≡ false → P
on_no_err (Ok x) P h e = h
on_no_err (Err x) P h e = absurd (cc)

pub on_ok : {T E : Type 0} (r : Result T E) (P Q : Type 0) → OnOk r P → (P → Q) → IfOk r (λ x. Q)
on_ok (Ok x) P Q h f = f h
on_ok (Err e) P Q h f = tt

-- a place that was put and taken back
pub put_back : (o : Option ℕ) (k : ℕ) (b : Bool) → (b ≡ true → o ≡ None) → (if b then None else (if b then Some k else o)) ≡ o
put_back o k true none = sym (none refl)
put_back o k false none = refl

without_at : (clauses : List (List ℕ)) (b : Bool) (o : Option ℕ) → at_place clauses (if b then None else o) ≡ (if b then None else at_place clauses o)
without_at clauses true o = refl
without_at clauses false o = refl

pub removed_clause : (old new : Kept) (id i : ℕ) → new.clauses ≡ old.clauses → ((i : ℕ) → place_of new.places i ≡ without_place (place_of old.places) id i) → clause_of new i ≡ without_clause (clause_of old) id i
removed_clause old new id i clauses places = ap₂ at_place clauses (places i) ∙ without_at old.clauses (i == id) (place_of old.places i)

-- an id that has no clause loses none
pub none_removed : (n : Kept) (id i : ℕ) → place_of n.places id ≡ None → clause_of n i ≡ without_clause (clause_of n) id i
none_removed n id i none =
    elim (cases_eq i id) [
      | inl e ↦ let s : (i == id) ≡ true = eq-eqb i id e in rw s (ap (at_place n.clauses) (ap (place_of n.places) e ∙ none))
      | inr other ↦ let s : (i == id) ≡ false = ne_eqb i id other in rw s refl
    ]

-- ---- put together anew

before_more : (k : ℕ) (o : Option ℕ) → (o ≡ Some k → ⊥) → before (k + 1) o ≡ before k o
before_more k None other = refl
before_more k (Some p) other = ap (λ (b : Bool). if b then Some p else None) (same p k (λ e. other (ap (λ (x : ℕ). Some x) e)))
  where
    above : (p k : ℕ) → (p ≡ k → ⊥) → k ≤ p → k + 1 ≤ p
    above p k apart high =
        elim (cases_eq p k) [
          | inl e ↦ absurd (apart e)
          | inr n ↦ omega (arith, high, n)
        ]

    same : (p k : ℕ) → (p ≡ k → ⊥) → nat_lt p (k + 1) ≡ nat_lt p k
    same p k apart =
        elim (cases_lt p k) [
          | inl low ↦ lt-ltb p (k + 1) (omega (arith, low)) ∙ sym (lt-ltb p k low)
          | inr high ↦ le-ltb p (k + 1) (above p k apart high) ∙ sym (le-ltb p k high)
        ]

before_here : (clauses : List (List ℕ)) (k : ℕ) → at_place clauses (before k (Some k)) ≡ None
before_here clauses k = ap (λ (b : Bool). at_place clauses (if b then Some k else None)) (le-ltb k k (omega arith))

before_next : (clauses : List (List ℕ)) (k : ℕ) → at_place clauses (before (k + 1) (Some k)) ≡ Some (get_or clauses k [])
before_next clauses k = ap (λ (b : Bool). at_place clauses (if b then Some k else None)) (lt-ltb k (k + 1) (omega arith))

pub swept_fresh : (k id : ℕ) (old new : Kept) → IsSweptTo k old new → place_of old.places id ≡ Some k → clause_of new id ≡ None
swept_fresh k id old new swept is = swept.same id ∙ ap (λ (o : Option ℕ). at_place old.clauses (before k o)) is ∙ before_here old.clauses k

pub swept_none : (old new : Kept) → ((id : ℕ) → clause_of new id ≡ None) → ((limit : ℕ) → AreNamed new limit) → new.dead ≡ 0 → IsSweptTo 0 old new
swept_none old new none named dead = record { same = λ id. none id ∙ sym (at (place_of old.places id)); named = λ limit h. named limit; none = dead }
  where
    at : (o : Option ℕ) → at_place old.clauses (before 0 o) ≡ None
    at None = refl
    at (Some p) = ap (λ (b : Bool). at_place old.clauses (if b then Some p else None)) (le-ltb p 0 (omega arith))

-- a clause that stands no longer is left out
pub swept_over : (k id limit : ℕ) (old new : Kept) → AreNamed old limit → get_or old.ids k 0 ≡ id → (place_of old.places id ≡ Some k → ⊥) → IsSweptTo k old new → IsSweptTo (k + 1) old new
swept_over k id limit old new named here gone swept = record {
  same = λ i. swept.same i ∙ ap (at_place old.clauses) (sym (before_more k (place_of old.places i) (λ is. gone (subst (λ (j : ℕ). place_of old.places j ≡ Some k) (sym (named.own i k is) ∙ here) is))));
  named = swept.named;
  none = swept.none;
}

-- and one that stands is taken
pub swept_more : (k id limit : ℕ) (old mid new : Kept) → AreNamed old limit → k < length old.clauses → get_or old.ids k 0 ≡ id → place_of old.places id ≡ Some k → IsSweptTo k old mid
    → ((i : ℕ) → clause_of new i ≡ with_clause (clause_of mid) id (get_or old.clauses k []) i) → ((limit : ℕ) → AreNamed mid limit → All (λ l. l < limit) (get_or old.clauses k []) → AreNamed new limit) → new.dead ≡ mid.dead
    → IsSweptTo (k + 1) old new
swept_more k id limit old mid new named inside here is swept taken keeps dead = record {
  same = same;
  named = λ l h. keeps l (swept.named l h) (All-get_or (All (λ x. x < l)) old.clauses k [] inside h.below);
  none = dead ∙ swept.none;
}
  where
    same : (i : ℕ) → clause_of new i ≡ at_place old.clauses (before (k + 1) (place_of old.places i))
    same i =
        elim (cases_eq i id) [
          | inl e ↦
              let s : (i == id) ≡ true = eq-eqb i id e in
              taken i ∙ ap (λ (b : Bool). if b then Some (get_or old.clauses k []) else clause_of mid i) s ∙ sym (ap (λ (o : Option ℕ). at_place old.clauses (before (k + 1) o)) (ap (place_of old.places) e ∙ is) ∙ before_next old.clauses k)
          | inr other ↦
              let s : (i == id) ≡ false = ne_eqb i id other in
              taken i ∙ ap (λ (b : Bool). if b then Some (get_or old.clauses k []) else clause_of mid i) s ∙ swept.same i
              ∙ ap (at_place old.clauses) (sym (before_more k (place_of old.places i) (λ at. other (sym (named.own i k at) ∙ here))))
        ]

before_all : (n : ℕ) (o : Option ℕ) → ((k : ℕ) → o ≡ Some k → k < n) → before n o ≡ o
before_all n None inside = refl
before_all n (Some k) inside = ap (λ (b : Bool). if b then Some k else None) (lt-ltb k n (inside k refl))

pub swept_clause : (old new : Kept) (limit i : ℕ) → AreNamed old limit → IsSweptTo (length old.clauses) old new → clause_of new i ≡ clause_of old i
swept_clause old new limit i named swept = swept.same i ∙ ap (at_place old.clauses) (before_all (length old.clauses) (place_of old.places i) (named.inside i))

pub swept_tight : (old new : Kept) (limit : ℕ) → AreNamed old limit → IsSweptTo (length old.clauses) old new → IsTight new
swept_tight old new limit named swept = omega (arith, (swept.named limit named).held, swept.none)

pub tight_still : (n : Kept) (limit : ℕ) → AreNamed n limit → 2 * n.dead ≤ literal_count n.clauses + 2049 → IsTight n
tight_still n limit named few = omega (arith, named.held, few)
