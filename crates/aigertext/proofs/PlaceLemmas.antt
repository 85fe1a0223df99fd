-- Places of names in order: what a name behind all others does to the map, and where a name is found.
use Rattle.std.proofs.Common.{◌≡◌, ◌≢◌, ℕ, ◌<◌, ◌≤◌, true, false, List, [], ◌∷◌, ◌++◌, None, refl, ap, ◌∙◌, ◌⊎◌, inl, inr, arith}
use Rattle.std.specs.List.{AllByRecursion}
use Rattle.std.specs.Cmp.{ranked}
use Rattle.std.specs.declared.cmp.Ordering.{Ordering}
use Rattle.std.specs.declared.cmp.Ordering.TheVariants.{Less, Equal, Greater}
use Rattle.std.specs.Ordering.{nat_cmp, ordering_then, is_eq, ordering_reverse}
use Rattle.std.specs.BTreeMap.{insert_entry, is_at}
use Rattle.std.specs.Map.{lookup, keys_of}
use Rattle.std.specs.Cmp.{IsTotalOrder}
use Rattle.std.proofs.lemmas.Cmp.{nat_cmp_total, on_total, then_total, tied_itself}
use Rattle.std.proofs.lemmas.Map.Entries.{lookup_tail}
use Rattle.aiger.specs.Names.{NamePlace, NameMap, place_cmp}

-- one place stands before another: in an earlier section, or at an earlier position of the same one
abbrev pub IsBefore : NamePlace → NamePlace → Type 0
IsBefore p q = (p.0 < q.0) ⊎ ((p.0 ≡ q.0) × (p.1 < q.1))

pub places_total : IsTotalOrder place_cmp
places_total = then_total (on_total (λ (p : NamePlace). p.0) nat_cmp_total) (on_total (λ (p : NamePlace). p.1) nat_cmp_total)

-- the order's answer says which one stands before the other
before_by : (a b c d : ℕ) (r s : Ordering) → r ≡ nat_cmp a b → s ≡ nat_cmp c d → ordering_then r s ≡ Less → (a < b) ⊎ ((a ≡ b) × (c < d))
before_by a b c d Less s e f h = inl (ranked a b Less e)
before_by a b c d Equal Less e f h = inr (ranked a b Equal e, ranked c d Less f)
before_by a b c d Equal Equal e f h = absurd cc
before_by a b c d Equal Greater e f h = absurd cc
before_by a b c d Greater s e f h = absurd cc

pub before_from_less : (p q : NamePlace) → place_cmp p q ≡ Less → IsBefore p q
before_from_less p q h = before_by p.0 q.0 p.1 q.1 (nat_cmp p.0 q.0) (nat_cmp p.1 q.1) refl refl h

-- places that are not the same are told apart
apart_by : (a b c d : ℕ) (r s : Ordering) → r ≡ nat_cmp a b → s ≡ nat_cmp c d → (a ≢ b) ⊎ (c ≢ d) → is_eq (ordering_then r s) ≡ false
apart_by a b c d Less s e f h = refl
apart_by a b c d Greater s e f h = refl
apart_by a b c d Equal Less e f h = refl
apart_by a b c d Equal Greater e f h = refl
apart_by a b c d Equal Equal e f (inl h) = absurd (h (ranked a b Equal e))
apart_by a b c d Equal Equal e f (inr h) = absurd (h (ranked c d Equal f))

pub apart : (p q : NamePlace) → (p.0 ≢ q.0) ⊎ (p.1 ≢ q.1) → is_eq (place_cmp p q) ≡ false
apart p q h = apart_by p.0 q.0 p.1 q.1 (nat_cmp p.0 q.0) (nat_cmp p.1 q.1) refl refl h

pub apart_before : (p q : NamePlace) → IsBefore p q → is_eq (place_cmp p q) ≡ false
apart_before p q (inl h) = apart p q (inl (omega arith))
apart_before p q (inr h) = apart p q (inr (omega (arith, h.1)))

-- a place is found at itself
pub at_itself : (p : NamePlace) → is_eq (place_cmp p p) ≡ true
at_itself p = ap is_eq (tied_itself places_total p)

-- a name behind all others
abbrev pub IsBehind : NamePlace → NameMap → Type 0
IsBehind p es = AllByRecursion (λ e. place_cmp p e.0 ≡ Greater) es

pub insert_last : (p : NamePlace) (v : List ℕ) (es : NameMap) → IsBehind p es → insert_entry place_cmp es p v ≡ es ++ (p, v) ∷ []
insert_last p v [] h = refl
insert_last p v (e ∷ es) h = rw h.0 (ap (λ (rest : NameMap). e ∷ rest) (insert_last p v es h.1))

pub unnamed_last : (p : NamePlace) (es : NameMap) → IsBehind p es → lookup (is_at (place_cmp p)) es ≡ None
unnamed_last p [] h = refl
unnamed_last p (e ∷ es) h =
    let other : is_eq (place_cmp p e.0) ≡ false = ap is_eq h.0 in
    lookup_tail (is_at (place_cmp p)) e es other ∙ unnamed_last p es h.1

behind_push : (p : NamePlace) (es : NameMap) (e : NamePlace × List ℕ) → IsBehind p es → place_cmp p e.0 ≡ Greater → IsBehind p (es ++ e ∷ [])
behind_push p [] e h g = (g, tt)
behind_push p (x ∷ es) e h g = (h.0, behind_push p es e h.1 g)

-- entries each of which is behind all of some others
abbrev pub AreBehind : NameMap → NameMap → Type 0
AreBehind front rest = AllByRecursion (λ e. IsBehind e.0 front) rest

greater_from_less : (p q : NamePlace) → place_cmp p q ≡ Less → place_cmp q p ≡ Greater
greater_from_less p q h = places_total.antisymm q p ∙ ap ordering_reverse h

pub behind_more : (front : NameMap) (e : NamePlace × List ℕ) (rest : NameMap) → AreBehind front rest → AllByRecursion (λ q. place_cmp e.0 q ≡ Less) (keys_of rest) → AreBehind (front ++ e ∷ []) rest
behind_more front e [] h s = tt
behind_more front e (x ∷ rest) h s = (behind_push x.0 front e h.0 (greater_from_less e.0 x.0 s.0), behind_more front e rest h.1 s.1)

pub all_behind_none : (rest : NameMap) → AreBehind [] rest
all_behind_none [] = tt
all_behind_none (x ∷ rest) = (tt, all_behind_none rest)

-- no entry is at a place that stands before all of them
abbrev pub IsAhead : NamePlace → NameMap → Type 0
IsAhead p es = AllByRecursion (λ e. IsBefore p e.0) es

pub unnamed_ahead : (p : NamePlace) (es : NameMap) → IsAhead p es → lookup (is_at (place_cmp p)) es ≡ None
unnamed_ahead p [] h = refl
unnamed_ahead p (e ∷ es) h = lookup_tail (is_at (place_cmp p)) e es (apart_before p e.0 h.0) ∙ unnamed_ahead p es h.1

-- the places behind the first one
pub ahead_of_rest : (p : NamePlace) (es : NameMap) → AllByRecursion (λ q. place_cmp p q ≡ Less) (keys_of es) → IsAhead p es
ahead_of_rest p [] h = tt
ahead_of_rest p (e ∷ es) h = (before_from_less p e.0 h.0, ahead_of_rest p es h.1)

before_chain : (p q r : NamePlace) → (p.0 ≤ q.0) → (p.0 ≡ q.0 → p.1 ≤ q.1) → IsBefore q r → IsBefore p r
before_chain p q r le same (inl h) = inl (omega arith)
before_chain p q r le same (inr h) =
    elim (lt_or_same p.0 q.0 le) [
      | inl lt ↦ inl (omega (arith, lt, h.0))
      | inr is ↦ inr (is ∙ h.0, omega (arith, same is, h.1))
    ]
  where
    lt_or_same : (a b : ℕ) → a ≤ b → (a < b) ⊎ (a ≡ b)
    lt_or_same a b le = grind arith

-- what stands before or at a place stands before all behind that
pub ahead_chain : (p q : NamePlace) (es : NameMap) → (p.0 ≤ q.0) → (p.0 ≡ q.0 → p.1 ≤ q.1) → IsAhead q es → IsAhead p es
ahead_chain p q [] le same h = tt
ahead_chain p q (e ∷ es) le same h = (before_chain p q e.0 le same h.0, ahead_chain p q es le same h.1)
