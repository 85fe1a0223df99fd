-- Names at places: those in order with others put in, and what a look-up finds among them.
use Rattle.std.proofs.Common.{◌≡◌, ℕ, ◌/◌, ◌%◌, ◌<◌, ◌≤◌, Bool, true, false, List, [], ◌∷◌, ◌++◌, All, Option, None, Some, is_some, refl, ap, sym, ◌∙◌, subst, arith, cond, ◌⊎◌, ⊎_elim}
use Rattle.std.proofs.lemmas.Bool.{cases_order}
use Rattle.std.proofs.lemmas.List.Elements.{All-head, All-tail, All-cons, All-nil}
use Rattle.std.proofs.lemmas.Map.Entries.{lookup_head, lookup_tail}
use Rattle.std.proofs.lemmas.Cmp.{tied_itself, nat_cmp_total}
use Rattle.std.specs.List.{AllByRecursion}
use Rattle.std.specs.List.Sorted.{IsStrictlySortedBy}
use Rattle.std.specs.declared.cmp.Ordering.{Ordering}
use Rattle.std.specs.declared.cmp.Ordering.TheVariants.{Less, Equal, Greater}
use Rattle.std.specs.Ordering.{ordering_reverse, ordering_then, nat_cmp, is_eq, match_ordering}
use Rattle.std.specs.BTreeMap.{insert_entry, is_at}
use Rattle.std.specs.Map.{lookup, keys_of}
use Rattle.aiger.specs.Names.{NamePlace, NameMap, place_cmp}
use Rattle.aiger.specs.FlatNames.{key_of, flat_place, at_places, with_flat_names}
use Rattle.aiger.proofs.NameLemmas.{exact_places, places_total, lookup-insert_entry, entries_from_lookups}
use Rattle.aiger.proofs.FlatNameLemmas.{less_from_below, greater_from_above}

-- one entry more leaves entries in order
module _ {X : Type 0} where
  after_all : (k q : NamePlace) (v : X) (es : List (NamePlace × X)) → place_cmp q k ≡ Less → AllByRecursion (λ y. place_cmp q y ≡ Less) (keys_of es) → AllByRecursion (λ y. place_cmp q y ≡ Less) (keys_of (insert_entry place_cmp es k v))
  after_all k q v [] h a = (h, tt)
  after_all k q v (e ∷ es) h a = by (place_cmp k e.0) (after_all k q v es h a.1)
    where
      by : (r : Ordering) → AllByRecursion (λ y. place_cmp q y ≡ Less) (keys_of (insert_entry place_cmp es k v)) → AllByRecursion (λ y. place_cmp q y ≡ Less) (keys_of (match_ordering r ((k, v) ∷ e ∷ es) ((e.0, v) ∷ es) (e ∷ insert_entry place_cmp es k v)))
      by Less rest = (h, a)
      by Equal rest = a
      by Greater rest = (a.0, rest)

  less_behind : (k q : NamePlace) (es : List (NamePlace × X)) → place_cmp k q ≡ Less → AllByRecursion (λ y. place_cmp q y ≡ Less) (keys_of es) → AllByRecursion (λ y. place_cmp k y ≡ Less) (keys_of es)
  less_behind k q [] h a = tt
  less_behind k q (e ∷ es) h a = (places_total.trans k q e.0 h a.0, less_behind k q es h a.1)

  pub sorted-insert_entry : (k : NamePlace) (v : X) (es : List (NamePlace × X)) → IsStrictlySortedBy place_cmp (keys_of es) → IsStrictlySortedBy place_cmp (keys_of (insert_entry place_cmp es k v))
  unfolding IsStrictlySortedBy
  sorted-insert_entry k v [] s = (tt, tt)
  sorted-insert_entry k v (e ∷ es) s = by (place_cmp k e.0) refl (sorted-insert_entry k v es s.1)
    where
      by : (r : Ordering) → place_cmp k e.0 ≡ r → IsStrictlySortedBy place_cmp (keys_of (insert_entry place_cmp es k v)) → IsStrictlySortedBy place_cmp (keys_of (match_ordering r ((k, v) ∷ e ∷ es) ((e.0, v) ∷ es) (e ∷ insert_entry place_cmp es k v)))
      by Less h rest = ((h, less_behind k e.0 es h s.0), s)
      by Equal h rest = s
      by Greater h rest = (after_all k e.0 v es (places_total.antisymm e.0 k ∙ ap ordering_reverse h) s.0, rest)

-- the first of two finds
abbrev first_found : Option (List ℕ) → Option (List ℕ) → Option (List ℕ)
first_found None other = other
first_found (Some name) other = Some name

pub lookup-with_names : (q : NamePlace) (names others : NameMap) → lookup (is_at (place_cmp q)) (with_flat_names names others) ≡ first_found (lookup (is_at (place_cmp q)) others) (lookup (is_at (place_cmp q)) names)
lookup-with_names q names [] = refl
lookup-with_names q names (e ∷ others) = by (is_eq (place_cmp q e.0)) refl (lookup-with_names q names others)
  where
    put : lookup (is_at (place_cmp q)) (with_flat_names names (e ∷ others)) ≡ cond (is_eq (place_cmp q e.0)) (Some e.1) (lookup (is_at (place_cmp q)) (with_flat_names names others))
    put = lookup-insert_entry exact_places e.0 e.1 q (with_flat_names names others)

    by : (b : Bool) → is_eq (place_cmp q e.0) ≡ b → lookup (is_at (place_cmp q)) (with_flat_names names others) ≡ first_found (lookup (is_at (place_cmp q)) others) (lookup (is_at (place_cmp q)) names)
        → lookup (is_at (place_cmp q)) (with_flat_names names (e ∷ others)) ≡ first_found (lookup (is_at (place_cmp q)) (e ∷ others)) (lookup (is_at (place_cmp q)) names)
    by true t rest =
        put ∙ (ap (λ (b : Bool). cond b (Some e.1) (lookup (is_at (place_cmp q)) (with_flat_names names others))) t
        ∙ sym (ap (λ (o : Option (List ℕ)). first_found o (lookup (is_at (place_cmp q)) names)) (lookup_head (is_at (place_cmp q)) e others t)))
    by false t rest =
        put ∙ (ap (λ (b : Bool). cond b (Some e.1) (lookup (is_at (place_cmp q)) (with_flat_names names others))) t ∙ (rest
        ∙ sym (ap (λ (o : Option (List ℕ)). first_found o (lookup (is_at (place_cmp q)) names)) (lookup_tail (is_at (place_cmp q)) e others t))))

pub lookup-other : (q : NamePlace) (names others : NameMap) (name : List ℕ) → lookup (is_at (place_cmp q)) others ≡ Some name → lookup (is_at (place_cmp q)) (with_flat_names names others) ≡ Some name
lookup-other q names others name h = lookup-with_names q names others ∙ ap (λ (o : Option (List ℕ)). first_found o (lookup (is_at (place_cmp q)) names)) h

pub lookup-in_order : (q : NamePlace) (names others : NameMap) → lookup (is_at (place_cmp q)) others ≡ None → lookup (is_at (place_cmp q)) (with_flat_names names others) ≡ lookup (is_at (place_cmp q)) names
lookup-in_order q names others h = lookup-with_names q names others ∙ ap (λ (o : Option (List ℕ)). first_found o (lookup (is_at (place_cmp q)) names)) h

pub sorted-with_names : (names others : NameMap) → IsStrictlySortedBy place_cmp (keys_of names) → IsStrictlySortedBy place_cmp (keys_of (with_flat_names names others))
sorted-with_names names [] s = s
sorted-with_names names (e ∷ others) s = sorted-insert_entry e.0 e.1 (with_flat_names names others) (sorted-with_names names others s)

-- a name more among the others
pub other-push : (names others : NameMap) (k : NamePlace) (v : List ℕ) → IsStrictlySortedBy place_cmp (keys_of names) → with_flat_names names (insert_entry place_cmp others k v) ≡ insert_entry place_cmp (with_flat_names names others) k v
other-push names others k v s =
    entries_from_lookups places_total exact_places (with_flat_names names (insert_entry place_cmp others k v)) (insert_entry place_cmp (with_flat_names names others) k v) (sorted-with_names names (insert_entry place_cmp others k v) s) (sorted-insert_entry k v (with_flat_names names others) (sorted-with_names names others s)) alike
  where
    by : (b : Bool) (o n : Option (List ℕ)) → first_found (cond b (Some v) o) n ≡ cond b (Some v) (first_found o n)
    by true o n = refl
    by false o n = refl

    alike : (q : NamePlace) → lookup (is_at (place_cmp q)) (with_flat_names names (insert_entry place_cmp others k v)) ≡ lookup (is_at (place_cmp q)) (insert_entry place_cmp (with_flat_names names others) k v)
    alike q =
        lookup-with_names q names (insert_entry place_cmp others k v)
        ∙ (ap (λ (o : Option (List ℕ)). first_found o (lookup (is_at (place_cmp q)) names)) (lookup-insert_entry exact_places k v q others)
        ∙ (by (is_eq (place_cmp q k)) (lookup (is_at (place_cmp q)) others) (lookup (is_at (place_cmp q)) names)
        ∙ (ap (λ (o : Option (List ℕ)). cond (is_eq (place_cmp q k)) (Some v) o) (sym (lookup-with_names q names others)) ∙ sym (lookup-insert_entry exact_places k v q (with_flat_names names others)))))

-- an entry behind all others
insert_at_end : (es : NameMap) (k : NamePlace) (v : List ℕ) → All (λ q. place_cmp k q ≡ Greater) (keys_of es) → insert_entry place_cmp es k v ≡ es ++ (k, v) ∷ []
insert_at_end [] k v a = refl
insert_at_end (e ∷ es) k v a =
    ap (λ (r : Ordering). match_ordering r ((k, v) ∷ e ∷ es) ((e.0, v) ∷ es) (e ∷ insert_entry place_cmp es k v)) (All-head (λ (q : NamePlace). place_cmp k q ≡ Greater) e.0 (keys_of es) a)
    ∙ ap (λ (rest : NameMap). e ∷ rest) (insert_at_end es k v (All-tail (λ (q : NamePlace). place_cmp k q ≡ Greater) e.0 (keys_of es) a))

-- a name more behind those in order, where the others have none there
pub in_order-push : (names others : NameMap) (k : NamePlace) (v : List ℕ) → IsStrictlySortedBy place_cmp (keys_of names) → All (λ q. place_cmp k q ≡ Greater) (keys_of names) → lookup (is_at (place_cmp k)) others ≡ None
    → with_flat_names (names ++ (k, v) ∷ []) others ≡ insert_entry place_cmp (with_flat_names names others) k v
in_order-push names others k v s above none =
    ap (λ (ns : NameMap). with_flat_names ns others) (sym (insert_at_end names k v above))
    ∙ entries_from_lookups places_total exact_places (with_flat_names (insert_entry place_cmp names k v) others) (insert_entry place_cmp (with_flat_names names others) k v) (sorted-with_names (insert_entry place_cmp names k v) others (sorted-insert_entry k v names s)) (sorted-insert_entry k v (with_flat_names names others) (sorted-with_names names others s)) alike
  where
    by : (q : NamePlace) (b : Bool) → is_eq (place_cmp q k) ≡ b → first_found (lookup (is_at (place_cmp q)) others) (cond b (Some v) (lookup (is_at (place_cmp q)) names)) ≡ cond b (Some v) (first_found (lookup (is_at (place_cmp q)) others) (lookup (is_at (place_cmp q)) names))
    by q true t =
        let none_here : lookup (is_at (place_cmp q)) others ≡ None = subst (λ (p : NamePlace). lookup (is_at (place_cmp p)) others ≡ None) (sym (exact_places q k (equal (place_cmp q k) t))) none in
        ap (λ (o : Option (List ℕ)). first_found o (Some v)) none_here
      where
        equal : (r : Ordering) → is_eq r ≡ true → r ≡ Equal
        equal Equal t = refl
        equal Less t = absurd (cc)
        equal Greater t = absurd (cc)
    by q false t = refl

    alike : (q : NamePlace) → lookup (is_at (place_cmp q)) (with_flat_names (insert_entry place_cmp names k v) others) ≡ lookup (is_at (place_cmp q)) (insert_entry place_cmp (with_flat_names names others) k v)
    alike q =
        lookup-with_names q (insert_entry place_cmp names k v) others
        ∙ (ap (first_found (lookup (is_at (place_cmp q)) others)) (lookup-insert_entry exact_places k v q names)
        ∙ (by q (is_eq (place_cmp q k)) refl
        ∙ (ap (λ (o : Option (List ℕ)). cond (is_eq (place_cmp q k)) (Some v) o) (sym (lookup-with_names q names others)) ∙ sym (lookup-insert_entry exact_places k v q (with_flat_names names others)))))

-- a place compares with that of a key as its own key does
pub place_as_key : (q : NamePlace) (k : ℕ) → q.1 < 4294967296 → place_cmp q (flat_place k) ≡ nat_cmp (key_of q) k
place_as_key q k small =
    ⊎_elim (λ (same : q.0 ≡ k / 4294967296). first_same same)
    (λ (o : (q.0 < k / 4294967296) ⊎ (k / 4294967296 < q.0)). ⊎_elim
    (λ (low : q.0 < k / 4294967296). ap (λ (r : Ordering). ordering_then r (nat_cmp q.1 (k % 4294967296))) (less_from_below q.0 (k / 4294967296) low) ∙ sym (less_from_below (key_of q) k (omega arith)))
    (λ (high : k / 4294967296 < q.0). ap (λ (r : Ordering). ordering_then r (nat_cmp q.1 (k % 4294967296))) (greater_from_above q.0 (k / 4294967296) high) ∙ sym (greater_from_above (key_of q) k (omega arith)))
    o)
    (cases_order q.0 (k / 4294967296))
  where
    equal : (x y : ℕ) → x ≡ y → nat_cmp x y ≡ Equal
    equal x y e = ap (nat_cmp x) (sym e) ∙ tied_itself nat_cmp_total x

    first_same : q.0 ≡ k / 4294967296 → place_cmp q (flat_place k) ≡ nat_cmp (key_of q) k
    first_same same =
        ap (λ (r : Ordering). ordering_then r (nat_cmp q.1 (k % 4294967296))) (equal q.0 (k / 4294967296) same)
        ∙ ⊎_elim (λ (e : q.1 ≡ k % 4294967296). equal q.1 (k % 4294967296) e ∙ sym (equal (key_of q) k (omega arith)))
        (λ (o : (q.1 < k % 4294967296) ⊎ (k % 4294967296 < q.1)). ⊎_elim
        (λ (low : q.1 < k % 4294967296). less_from_below q.1 (k % 4294967296) low ∙ sym (less_from_below (key_of q) k (omega arith)))
        (λ (high : k % 4294967296 < q.1). greater_from_above q.1 (k % 4294967296) high ∙ sym (greater_from_above (key_of q) k (omega arith)))
        o)
        (cases_order q.1 (k % 4294967296))

-- a look-up among names at places is one among their keys
pub lookup-at_places : (q : NamePlace) (names : List (ℕ × List ℕ)) → q.1 < 4294967296 → lookup (is_at (place_cmp q)) (at_places names) ≡ lookup (is_at (nat_cmp (key_of q))) names
lookup-at_places q [] small = refl
lookup-at_places q (e ∷ names) small =
    ap (λ (r : Ordering). cond (is_eq r) (Some e.1) (lookup (is_at (place_cmp q)) (at_places names))) (place_as_key q e.0 small)
    ∙ ap (λ (o : Option (List ℕ)). cond (is_eq (nat_cmp (key_of q) e.0)) (Some e.1) o) (lookup-at_places q names small)

-- no key stands for a greater position
pub lookup-too_far : (q : NamePlace) (names : List (ℕ × List ℕ)) → 4294967296 ≤ q.1 → lookup (is_at (place_cmp q)) (at_places names) ≡ None
lookup-too_far q [] far = refl
lookup-too_far q (e ∷ names) far = by (place_cmp q (flat_place e.0)) refl (lookup-too_far q names far)
  where
    by : (r : Ordering) → place_cmp q (flat_place e.0) ≡ r → lookup (is_at (place_cmp q)) (at_places names) ≡ None → cond (is_eq r) (Some e.1) (lookup (is_at (place_cmp q)) (at_places names)) ≡ None
    by Less h rest = rest
    by Greater h rest = rest
    by Equal h rest =
        let s : q.1 ≡ e.0 % 4294967296 = ap (λ (p : NamePlace). p.1) (exact_places q (flat_place e.0) h) in
        absurd (omega (arith, s, far))

-- keys that rise are places in order
pub sorted-at_places : (names : List (ℕ × List ℕ)) → IsStrictlySortedBy nat_cmp (keys_of names) → IsStrictlySortedBy place_cmp (keys_of (at_places names))
unfolding IsStrictlySortedBy
sorted-at_places [] s = tt
sorted-at_places (e ∷ names) s = (behind names s.0, sorted-at_places names s.1)
  where
    own : key_of (flat_place e.0) ≡ e.0
    own = omega arith

    behind : (ns : List (ℕ × List ℕ)) → AllByRecursion (λ y. nat_cmp e.0 y ≡ Less) (keys_of ns) → AllByRecursion (λ y. place_cmp (flat_place e.0) y ≡ Less) (keys_of (at_places ns))
    behind [] a = tt
    behind (n ∷ ns) a = (place_as_key (flat_place e.0) n.0 (omega arith) ∙ (ap (λ (k : ℕ). nat_cmp k n.0) own ∙ a.0), behind ns a.1)

-- a place above all keys is behind all places
pub behind_all : (q : NamePlace) (names : List (ℕ × List ℕ)) → q.1 < 4294967296 → All (λ k. k < key_of q) (keys_of names) → All (λ p. place_cmp q p ≡ Greater) (keys_of (at_places names))
behind_all q [] small a = All-nil (λ (p : NamePlace). place_cmp q p ≡ Greater)
behind_all q (e ∷ names) small a =
    All-cons (λ (p : NamePlace). place_cmp q p ≡ Greater) (flat_place e.0) (keys_of (at_places names)) (place_as_key q e.0 small ∙ greater_from_above (key_of q) e.0 (All-head (λ k. k < key_of q) e.0 (keys_of names) a)) (behind_all q names small (All-tail (λ k. k < key_of q) e.0 (keys_of names) a))

-- a name more at the end of those in order
pub at_places-push : (q : NamePlace) (name : List ℕ) (names : List (ℕ × List ℕ)) → q.1 < 4294967296 → at_places (names ++ (key_of q, name) ∷ []) ≡ at_places names ++ (q, name) ∷ []
at_places-push q name [] small =
    let a : key_of q / 4294967296 ≡ q.0 = omega arith in
    let b : key_of q % 4294967296 ≡ q.1 = omega arith in
    ap (λ (x : ℕ). ((x, key_of q % 4294967296), name) ∷ []) a ∙ ap (λ (y : ℕ). ((q.0, y), name) ∷ []) b
at_places-push q name (e ∷ names) small = ap (λ (rest : NameMap). (flat_place e.0, e.1) ∷ rest) (at_places-push q name names small)

-- what a name more, in order, makes of all names
pub given_in_order : (q : NamePlace) (name : List ℕ) (names more : List (ℕ × List ℕ)) (others : NameMap) → q.1 < 4294967296 → IsStrictlySortedBy nat_cmp (keys_of names) → All (λ k. k < key_of q) (keys_of names) → lookup (is_at (place_cmp q)) others ≡ None → more ≡ names ++ (key_of q, name) ∷ []
    → (with_flat_names (at_places more) others ≡ insert_entry place_cmp (with_flat_names (at_places names) others) q name) × IsStrictlySortedBy place_cmp (keys_of (with_flat_names (at_places more) others))
given_in_order q name names more others small rising above none e =
    let s = sorted-at_places names rising in
    let same : with_flat_names (at_places more) others ≡ insert_entry place_cmp (with_flat_names (at_places names) others) q name = ap (λ (ns : NameMap). with_flat_names ns others) (ap at_places e ∙ at_places-push q name names small) ∙ in_order-push (at_places names) others q name s (behind_all q names small above) none in
    (same, subst (λ (ns : NameMap). IsStrictlySortedBy place_cmp (keys_of ns)) (sym same) (sorted-insert_entry q name (with_flat_names (at_places names) others) (sorted-with_names (at_places names) others s)))

-- and what another one makes of them
pub given_other : (q : NamePlace) (name : List ℕ) (names : List (ℕ × List ℕ)) (others more : NameMap) → IsStrictlySortedBy nat_cmp (keys_of names) → more ≡ insert_entry place_cmp others q name
    → (with_flat_names (at_places names) more ≡ insert_entry place_cmp (with_flat_names (at_places names) others) q name) × IsStrictlySortedBy place_cmp (keys_of (with_flat_names (at_places names) more))
given_other q name names others more rising e =
    let s = sorted-at_places names rising in
    (ap (with_flat_names (at_places names)) e ∙ other-push (at_places names) others q name s, sorted-with_names (at_places names) more s)

-- an option that is not some
pub none_from_test : {X : Type 0} (o : Option X) → is_some o ≡ false → o ≡ None
none_from_test None t = refl
none_from_test (Some x) t = absurd (cc)
