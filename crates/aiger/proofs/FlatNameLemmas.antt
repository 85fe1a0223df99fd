-- Names by keys that rise, and with others that came out of order.
use Rattle.std.proofs.Common.{◌≡◌, ℕ, zero, suc, ◌-◌, ◌<◌, ◌≤◌, Bool, true, false, List, [], ◌∷◌, ◌++◌, length, get_or, slice_get, All, None, Some, Ok, Err, refl, ap, sym, ◌∙◌, subst, arith, cond, nat_lt, ◌==◌, length-append, ⊎_elim}
use Rattle.std.proofs.lemmas.Bool.Decides.{nat_tests}
use Rattle.std.proofs.lemmas.Bool.{cases_lt}
use Rattle.std.proofs.lemmas.List.Elements.{All-head, All-tail}
use Rattle.std.proofs.lemmas.Cmp.{eq_by_cmp_equiv, nat_cmp_total}
use Rattle.std.proofs.lemmas.Map.Entries.{lookup_from_place, lookup_at_gap}
use Rattle.std.proofs.lemmas.Map.Keys.{IsDistinct-from_sorted, below_from_sorted}
use Rattle.std.proofs.lemmas.Option.{get_or_from_slice_get}
use Rattle.std.proofs.lemmas.Map.Made.{keys_of-zip}
use Rattle.std.specs.List.{AllByRecursion, IsDistinct, zip}
use Rattle.std.specs.Ordering.{eq_by_cmp}
use Rattle.std.specs.List.Sorted.{IsStrictlySortedBy, IsBinarySearchResult}
use Rattle.std.proofs.lemmas.List.Sorted.{searched}
use Rattle.std.specs.declared.cmp.Ordering.TheVariants.{Less, Equal, Greater}
use Rattle.std.specs.Ordering.{nat_cmp}
use Rattle.std.specs.BTreeMap.{is_at}
use Rattle.std.specs.Map.{lookup, keys_of}
use Rattle.aiger.specs.FlatNames.{AreFlat}

-- one name more
zip-push : (keys : List ℕ) (names : List (List ℕ)) (key : ℕ) (name : List ℕ) → length keys ≡ length names → zip (keys ++ key ∷ []) (names ++ name ∷ []) ≡ zip keys names ++ (key, name) ∷ []
zip-push [] [] key name e = refl
zip-push [] (n ∷ names) key name e = absurd (omega (arith, e))
zip-push (k ∷ keys) [] key name e = absurd (omega (arith, e))
zip-push (k ∷ keys) (n ∷ names) key name e = ap (λ (es : List (ℕ × List ℕ)). (k, n) ∷ es) (zip-push keys names key name (omega (arith, e)))

-- numbers in order compare so
pub less_from_below : (x y : ℕ) → x < y → nat_cmp x y ≡ Less
less_from_below x y h =
    let t : nat_lt x y ≡ true = grind (arith, nat_tests) in
    ap (λ (b : Bool). cond b Less (cond (x == y) Equal Greater)) t

pub greater_from_above : (x y : ℕ) → y < x → nat_cmp x y ≡ Greater
greater_from_above x y h =
    let t : nat_lt x y ≡ false = grind (arith, nat_tests) in
    let u : (x == y) ≡ false = grind (arith, nat_tests) in
    ap (λ (b : Bool). cond b Less (cond (x == y) Equal Greater)) t ∙ ap (λ (b : Bool). cond b Equal Greater) u

-- keys that rise with one more above them
below_more : (x key : ℕ) (keys : List ℕ) → IsStrictlySortedBy nat_cmp (x ∷ keys) → All (λ k. k < key) (x ∷ keys) → IsStrictlySortedBy nat_cmp (keys ++ key ∷ []) → IsStrictlySortedBy nat_cmp (x ∷ (keys ++ key ∷ []))
unfolding IsStrictlySortedBy
below_more x key keys rising below rest = (behind keys rising.0, rest)
  where
    behind : (ks : List ℕ) → AllByRecursion (λ y. nat_cmp x y ≡ Less) ks → AllByRecursion (λ y. nat_cmp x y ≡ Less) (ks ++ key ∷ [])
    behind [] a = (less_from_below x key (All-head (λ k. k < key) x keys below), tt)
    behind (k ∷ ks) a = (a.0, behind ks a.1)

rising-push : (keys : List ℕ) (key : ℕ) → IsStrictlySortedBy nat_cmp keys → All (λ k. k < key) keys → IsStrictlySortedBy nat_cmp (keys ++ key ∷ [])
unfolding IsStrictlySortedBy
rising-push [] key rising below = (tt, tt)
rising-push (k ∷ keys) key rising below = below_more k key keys rising below (rising-push keys key rising.1 (All-tail (λ k. k < key) k keys below))

-- one name more at the end of all
pub flat-push : (keys keys' : List ℕ) (names names' : List (List ℕ)) (key : ℕ) (name : List ℕ) → AreFlat keys names → keys' ≡ keys ++ key ∷ [] → names' ≡ names ++ name ∷ [] → All (λ k. k < key) (keys_of (zip keys names))
    → AreFlat keys' names' × (zip keys' names' ≡ zip keys names ++ (key, name) ∷ [])
flat-push keys keys' names names' key name is k n above =
    let below : All (λ k. k < key) keys = subst (All (λ k. k < key)) (keys_of-zip keys names (sym is.as_many)) above in
    let rising : IsStrictlySortedBy nat_cmp keys' = subst (IsStrictlySortedBy nat_cmp) (sym k) (rising-push keys key is.rising below) in
    let many : length keys' ≡ length names' = omega (arith, ap length k, ap length n, length-append keys (key ∷ []), length-append names (name ∷ []), is.as_many) in
    (record { as_many = many; rising = rising }, rw (k, n) (zip-push keys names key name is.as_many))

-- all are below where the last one is, and where there is none
pub below_by_last : (keys : List ℕ) (last key : ℕ) → IsStrictlySortedBy nat_cmp keys → slice_get keys (length keys - 1) ≡ Some last → last < key → All (λ k. k < key) keys
below_by_last keys last key rising e h i d low =
    let final : get_or keys (length keys - 1) d ≡ last = get_or_from_slice_get keys (length keys - 1) last d e in
    ⊎_elim (λ (front : i < length keys - 1). let b = below_from_sorted keys i (length keys - 1) d rising front (omega arith) in omega (arith, b, final, h))
    (λ (end' : length keys - 1 ≤ i). let s : i ≡ length keys - 1 = omega arith in omega (arith, ap (λ (k : ℕ). get_or keys k d) s, final, h)) (cases_lt i (length keys - 1))

-- the name at a place
name_here : (keys : List ℕ) (names : List (List ℕ)) (i d : ℕ) (name : List ℕ) → i < length keys → slice_get names i ≡ Some name → slice_get (zip keys names) i ≡ Some (get_or keys i d, name)
name_here [] names i d name low e = absurd (omega arith)
name_here (k ∷ keys) [] i d name low e = absurd (cc)
name_here (k ∷ keys) (n ∷ names) zero d name low e = let z : n ≡ name = cc in ap (λ (x : List ℕ). Some (k, x)) z
name_here (k ∷ keys) (n ∷ names) (suc i) d name low e = name_here keys names i d name (omega arith) e

some_same : {X : Type 0} (x y : X) → Some x ≡ Some y → x ≡ y
some_same x y e = cc

-- the key at a place
key_here : (keys : List ℕ) (names : List (List ℕ)) (i d : ℕ) (e : ℕ × List ℕ) → slice_get (zip keys names) i ≡ Some e → (i < length keys) × (get_or keys i d ≡ e.0)
key_here [] names i d e h = absurd (cc)
key_here (k ∷ keys) [] i d e h = absurd (cc)
key_here (k ∷ keys) (n ∷ names) zero d e h = let z : ◌≡◌ {A = ℕ × List ℕ} (k, n) e = some_same (k, n) e h in (omega arith, ap (λ (x : ℕ × List ℕ). x.0) z)
key_here (k ∷ keys) (n ∷ names) (suc i) d e h = let r = key_here keys names i d e h in (omega (arith, r.0), r.1)

-- the keys of names rise
named_rise : (keys : List ℕ) (names : List (List ℕ)) → AreFlat keys names → IsStrictlySortedBy nat_cmp (keys_of (zip keys names))
named_rise keys names is = subst (IsStrictlySortedBy nat_cmp) (sym (keys_of-zip keys names (sym is.as_many))) is.rising

-- keys that rise do not fall
never_fall : (keys : List ℕ) → IsStrictlySortedBy nat_cmp keys → (i j : ℕ) → i ≤ j → j < length keys → get_or keys i 0 ≤ get_or keys j 0
never_fall keys rising i j h low =
    ⊎_elim (λ (less : i < j). let b = below_from_sorted keys i j 0 rising less low in omega (arith, b)) (λ (more : j ≤ i). let s : i ≡ j = omega arith in omega (arith, ap (λ (k : ℕ). get_or keys k 0) s)) (cases_lt i j)

-- what a search among the keys finds, and where it finds none
pub flat_found : (keys : List ℕ) (names : List (List ℕ)) (ks : List ℕ) (i key : ℕ) (name : List ℕ) → AreFlat keys names → ks ≡ keys
    → IsBinarySearchResult (λ y. nat_cmp y key) ks (Ok i) → slice_get names i ≡ Some name → lookup (is_at (nat_cmp key)) (zip keys names) ≡ Some name
flat_found keys names ks i key name is a found here =
    let at : IsBinarySearchResult (λ y. nat_cmp y key) keys (Ok i) = subst (λ (xs : List ℕ). IsBinarySearchResult (λ y. nat_cmp y key) xs (Ok i)) a found in
    let r = searched keys key (Ok i) at (never_fall keys is.rising) in
    let d : IsDistinct (eq_by_cmp nat_cmp) (keys_of (zip keys names)) = IsDistinct-from_sorted nat_cmp (keys_of (zip keys names)) (named_rise keys names is) in
    lookup_from_place (eq_by_cmp_equiv nat_cmp_total) (zip keys names) i key name d (name_here keys names i 0 name r.0 here ∙ ap (λ (k : ℕ). Some (k, name)) r.1)

pub flat_missed : (keys : List ℕ) (names : List (List ℕ)) (ks : List ℕ) (i key : ℕ) → AreFlat keys names → ks ≡ keys → IsBinarySearchResult (λ y. nat_cmp y key) ks (Err i) → lookup (is_at (nat_cmp key)) (zip keys names) ≡ None
flat_missed keys names ks i key is a missed =
    let at : IsBinarySearchResult (λ y. nat_cmp y key) keys (Err i) = subst (λ (xs : List ℕ). IsBinarySearchResult (λ y. nat_cmp y key) xs (Err i)) a missed in
    let r = searched keys key (Err i) at (never_fall keys is.rising) in
    lookup_at_gap nat_cmp_total key (zip keys names) i (named_rise keys names is)
    (λ j e low h. greater_from_above key e.0 (omega (arith, r.1 j low, (key_here keys names j 0 e h).1)))
    (λ e h. let k = key_here keys names i 0 e h in less_from_below key e.0 (omega (arith, r.2 i (omega arith) k.0, k.1)))

pub flat_none : (keys : List ℕ) (names : List (List ℕ)) → keys ≡ [] → names ≡ [] → AreFlat keys names
unfolding IsStrictlySortedBy
flat_none keys names a b = rw (a, b) (record { as_many = refl; rising = tt })
