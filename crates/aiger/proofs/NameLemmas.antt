-- Names: what one name more does to the map and to each section's list, and that the names determine the map.
use Rattle.std.proofs.Common.{◌≡◌, ◌≢◌, ℕ, zero, suc, ◌≤◌, Bool, true, false, List, [], ◌∷◌, map, All, None, Some, refl, ap, sym, ◌∙◌, subst, arith, cond}
use Rattle.std.proofs.lemmas.Bool.Decides.{nat_tests}
use Rattle.std.proofs.lemmas.List.Elements.{All-head, All-tail, All-cons, All-nil}
use Rattle.std.proofs.lemmas.Map.Lookups.{CmpEqualImpliesEq, exact_unsigned, exact_pairs}
use Rattle.std.proofs.lemmas.Cmp.{tied_itself, eq_by_cmp_equiv, nat_cmp_total, on_total, then_total}
use Rattle.std.proofs.lemmas.Map.{lookup-none}
use Rattle.std.proofs.lemmas.Map.Entries.{lookup_head, lookup_tail, none_past_head, none_below_head}
use Rattle.std.proofs.lemmas.Map.Keys.{sorted_tail, IsDistinct-from_sorted}
use Rattle.std.specs.List.Sorted.{IsStrictlySortedBy}
use Rattle.std.specs.Cmp.{IsTotalOrder}
use Rattle.std.specs.declared.cmp.Ordering.{Ordering}
use Rattle.std.specs.declared.cmp.Ordering.TheVariants.{Less, Equal, Greater}
use Rattle.std.specs.Ordering.{ordering_reverse, nat_cmp, is_eq, match_ordering}
use Rattle.std.specs.BTreeMap.{insert_entry, is_at}
use Rattle.std.specs.Map.{lookup, keys_of}
use Rattle.std.specs.List.{list_all, AllZip, each_same}
use Rattle.aiger.specs.declared.circuit.Section.{Section}
use Rattle.aiger.specs.declared.circuit.Section.TheVariants.{Input, Latch, Output, Bad, Constraint, Justice, Fair}
use Rattle.aiger.specs.Names.{NamePlace, rank, place_cmp, IsName, is_name, is_printable}

-- places that compare as equal are the same
pub exact_places : CmpEqualImpliesEq place_cmp
exact_places = exact_pairs nat_cmp nat_cmp exact_unsigned exact_unsigned

pub places_total : IsTotalOrder place_cmp
places_total = then_total (on_total (λ (p : NamePlace). p.0) nat_cmp_total) (on_total (λ (p : NamePlace). p.1) nat_cmp_total)

-- the section of a rank
section_at : ℕ → Section
section_at zero = Input
section_at (suc zero) = Latch
section_at (suc (suc zero)) = Output
section_at (suc (suc (suc zero))) = Bad
section_at (suc (suc (suc (suc zero)))) = Constraint
section_at (suc (suc (suc (suc (suc zero))))) = Justice
section_at (suc (suc (suc (suc (suc (suc n)))))) = Fair

section_at-rank : (s : Section) → section_at (rank s) ≡ s
unfolding section_at
section_at-rank Input = refl
section_at-rank Latch = refl
section_at-rank Output = refl
section_at-rank Bad = refl
section_at-rank Constraint = refl
section_at-rank Justice = refl
section_at-rank Fair = refl

-- sections of one rank are the same
pub section_from_rank : (s t : Section) → rank s ≡ rank t → s ≡ t
section_from_rank s t e = sym (section_at-rank s) ∙ (ap section_at e ∙ section_at-rank t)

-- the places of two sections compare as not equal
pub places_apart : (s t : Section) (j k : ℕ) → s ≢ t → is_eq (place_cmp (rank t, j) (rank s, k)) ≡ false
places_apart s t j k apart = by (place_cmp (rank t, j) (rank s, k)) refl
  where
    by : (r : Ordering) → place_cmp (rank t, j) (rank s, k) ≡ r → is_eq r ≡ false
    by Less e = refl
    by Equal e = absurd (apart (section_from_rank s t (sym (ap (λ (p : NamePlace). p.0) (exact_places (rank t, j) (rank s, k) e)))))
    by Greater e = refl

-- and so do two positions of one section
pub positions_apart : (s : Section) (j k : ℕ) → j ≢ k → is_eq (place_cmp (rank s, j) (rank s, k)) ≡ false
positions_apart s j k apart = by (place_cmp (rank s, j) (rank s, k)) refl
  where
    by : (r : Ordering) → place_cmp (rank s, j) (rank s, k) ≡ r → is_eq r ≡ false
    by Less e = refl
    by Equal e = absurd (apart (ap (λ (p : NamePlace). p.1) (exact_places (rank s, j) (rank s, k) e)))
    by Greater e = refl

-- one entry more is found at its key, and the others are found as before
found_by : {K X : Type 0} {R : K → K → Ordering} → CmpEqualImpliesEq R → (k : K) (v : X) (q : K) (e : K × X) (es rest : List (K × X)) (r s t : Ordering)
    → R k e.0 ≡ r → R q k ≡ s → R q e.0 ≡ t → lookup (is_at (R q)) rest ≡ cond (is_eq s) (Some v) (lookup (is_at (R q)) es)
    → lookup (is_at (R q)) (match_ordering r ((k, v) ∷ e ∷ es) ((e.0, v) ∷ es) (e ∷ rest))
    ≡ cond (is_eq s) (Some v) (cond (is_eq t) (Some e.1) (lookup (is_at (R q)) es))
found_by exact k v q e es rest Less s t ke qk qe h = rw (qk, qe) refl
found_by {K} {X} {R} exact k v q e es rest Equal s t ke qk qe h =
    let same : R q k ≡ R q e.0 = ap (R q) (exact k e.0 ke) in
    let st : s ≡ t = sym qk ∙ (same ∙ qe) in
    rw (qe, st) (by (is_eq t))
  where
    by : (b : Bool) → cond b (Some v) (lookup (is_at (R q)) es) ≡ cond b (Some v) (cond b (Some e.1) (lookup (is_at (R q)) es))
    by true = refl
    by false = refl
found_by {K} {X} {R} exact k v q e es rest Greater Equal Equal ke qk qe h =
    let f : R k e.0 ≡ Equal = subst (λ (x : K). R x e.0 ≡ Equal) (exact q k qk) qe in
    absurd (cc (f, ke))
found_by exact k v q e es rest Greater Equal Less ke qk qe h = rw qe h
found_by exact k v q e es rest Greater Equal Greater ke qk qe h = rw qe h
found_by exact k v q e es rest Greater Less t ke qk qe h = rw (qe, h) refl
found_by exact k v q e es rest Greater Greater t ke qk qe h = rw (qe, h) refl

pub lookup-insert_entry : {K X : Type 0} {R : K → K → Ordering} → CmpEqualImpliesEq R → (k : K) (v : X) (q : K) (es : List (K × X))
    → lookup (is_at (R q)) (insert_entry R es k v) ≡ cond (is_eq (R q k)) (Some v) (lookup (is_at (R q)) es)
lookup-insert_entry exact k v q [] = refl
lookup-insert_entry {K} {X} {R} exact k v q (e ∷ es) =
    found_by exact k v q e es (insert_entry R es k v) (R k e.0) (R q k) (R q e.0) refl refl refl (lookup-insert_entry exact k v q es)

-- what holds of each entry and of the new one holds of each entry after
holds_by : {K X : Type 0} {R : K → K → Ordering} → CmpEqualImpliesEq R → (k : K) (v : X) (P : K × X → Type 0) (e : K × X) (es rest : List (K × X)) (r : Ordering)
    → R k e.0 ≡ r → All P (e ∷ es) → P (k, v) → All P rest → All P (match_ordering r ((k, v) ∷ e ∷ es) ((e.0, v) ∷ es) (e ∷ rest))
holds_by exact k v P e es rest Less ke a p h = All-cons P (k, v) (e ∷ es) p a
holds_by {K} exact k v P e es rest Equal ke a p h = All-cons P (e.0, v) es (subst (λ (x : K). P (x, v)) (exact k e.0 ke) p) (All-tail P e es a)
holds_by exact k v P e es rest Greater ke a p h = All-cons P e rest (All-head P e es a) h

pub All-insert_entry : {K X : Type 0} {R : K → K → Ordering} → CmpEqualImpliesEq R → (k : K) (v : X) (P : K × X → Type 0) (es : List (K × X))
    → All P es → P (k, v) → All P (insert_entry R es k v)
All-insert_entry exact k v P [] a p = All-cons P (k, v) [] p a
All-insert_entry {K} {X} {R} exact k v P (e ∷ es) a p =
    holds_by exact k v P e es (insert_entry R es k v) (R k e.0) refl a p (All-insert_entry exact k v P es (All-tail P e es a) p)

-- entries in order that are found alike begin with one key
first_keys : {K X : Type 0} {R : K → K → Ordering} → IsTotalOrder R → (e f : K × X) (es fs : List (K × X)) → IsStrictlySortedBy R (keys_of (e ∷ es)) → IsStrictlySortedBy R (keys_of (f ∷ fs))
    → ((q : K) → lookup (is_at (R q)) (e ∷ es) ≡ lookup (is_at (R q)) (f ∷ fs)) → R e.0 f.0 ≡ Equal
first_keys {K} {X} {R} o e f es fs s t h = by (R e.0 f.0) refl
  where
    left : lookup (is_at (R e.0)) (e ∷ es) ≡ Some e.1
    left = lookup_head (is_at (R e.0)) e es (ap is_eq (tied_itself o e.0))

    right : lookup (is_at (R f.0)) (f ∷ fs) ≡ Some f.1
    right = lookup_head (is_at (R f.0)) f fs (ap is_eq (tied_itself o f.0))

    by : (r : Ordering) → R e.0 f.0 ≡ r → R e.0 f.0 ≡ Equal
    by Equal k = k
    by Less k =
        let none : lookup (is_at (R e.0)) (f ∷ fs) ≡ None = lookup-none (is_at (R e.0)) (f ∷ fs) (none_below_head o e.0 f fs t k) in
        let two : Some e.1 ≡ None = sym left ∙ (h e.0 ∙ none) in
        absurd (cc)
    by Greater k =
        let less : R f.0 e.0 ≡ Less = o.antisymm f.0 e.0 ∙ ap ordering_reverse k in
        let none : lookup (is_at (R f.0)) (e ∷ es) ≡ None = lookup-none (is_at (R f.0)) (e ∷ es) (none_below_head o f.0 e es s less) in
        let two : Some f.1 ≡ None = sym right ∙ (sym (h f.0) ∙ none) in
        absurd (cc)

-- and so do the entries behind the first, where the first have one key
rest_found_alike : {K X : Type 0} {R : K → K → Ordering} → IsTotalOrder R → (e f : K × X) (es fs : List (K × X)) → IsStrictlySortedBy R (keys_of (e ∷ es)) → IsStrictlySortedBy R (keys_of (f ∷ fs))
    → e.0 ≡ f.0 → ((q : K) → lookup (is_at (R q)) (e ∷ es) ≡ lookup (is_at (R q)) (f ∷ fs)) → (q : K) → lookup (is_at (R q)) es ≡ lookup (is_at (R q)) fs
rest_found_alike {K} {X} {R} o e f es fs s t same h q = by (is_eq (R q e.0)) refl
  where
    other : is_eq (R q e.0) ≡ is_eq (R q f.0)
    other = ap (λ (k : K). is_eq (R q k)) same

    by : (b : Bool) → is_eq (R q e.0) ≡ b → lookup (is_at (R q)) es ≡ lookup (is_at (R q)) fs
    by true m =
        lookup-none (is_at (R q)) es (none_past_head (eq_by_cmp_equiv o) q e es (IsDistinct-from_sorted R (keys_of (e ∷ es)) s) m)
        ∙ sym (lookup-none (is_at (R q)) fs (none_past_head (eq_by_cmp_equiv o) q f fs (IsDistinct-from_sorted R (keys_of (f ∷ fs)) t) (sym other ∙ m)))
    by false m = sym (lookup_tail (is_at (R q)) e es m) ∙ (h q ∙ lookup_tail (is_at (R q)) f fs (sym other ∙ m))

-- entries in order that are found alike are the same
pub entries_from_lookups : {K X : Type 0} {R : K → K → Ordering} → IsTotalOrder R → CmpEqualImpliesEq R → (es fs : List (K × X)) → IsStrictlySortedBy R (keys_of es) → IsStrictlySortedBy R (keys_of fs)
    → ((q : K) → lookup (is_at (R q)) es ≡ lookup (is_at (R q)) fs) → es ≡ fs
entries_from_lookups o exact [] [] s t h = refl
entries_from_lookups {K} {X} {R} o exact [] (f ∷ fs) s t h =
    let two : None ≡ Some f.1 = h f.0 ∙ lookup_head (is_at (R f.0)) f fs (ap is_eq (tied_itself o f.0)) in
    absurd (cc)
entries_from_lookups {K} {X} {R} o exact (e ∷ es) [] s t h =
    let two : Some e.1 ≡ None = sym (lookup_head (is_at (R e.0)) e es (ap is_eq (tied_itself o e.0))) ∙ h e.0 in
    absurd (cc)
entries_from_lookups {K} {X} {R} o exact (e ∷ es) (f ∷ fs) s t h =
    let key : e.0 ≡ f.0 = exact e.0 f.0 (first_keys o e f es fs s t h) in
    let two : Some e.1 ≡ Some f.1 = sym (lookup_head (is_at (R e.0)) e es (ap is_eq (tied_itself o e.0))) ∙ (h e.0 ∙ lookup_head (is_at (R e.0)) f fs (ap is_eq (first_keys o e f es fs s t h))) in
    let value : e.1 ≡ f.1 = cc in
    let rest : es ≡ fs = entries_from_lookups o exact es fs (sorted_tail R e.0 (keys_of es) s) (sorted_tail R f.0 (keys_of fs) t) (rest_found_alike o e f es fs s t key h) in
    ap (λ (k : K). (k, e.1) ∷ es) key ∙ (ap (λ (v : X). (f.0, v) ∷ es) value ∙ ap (λ (rest : List (K × X)). f ∷ rest) rest)

-- entries whose values are seen through a function, one more put in before or after that
seen_by : {K X Y : Type 0} (f : X → Y) (k : K) (v : X) (e : K × X) (es rest : List (K × X)) (more : List (K × Y)) (r : Ordering)
    → map (λ e. (e.0, f e.1)) rest ≡ more
    → map (λ e. (e.0, f e.1)) (match_ordering r ((k, v) ∷ e ∷ es) ((e.0, v) ∷ es) (e ∷ rest))
    ≡ match_ordering r ((k, f v) ∷ (e.0, f e.1) ∷ map (λ e. (e.0, f e.1)) es) ((e.0, f v) ∷ map (λ e. (e.0, f e.1)) es) ((e.0, f e.1) ∷ more)
seen_by f k v e es rest more Less h = refl
seen_by f k v e es rest more Equal h = refl
seen_by {K} {X} {Y} f k v e es rest more Greater h = ap (λ (ys : List (K × Y)). (e.0, f e.1) ∷ ys) h

pub insert_entry-map : {K X Y : Type 0} (R : K → K → Ordering) (f : X → Y) (k : K) (v : X) (es : List (K × X))
    → map (λ e. (e.0, f e.1)) (insert_entry R es k v) ≡ insert_entry R (map (λ e. (e.0, f e.1)) es) k (f v)
insert_entry-map R f k v [] = refl
insert_entry-map R f k v (e ∷ es) =
    seen_by f k v e es (insert_entry R es k v) (insert_entry R (map (λ e. (e.0, f e.1)) es) k (f v)) (R k e.0) (insert_entry-map R f k v es)

-- each byte of a name is as the test says
printable_from_test : (bytes : List ℕ) → list_all is_printable bytes ≡ true → All (λ b. (32 ≤ b) × (b ≤ 126)) bytes
printable_from_test [] t = All-nil (λ b. (32 ≤ b) × (b ≤ 126))
printable_from_test (b ∷ bytes) t =
    let h : is_printable b ≡ true = grind (arith, nat_tests) in
    let r : list_all is_printable bytes ≡ true = grind (arith, nat_tests) in
    All-cons (λ b. (32 ≤ b) × (b ≤ 126)) b bytes (grind (arith, nat_tests)) (printable_from_test bytes r)

-- the test of a name tells that it is one
pub IsName-from_test : (name : List ℕ) → is_name name ≡ true → IsName name
IsName-from_test name t =
    record {
      some = grind (arith, nat_tests);
      short = grind (arith, nat_tests);
      printable = printable_from_test name (grind (arith, nat_tests));
    }

-- entries that are clones show the same
pub shown_alike : {E F : Type 0} (show : E → F) (R : E → E → Type 0) → ((x y : E) → R x y → show y ≡ show x) → (xs ys : List E) → AllZip R xs ys → map show ys ≡ map show xs
shown_alike show R same [] [] z = refl
shown_alike show R same [] (y ∷ ys) z = absurd z
shown_alike show R same (x ∷ xs) [] z = absurd z
shown_alike show R same (x ∷ xs) (y ∷ ys) z = ap (λ e. e ∷ map show ys) (same x y z.0) ∙ ap (λ es. show x ∷ es) (shown_alike show R same xs ys z.1)

pub same_entry : (a b c d : ℕ) (name copy : List ℕ) → c ≡ a → d ≡ b → AllZip (λ x y. y ≡ x) name copy → ◌≡◌ {A = NamePlace × List ℕ} ((c, d), copy) ((a, b), name)
same_entry a b c d name copy e f z = rw (e, f, each_same name copy z) refl
