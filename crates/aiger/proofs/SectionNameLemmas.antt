-- The names of each section as a list: how long it is, and what a name, a push and a fresh circuit make of it.
use Rattle.std.proofs.Common.{◌≡◌, ◌≢◌, ℕ, zero, suc, ◌+◌, ◌<◌, ◌≤◌, Bool, true, List, [], ◌∷◌, ◌++◌, map, length, set, get_or, Option, Some, None, slice_get, slice_set, replicate, refl, ap, sym, ◌∙◌, subst, arith, length-set, cond, ⊎_elim}
use Rattle.std.proofs.lemmas.List.{get_or-set_same, get_or-set_other}
use Rattle.std.proofs.lemmas.Bool.{cases_eq}
use Rattle.std.proofs.lemmas.Cmp.{tied_itself}
use Rattle.std.proofs.lemmas.List.FromFn.{get_or-map-range_with_len, length-map-range_with_len, map-range_with_len_more}
use Rattle.std.proofs.lemmas.List.Elements.{All-get_or}
use Rattle.std.proofs.lemmas.Map.Entries.{place_from_lookup}
use Rattle.std.specs.List.{range_with_len}
use Rattle.std.specs.declared.cmp.Ordering.{Ordering}
use Rattle.std.specs.declared.cmp.Ordering.TheVariants.{Less, Equal, Greater}
use Rattle.std.proofs.lemmas.Option.{slice_get-get_or, get_or_from_slice_get, slice_get_within}
use Rattle.std.specs.Ordering.{is_eq}
use Rattle.std.specs.BTreeMap.{is_at}
use Rattle.std.specs.Map.{lookup}
use Rattle.aiger.specs.declared.circuit.Section.{Section}
use Rattle.aiger.specs.declared.circuit.Section.TheVariants as section
use Rattle.aiger.specs.Limits.{greatest_count}
use Rattle.aiger.specs.Circuit.{Circuit, IsCircuit, IsNamed, NamePlace, NameMap, Names, rank, place_cmp, name_in, name_of, name_at, section_count, section_names, with_name}
use Rattle.aiger.proofs.NameLemmas.{entries_from_lookups, exact_places, places_total, places_apart, positions_apart, lookup-insert_entry, section_from_rank}

-- lists as long and with the same elements are the same
same_elements : (xs ys : Names) → length xs ≡ length ys → ((k : ℕ) → k < length xs → get_or xs k None ≡ get_or ys k None) → xs ≡ ys
same_elements [] [] n h = refl
same_elements [] (y ∷ ys) n h = absurd (omega arith)
same_elements (x ∷ xs) [] n h = absurd (omega arith)
same_elements (x ∷ xs) (y ∷ ys) n h =
    let e : x ≡ y = h zero (omega arith) in
    let t : xs ≡ ys = same_elements xs ys (omega arith) (λ k l. h (suc k) (omega arith)) in
    cc

-- there are as many as the section has positions
pub length-section_names : (s : Section) (c : Circuit) → length (section_names s c) ≡ section_count s c
length-section_names s c = length-map-range_with_len (name_of c s) 0 (section_count s c)

-- the one at a position is the position's
get_or-section_names : (s : Section) (c : Circuit) (k : ℕ) (d : Option (List ℕ)) → k < section_count s c → get_or (section_names s c) k d ≡ name_of c s k
get_or-section_names s c k d l = get_or-map-range_with_len (name_of c s) 0 (section_count s c) k k d l (omega arith)

pub slice_get-section_names : (s : Section) (c : Circuit) (k : ℕ) → k < section_count s c → slice_get (section_names s c) k ≡ Some (name_of c s k)
slice_get-section_names s c k l =
    slice_get-get_or (section_names s c) k None (omega (arith, length-section_names s c)) ∙ ap (λ (name : Option (List ℕ)). Some name) (get_or-section_names s c k None l)

pub name_at-section_names : (s : Section) (c : Circuit) (k : ℕ) → k < section_count s c → name_at (section_names s c) k ≡ name_of c s k
name_at-section_names s c k l = rw (slice_get-section_names s c k l) refl

-- the same names, of as many positions
pub section_names-same : (s : Section) (c d : Circuit) → d.names ≡ c.names → section_count s d ≡ section_count s c → section_names s d ≡ section_names s c
section_names-same s c d names count = ap (λ (n : ℕ). map (λ k. name_in d.names s k) (range_with_len 0 n)) count ∙ ap (λ (ns : NameMap). map (λ k. name_in ns s k) (range_with_len 0 (section_count s c))) names

-- where no names are, each section has none
none_from_map : (s : Section) (start n : ℕ) → map (λ k. name_in [] s k) (range_with_len start n) ≡ replicate n None
none_from_map s start zero = refl
none_from_map s start (suc n) = ap (λ (names : Names). None ∷ names) (none_from_map s (start + 1) n)

pub section_names-unnamed : (s : Section) (c : Circuit) → c.names ≡ [] → section_names s c ≡ replicate (section_count s c) None
section_names-unnamed s c e = ap (λ (ns : NameMap). map (λ k. name_in ns s k) (range_with_len 0 (section_count s c))) e ∙ none_from_map s 0 (section_count s c)

-- a test that is passed is of places that are the same
same_place : (p q : NamePlace) → is_eq (place_cmp p q) ≡ true → p ≡ q
same_place p q t = by (place_cmp p q) refl t
  where
    by : (r : Ordering) → place_cmp p q ≡ r → is_eq r ≡ true → p ≡ q
    by Less e t = absurd (cc)
    by Equal e t = exact_places p q e
    by Greater e t = absurd (cc)

-- a name of a circuit is at a place of a section, and of one of its positions
section_of_name : (c : Circuit) (q : NamePlace) (v : List ℕ) → IsCircuit c → lookup (is_at (place_cmp q)) c.names ≡ Some v → (s : Section) × ((q ≡ (rank s, q.1)) × (q.1 < section_count s c))
section_of_name c q v valid e =
    let found = place_from_lookup (is_at (place_cmp q)) c.names v e in
    let there : found.0 < length c.names = slice_get_within c.names found.0 (found.1, v) found.2 in
    let same : q ≡ found.1 = same_place q found.1 found.3 in
    let named : IsNamed c (found.1, v) = subst (IsNamed c) (get_or_from_slice_get c.names found.0 (found.1, v) (found.1, v) found.2) (All-get_or (IsNamed c) c.names found.0 (found.1, v) there valid.names.named) in
    (named.section, (ap (λ (r : ℕ). (r, q.1)) (ap (λ (p : NamePlace). p.0) same ∙ named.is_section), omega (arith, ap (λ (p : NamePlace). p.1) same, named.position)))

-- so it has no names behind its positions
pub name_of-outside : (c : Circuit) (s : Section) (k : ℕ) → IsCircuit c → section_count s c ≤ k → name_of c s k ≡ None
name_of-outside c s k valid out = by (name_of c s k) refl
  where
    by : (r : Option (List ℕ)) → name_of c s k ≡ r → name_of c s k ≡ None
    by None e = e
    by (Some v) e =
        let at = section_of_name c (rank s, k) v valid e in
        let section : s ≡ at.0 = section_from_rank s at.0 (ap (λ (p : NamePlace). p.0) at.1.0) in
        absurd (omega (arith, out, at.1.1, ap (λ (t : Section). section_count t c) section))

-- so a position more has none
pub section_names-push : (s : Section) (c d : Circuit) → IsCircuit c → d.names ≡ c.names → section_count s d ≡ section_count s c + 1 → section_names s d ≡ section_names s c ++ None ∷ []
section_names-push s c d valid names count =
    ap (λ (n : ℕ). map (λ k. name_in d.names s k) (range_with_len 0 n)) count
    ∙ ap (λ (ns : NameMap). map (λ k. name_in ns s k) (range_with_len 0 (section_count s c + 1))) names
    ∙ map-range_with_len_more (name_of c s) 0 (section_count s c) (section_count s c) (omega arith)
    ∙ ap (λ (name : Option (List ℕ)). section_names s c ++ name ∷ []) (name_of-outside c s (section_count s c) valid (omega arith))

-- a name changes no count
pub section_count-with_name : (t : Section) (c : Circuit) (s : Section) (k : ℕ) (name : List ℕ) → section_count t (with_name c s k name) ≡ section_count t c
section_count-with_name section.Input c s k name = refl
section_count-with_name section.Latch c s k name = refl
section_count-with_name section.Output c s k name = refl
section_count-with_name section.Bad c s k name = refl
section_count-with_name section.Constraint c s k name = refl
section_count-with_name section.Justice c s k name = refl
section_count-with_name section.Fair c s k name = refl

-- it is the name of its position
pub name_of-with_name : (c : Circuit) (s : Section) (k : ℕ) (name : List ℕ) → name_of (with_name c s k name) s k ≡ Some name
name_of-with_name c s k name =
    let t : is_eq (place_cmp (rank s, k) (rank s, k)) ≡ true = ap is_eq (tied_itself places_total (rank s, k)) in
    lookup-insert_entry exact_places (rank s, k) name (rank s, k) c.names ∙ ap (λ (b : Bool). cond b (Some name) (name_of c s k)) t

-- and the names of the other positions are as before
pub name_of-other_position : (c : Circuit) (s : Section) (j k : ℕ) (name : List ℕ) → j ≢ k → name_of (with_name c s k name) s j ≡ name_of c s j
name_of-other_position c s j k name apart =
    lookup-insert_entry exact_places (rank s, k) name (rank s, j) c.names ∙ ap (λ (b : Bool). cond b (Some name) (name_of c s j)) (positions_apart s j k apart)

pub name_of-other_section : (c : Circuit) (s t : Section) (j k : ℕ) (name : List ℕ) → s ≢ t → name_of (with_name c s k name) t j ≡ name_of c t j
name_of-other_section c s t j k name apart =
    lookup-insert_entry exact_places (rank s, k) name (rank t, j) c.names ∙ ap (λ (b : Bool). cond b (Some name) (name_of c t j)) (places_apart s t j k apart)

-- so it is set in the names of its section
pub section_names-with_name : (c : Circuit) (s : Section) (k : ℕ) (name : List ℕ) → k < section_count s c → section_names s (with_name c s k name) ≡ slice_set (section_names s c) k (Some name)
section_names-with_name c s k name l =
    let d : Circuit = with_name c s k name in
    let count : section_count s d ≡ section_count s c = section_count-with_name s c s k name in
    let old : length (section_names s c) ≡ section_count s c = length-section_names s c in
    same_elements (section_names s d) (slice_set (section_names s c) k (Some name)) (omega (arith, length-section_names s d, length-set (section_names s c) k (Some name)))
    (λ j h.
    let j_in : j < section_count s d = omega (arith, length-section_names s d) in
    get_or-section_names s d j None j_in
    ∙ ⊎_elim (λ (e : j ≡ k). subst (λ (i : ℕ). name_of d s i ≡ get_or (set (section_names s c) k (Some name)) i None) (sym e) (name_of-with_name c s k name ∙ sym (get_or-set_same (section_names s c) k (Some name) None (omega arith))))
    (λ (n : j ≢ k). name_of-other_position c s j k name n ∙ (sym (get_or-section_names s c j None (omega arith)) ∙ sym (get_or-set_other (section_names s c) k j (Some name) None n)))
    (cases_eq j k))

-- and the names of the other sections are as before
pub section_names-other_section : (c : Circuit) (s t : Section) (k : ℕ) (name : List ℕ) → s ≢ t → section_names t (with_name c s k name) ≡ section_names t c
section_names-other_section c s t k name apart =
    let d : Circuit = with_name c s k name in
    let count : section_count t d ≡ section_count t c = section_count-with_name t c s k name in
    same_elements (section_names t d) (section_names t c) (omega (arith, length-section_names t d, length-section_names t c))
    (λ j h.
    let j_in : j < section_count t d = omega (arith, length-section_names t d) in
    get_or-section_names t d j None j_in ∙ (name_of-other_section c s t j k name apart ∙ sym (get_or-section_names t c j None (omega arith))))

-- no section has more than 2^30 positions
pub few_positions : (s : Section) (c : Circuit) → IsCircuit c → section_count s c ≤ greatest_count
few_positions section.Input c valid = omega (arith, valid.small)
few_positions section.Latch c valid = omega (arith, valid.small)
few_positions section.Output c valid = valid.few.outputs
few_positions section.Bad c valid = valid.few.bads
few_positions section.Constraint c valid = valid.few.constraints
few_positions section.Justice c valid = valid.few.justice
few_positions section.Fair c valid = valid.few.fair

-- names that are found alike at each position are found alike at each place
found_alike : (c d : Circuit) (q : NamePlace) → IsCircuit c → IsCircuit d → ((s : Section) (k : ℕ) → name_of d s k ≡ name_of c s k)
    → lookup (is_at (place_cmp q)) d.names ≡ lookup (is_at (place_cmp q)) c.names
found_alike c d q valid other same = by (lookup (is_at (place_cmp q)) d.names) refl (lookup (is_at (place_cmp q)) c.names) refl
  where
    here : (s : Section) → q ≡ (rank s, q.1) → lookup (is_at (place_cmp q)) d.names ≡ lookup (is_at (place_cmp q)) c.names
    here s e = subst (λ (p : NamePlace). lookup (is_at (place_cmp p)) d.names ≡ lookup (is_at (place_cmp p)) c.names) (sym e) (same s q.1)

    by : (r : Option (List ℕ)) → lookup (is_at (place_cmp q)) d.names ≡ r → (t : Option (List ℕ)) → lookup (is_at (place_cmp q)) c.names ≡ t
        → lookup (is_at (place_cmp q)) d.names ≡ lookup (is_at (place_cmp q)) c.names
    by None e None f = e ∙ sym f
    by (Some v) e t f = let at = section_of_name d q v other e in here at.0 at.1.0
    by None e (Some v) f = let at = section_of_name c q v valid f in here at.0 at.1.0

-- so the names of two circuits that are found alike are the same
pub same_names : (c : Circuit) (names : NameMap) → IsCircuit c → IsCircuit (record c { names = names }) → ((s : Section) (k : ℕ) → name_in names s k ≡ name_of c s k) → names ≡ c.names
same_names c names valid other same =
    let d : Circuit = record c { names = names } in
    entries_from_lookups places_total exact_places names c.names other.names.sorted valid.names.sorted
    (λ q. found_alike c d q valid other same)
