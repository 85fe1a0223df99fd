-- The names of a circuit whose outputs become bad properties.
use Rattle.std.proofs.Common.{◌≡◌, ◌≢◌, ℕ, ◌+◌, ◌<◌, ◌≤◌, Bool, true, false, ◌&&◌, ◌||◌, List, [], ◌∷◌, length, All, Some, None, Option, is_some, if◌then◌else◌, nat_le, nat_lt, refl, sym, ap, subst, ◌∙◌, length-append, arith}
use Rattle.std.specs.Prelude.{nat_eq, IfSome}
use Rattle.std.specs.List.{list_all}
use Rattle.std.specs.BTreeMap.{is_at}
use Rattle.std.proofs.lemmas.Bool.Decides.{nat_tests}
use Rattle.std.proofs.lemmas.Map.Entries.{All-lookup}
use Rattle.std.proofs.lemmas.List.Elements.{All-head, All-tail, All-nil, All-cons}
use Rattle.aiger.specs.declared.circuit.Section.{Section}
use Rattle.aiger.specs.declared.circuit.Section.TheVariants.{Input, Latch, Output, Bad, Constraint, Justice, Fair}
use Rattle.aiger.specs.declared.fault.CircuitFault.TheVariants as fault
use Rattle.aiger.specs.Circuit.{Circuit, IsCircuit, IsNamed, NamePlace, NameMap, rank, place_cmp, section_count, name_of, with_name, name_refusal, IsName, is_name}
use Rattle.aiger.specs.Names.{is_printable}
use Rattle.aiger.proofs.SectionNameLemmas.{name_of-with_name, name_of-other_position, name_of-other_section}
use Rattle.engine_form.specs.Moves.{new_section, new_position, unnamed, is_before, NamesMoved}
use Rattle.engine_form.specs.Outputs.{HasOutputsAsBads}

-- sections of one rank are the same
section_from_rank : (s t : Section) → rank s ≡ rank t → s ≡ t
section_from_rank Input Input e = refl
section_from_rank Latch Latch e = refl
section_from_rank Output Output e = refl
section_from_rank Bad Bad e = refl
section_from_rank Constraint Constraint e = refl
section_from_rank Justice Justice e = refl
section_from_rank Fair Fair e = refl
section_from_rank s t e = absurd (omega arith)

-- ---- names of circuits

printable_test : (bytes : List ℕ) → All (λ b. (32 ≤ b) × (b ≤ 126)) bytes → list_all is_printable bytes ≡ true
printable_test [] a = refl
printable_test (b ∷ bytes) a =
    let head = All-head (λ (b : ℕ). (32 ≤ b) × (b ≤ 126)) b bytes a in
    let low : nat_le 32 b ≡ true = grind (arith, nat_tests, head.0) in
    let high : nat_le b 126 ≡ true = grind (arith, nat_tests, head.1) in
    rw (low, high) (printable_test bytes (All-tail (λ (b : ℕ). (32 ≤ b) × (b ≤ 126)) b bytes a))

name_test : (name : List ℕ) → IsName name → is_name name ≡ true
name_test name n =
    let some : nat_lt 0 (length name) ≡ true = grind (arith, nat_tests, n.some) in
    let short : nat_le (length name) 300 ≡ true = grind (arith, nat_tests, n.short) in
    rw (some, short) (printable_test name n.printable)

entries_are_names : (c : Circuit) (es : NameMap) → All (IsNamed c) es → All (λ e. IsName e.1) es
entries_are_names c [] a = All-nil (λ (e : NamePlace × List ℕ). IsName e.1)
entries_are_names c (e ∷ es) a = All-cons (λ (e : NamePlace × List ℕ). IsName e.1) e es (All-head (IsNamed c) e es a).name (entries_are_names c es (All-tail (IsNamed c) e es a))

-- the names that a circuit has are names
pub name_is_good : (c : Circuit) (s : Section) (k : ℕ) (name : List ℕ) → IsCircuit c → name_of c s k ≡ Some name → is_name name ≡ true
name_is_good c s k name valid at =
    name_test name (subst (λ (o : Option (List ℕ)). IfSome o IsName) at (All-lookup IsName (is_at (place_cmp (rank s, k))) c.names (entries_are_names c c.names valid.names.named)))

-- a name for a position that has none is not refused
pub name_fits : (c : Circuit) (s : Section) (k : ℕ) (name : List ℕ) → k < section_count s c → name_of c s k ≡ None → is_name name ≡ true → name_refusal c s k name ≡ None
name_fits c s k name inside free good =
    let there : nat_le (section_count s c) k ≡ false = grind (arith, nat_tests) in
    by (nat_le (section_count s c) k) there
  where
    by : (b : Bool) → b ≡ false → (if b then Some fault.NoSuchPosition else (if is_some (name_of c s k) then Some fault.NameTaken else (if is_name name then None else Some fault.BadName))) ≡ None
    by true e = absurd (cc)
    by false e = rw (free, good) refl

    -- ---- where they go

    fits : (s : Section) → k < section_count s c → new_position c s k < section_count (new_section s) (unnamed c)
    fits Input h = h
    fits Latch h = h
    fits Output h = let e = length-append c.bads c.outputs in omega arith
    fits Bad h = let e = length-append c.bads c.outputs in omega arith
    fits Constraint h = h
    fits Justice h = h
    fits Fair h = h

-- two positions go to two positions
places_differ : (c : Circuit) (s t : Section) (j k : ℕ) → j < section_count s c → k < section_count t c → (rank s ≡ rank t → j ≡ k → ⊥)
    → rank (new_section s) ≡ rank (new_section t) → new_position c s j ≡ new_position c t k → ⊥
places_differ c Input Input j k in_s in_t apart e p = apart refl p
places_differ c Latch Latch j k in_s in_t apart e p = apart refl p
places_differ c Constraint Constraint j k in_s in_t apart e p = apart refl p
places_differ c Justice Justice j k in_s in_t apart e p = apart refl p
places_differ c Fair Fair j k in_s in_t apart e p = apart refl p
places_differ c Bad Bad j k in_s in_t apart e p = apart refl p
places_differ c Output Output j k in_s in_t apart e p = apart refl (omega arith)
places_differ c Output Bad j k in_s in_t apart e p = omega arith
places_differ c Bad Output j k in_s in_t apart e p = omega arith
places_differ c s t j k in_s in_t apart e p = omega arith

-- a name given to one place leaves what is found at others
other_place : (d : Circuit) (s t : Section) (j k : ℕ) (name : List ℕ) → (rank s ≡ rank t → j ≡ k → ⊥) → name_of (with_name d t k name) s j ≡ name_of d s j
other_place d s t j k name apart = by (nat_eq (rank s) (rank t)) refl
  where
    by : (b : Bool) → nat_eq (rank s) (rank t) ≡ b → name_of (with_name d t k name) s j ≡ name_of d s j
    by true e =
        let same : rank s ≡ rank t = grind (arith, nat_tests) in
        subst (λ (x : Section). name_of (with_name d t k name) x j ≡ name_of d x j) (sym (section_from_rank s t same)) (name_of-other_position d t j k name (λ q. apart same q))
    by false e =
        let other : rank s ≢ rank t = grind (arith, nat_tests) in
        name_of-other_section d t s j k name (λ q. other (ap rank (sym q)))

-- ---- which of them have gone

itself_before : (r p : ℕ) → (nat_lt r r || (nat_eq r r && nat_lt p (p + 1))) ≡ true
itself_before r p =
    let a : nat_eq r r ≡ true = grind (arith, nat_tests) in
    let b : nat_lt p (p + 1) ≡ true = grind (arith, nat_tests) in
    by (nat_lt r r) a b
  where
    by : (x : Bool) → nat_eq r r ≡ true → nat_lt p (p + 1) ≡ true → (x || (nat_eq r r && nat_lt p (p + 1))) ≡ true
    by true a b = refl
    by false a b = rw (a, b) refl

others_before : (r p n k : ℕ) → (n ≡ r → k ≡ p → ⊥) → (nat_lt n r || (nat_eq n r && nat_lt k (p + 1))) ≡ (nat_lt n r || (nat_eq n r && nat_lt k p))
others_before r p n k apart = ap (λ (b : Bool). nat_lt n r || b) (by (nat_eq n r) refl)
  where
    by : (x : Bool) → nat_eq n r ≡ x → (x && nat_lt k (p + 1)) ≡ (x && nat_lt k p)
    by true e =
        let same : n ≡ r = grind (arith, nat_tests) in
        let other : k ≢ p = λ q. apart same q in
        grind (arith, nat_tests)
    by false e = refl

none_before : (n k : ℕ) → (nat_lt n 0 || (nat_eq n 0 && nat_lt k 0)) ≡ false
none_before n k =
    let a : nat_lt n 0 ≡ false = grind (arith, nat_tests) in
    let b : nat_lt k 0 ≡ false = grind (arith, nat_tests) in
    rw (a, b) (by (nat_eq n 0))
  where
    by : (x : Bool) → (false || (x && false)) ≡ false
    by true = refl
    by false = refl

-- one more is looked at: its name, where it has one, has gone
step : (c old new : Circuit) (t : Section) (p : ℕ) → NamesMoved c old (rank t) p → name_of new (new_section t) (new_position c t p) ≡ name_of c t p
    → ((s : Section) (k : ℕ) → k < section_count s c → (rank s ≡ rank t → k ≡ p → ⊥) → name_of new (new_section s) (new_position c s k) ≡ name_of old (new_section s) (new_position c s k))
    → NamesMoved c new (rank t) (p + 1)
step c old new t p moved own others s k inside = by (nat_eq (rank s) (rank t)) refl (nat_eq k p) refl
  where
    away : (rank s ≡ rank t → k ≡ p → ⊥) → name_of new (new_section s) (new_position c s k) ≡ (if is_before (rank t) (p + 1) s k then name_of c s k else None)
    away apart = others s k inside apart ∙ moved s k inside ∙ ap (λ (b : Bool). if b then name_of c s k else None) (sym (others_before (rank t) p (rank s) k apart))

    here : t ≡ s → p ≡ k → name_of new (new_section s) (new_position c s k) ≡ (if is_before (rank t) (p + 1) s k then name_of c s k else None)
    here same at =
        subst (λ (x : Section). name_of new (new_section x) (new_position c x k) ≡ (if is_before (rank t) (p + 1) x k then name_of c x k else None)) same
        (subst (λ (x : ℕ). name_of new (new_section t) (new_position c t x) ≡ (if is_before (rank t) (p + 1) t x then name_of c t x else None)) at
        (own ∙ ap (λ (b : Bool). if b then name_of c t p else None) (sym (itself_before (rank t) p))))

    by : (x : Bool) → nat_eq (rank s) (rank t) ≡ x → (y : Bool) → nat_eq k p ≡ y → name_of new (new_section s) (new_position c s k) ≡ (if is_before (rank t) (p + 1) s k then name_of c s k else None)
    by true e true f =
        let same : rank t ≡ rank s = grind (arith, nat_tests) in
        let at : p ≡ k = grind (arith, nat_tests) in
        here (section_from_rank t s same) at
    by true e false f =
        let other : k ≢ p = grind (arith, nat_tests) in
        away (λ a b. other b)
    by false e y f =
        let other : rank s ≢ rank t = grind (arith, nat_tests) in
        away (λ a b. other a)

pub name_moved : (c old new : Circuit) (t : Section) (p : ℕ) (name : List ℕ) → p < section_count t c → NamesMoved c old (rank t) p → name_of c t p ≡ Some name
    → new ≡ with_name old (new_section t) (new_position c t p) name → NamesMoved c new (rank t) (p + 1)
name_moved c old new t p name there moved at is =
    step c old new t p moved
    (ap (λ (x : Circuit). name_of x (new_section t) (new_position c t p)) is ∙ name_of-with_name old (new_section t) (new_position c t p) name ∙ sym at)
    (λ s k inside apart.
    ap (λ (x : Circuit). name_of x (new_section s) (new_position c s k)) is
    ∙ other_place old (new_section s) (new_section t) (new_position c s k) (new_position c t p) name (places_differ c s t k p inside there apart))

-- what has all lists and all names is the circuit
pub all_moved : (c d : Circuit) → IsCircuit c → IsCircuit d → record d { names = [] } ≡ unnamed c → NamesMoved c d 7 0 → HasOutputsAsBads c d
all_moved c d valid circuit is moved =
    record {
      original = valid;
      circuit = circuit;
      inputs = ap (λ (x : Circuit). x.inputs) is;
      latches = ap (λ (x : Circuit). x.latches) is;
      gates = ap (λ (x : Circuit). x.gates) is;
      constraints = ap (λ (x : Circuit). x.constraints) is;
      justice = ap (λ (x : Circuit). x.justice) is;
      fair = ap (λ (x : Circuit). x.fair) is;
      bads = ap (λ (x : Circuit). x.bads) is;
      no_outputs = ap (λ (x : Circuit). x.outputs) is;
      names = kept;
      output_names = λ k inside. moved Output k inside;
    }
  where
    kept : (s : Section) (k : ℕ) → s ≢ Output → k < section_count s c → name_of d s k ≡ name_of c s k
    kept Input k apart inside = moved Input k inside
    kept Latch k apart inside = moved Latch k inside
    kept Output k apart inside = absurd (apart refl)
    kept Bad k apart inside = moved Bad k inside
    kept Constraint k apart inside = moved Constraint k inside
    kept Justice k apart inside = moved Justice k inside
    kept Fair k apart inside = moved Fair k inside
