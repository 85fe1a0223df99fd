-- Orders in which gates get their numbers.
use Rattle.std.proofs.Common.{◌≡◌, ℕ, zero, suc, ◌+◌, ◌<◌, ◌≤◌, Bool, true, false, not, ◌&&◌, ◌||◌, ◌==◌, List, [], ◌∷◌, ◌++◌, map, length, ◌⊎◌, nat_eq, nat_lt, slice_index_or, cond, refl, ap, sym, ◌∙◌, subst, arith, append_assoc, append-nil, ⊎_elim}
use Rattle.std.proofs.lemmas.Bool.Decides.{nat_tests}
use Rattle.std.proofs.lemmas.Bool.{cases_order}
use Rattle.std.proofs.lemmas.List.{map-append, length-map, get_or-map}
use Rattle.std.proofs.lemmas.List.Folds.{list_any-append, list_any_at}
use Rattle.std.proofs.lemmas.List.Sums.{sum_by-append, sum_by-cons}
use Rattle.std.specs.List.{list_any, position_or_len, count_by}
use Rattle.aigerlists.specs.declared.loose.GateLine.{GateLine}
use Rattle.base.specs.Literal.{variable}
use Rattle.aigerlists.specs.Loose.{Loose, IsLoose, IsDefining, defined_variables, latch_variable, gate_variable}
use Rattle.aigerlists.specs.Renumbering.{is_known, gate_line, gate_name, variables_numbered, has_number, is_ready, AreInTurn, Uses, LeadsAlong, DependsOn, LeadsToCycle}
use Rattle.aigerlists.proofs.LooseLemmas.{count_join}
use Rattle.aigerlists.proofs.RenumberingLemmas.{found, placed, place_kept, named_from_test}

-- the numbered variables with further gates
pub numbered-append : (l : Loose) (done more : List ℕ) → variables_numbered l (done ++ more) ≡ variables_numbered l done ++ map (gate_name l) more
numbered-append l done more =
    ap (λ (xs : List ℕ). map variable l.inputs ++ map latch_variable l.latches ++ xs) (map-append (gate_name l) done more) ∙ sym (append_assoc (map variable l.inputs ++ map latch_variable l.latches) (map (gate_name l) done) (map (gate_name l) more))

-- what has a number keeps it
pub has_number-append : (names more : List ℕ) (lit : ℕ) → has_number names lit ≡ true → has_number (names ++ more) lit ≡ true
has_number-append names more lit t =
    let e = list_any-append (nat_eq (variable lit)) names more in
    grind (arith, nat_tests, e, t)

-- what a ready gate is
pub ready_parts : (l : Loose) (done : List ℕ) (j : ℕ) → is_ready l done j ≡ true → (j < length l.gates) × (list_any (nat_eq j) done ≡ false) × (has_number (variables_numbered l done) (gate_line l j).rhs0 ≡ true) × (has_number (variables_numbered l done) (gate_line l j).rhs1 ≡ true)
ready_parts l done j t =
    by (nat_lt j (length l.gates)) (list_any (nat_eq j) done) (has_number (variables_numbered l done) (gate_line l j).rhs0) (has_number (variables_numbered l done) (gate_line l j).rhs1) refl t
  where
    by : (a b c d : Bool) → nat_lt j (length l.gates) ≡ a → (a && (not b && (c && d))) ≡ true → (j < length l.gates) × (b ≡ false) × (c ≡ true) × (d ≡ true)
    by true false true true e u = (grind (arith, nat_tests), refl, refl, refl)
    by true false true false e u = absurd (cc)
    by true false false d e u = absurd (cc)
    by true true c d e u = absurd (cc)
    by false b c d e u = absurd (cc)

-- elements of a mapped list
pub any_map : (f : ℕ → ℕ) (k : ℕ) (xs : List ℕ) → list_any (nat_eq k) xs ≡ true → list_any (nat_eq (f k)) (map f xs) ≡ true
any_map f k [] t = absurd (cc)
any_map f k (x ∷ xs) t = by (nat_eq k x) refl (λ r. any_map f k xs r)
  where
    by : (b : Bool) → nat_eq k x ≡ b → (list_any (nat_eq k) xs ≡ true → list_any (nat_eq (f k)) (map f xs) ≡ true) → list_any (nat_eq (f k)) (map f (x ∷ xs)) ≡ true
    by true e rest = let s : k ≡ x = grind (arith, nat_tests) in let h : nat_eq (f k) (f x) ≡ true = subst (λ (y : ℕ). nat_eq (f k) (f y) ≡ true) s (grind (arith, nat_tests)) in ap (λ (b : Bool). b || list_any (nat_eq (f k)) (map f xs)) h
    by false e rest =
        let here : list_any (nat_eq k) xs ≡ true = sym (ap (λ (b : Bool). b || list_any (nat_eq k) xs) e) ∙ t in
        let r = rest here in
        grind (arith, nat_tests, r)

-- the gate line of a place in the mapped lines
pub name_at_place : (gates : List GateLine) (k : ℕ) (d : GateLine) → k < length gates → slice_index_or (map gate_variable gates) k 0 ≡ gate_variable (slice_index_or gates k d)
name_at_place gates k d h = get_or-map gate_variable gates k d 0 h

-- a test of a list fails where it does not pass
pub false_unless : (b : Bool) → (b ≡ true → ⊥) → b ≡ false
false_unless true h = absurd (h refl)
false_unless false h = refl

-- a known literal without a number is of a gate that has none
pub unnumbered_operand : (l : Loose) (order : List ℕ) (lit : ℕ) → is_known l lit ≡ true → has_number (variables_numbered l order) lit ≡ false → (i : ℕ) × ((i < length l.gates) × (variable lit ≡ gate_name l i) × (list_any (nat_eq i) order ≡ false))
unnumbered_operand l order lit t none =
    by (variable lit == 0) (list_any (nat_eq (variable lit)) (map variable l.inputs ++ map latch_variable l.latches)) (list_any (nat_eq (variable lit)) (map gate_variable l.gates)) refl refl refl
  where
    by : (x y z : Bool) → (variable lit == 0) ≡ x → list_any (nat_eq (variable lit)) (map variable l.inputs ++ map latch_variable l.latches) ≡ y → list_any (nat_eq (variable lit)) (map gate_variable l.gates) ≡ z → (i : ℕ) × ((i < length l.gates) × (variable lit ≡ gate_name l i) × (list_any (nat_eq i) order ≡ false))
    by true y z e f g =
        let u : has_number (variables_numbered l order) lit ≡ true = ap (λ (c : Bool). c || list_any (nat_eq (variable lit)) (variables_numbered l order)) e in
        absurd (let w : true ≡ false = sym u ∙ none in cc)
    by false true z e f g =
        let h = list_any-append (nat_eq (variable lit)) (map variable l.inputs ++ map latch_variable l.latches) (map (gate_name l) order) in
        absurd (grind (arith, nat_tests, f, h, none))
    by false false true e f g =
        let p : ℕ = position_or_len (nat_eq (variable lit)) (map gate_variable l.gates) in
        let r = found (variable lit) (map gate_variable l.gates) g in
        let low : p < length l.gates = omega (arith, r.0, length-map l.gates gate_variable) in
        let name : gate_name l p ≡ variable lit = sym (name_at_place l.gates p (record { lhs = 0; rhs0 = 0; rhs1 = 0 }) low) ∙ r.1 in
        let h = list_any-append (nat_eq (variable lit)) (map variable l.inputs ++ map latch_variable l.latches) (map (gate_name l) order) in
        let new : list_any (nat_eq p) order ≡ false = false_unless (list_any (nat_eq p) order) (λ u.
        let m : list_any (nat_eq (variable lit)) (map (gate_name l) order) ≡ true = subst (λ (v : ℕ). list_any (nat_eq v) (map (gate_name l) order) ≡ true) name (any_map (gate_name l) p order u) in
        grind (arith, nat_tests, m, h, none)) in
        (p, (low, sym name, new))
    by false false false e f g =
        let h = list_any-append (nat_eq (variable lit)) (map variable l.inputs ++ map latch_variable l.latches) (map gate_variable l.gates) in
        absurd (grind (arith, nat_tests, e, f, g, h, t))

-- so it has a number once all gates have
pub number_from_known : (l : Loose) (order : List ℕ) (lit : ℕ) → ((j : ℕ) → j < length l.gates → list_any (nat_eq j) order ≡ true) → is_known l lit ≡ true → has_number (variables_numbered l order) lit ≡ true
number_from_known l order lit all t = by (has_number (variables_numbered l order) lit) refl
  where
    by : (b : Bool) → has_number (variables_numbered l order) lit ≡ b → has_number (variables_numbered l order) lit ≡ true
    by true e = e
    by false e = let r = unnumbered_operand l order lit t e in let z : true ≡ false = sym (all r.0 r.1.0) ∙ r.1.2 in absurd (cc)

-- a count of at least one where an element passes
pub count_some : (v : ℕ) (xs : List ℕ) → list_any (nat_eq v) xs ≡ true → 1 ≤ count_by (nat_eq v) xs
count_some v [] t = absurd (cc)
count_some v (x ∷ xs) t = by (nat_eq v x) refl (λ r. count_some v xs r)
  where
    by : (b : Bool) → nat_eq v x ≡ b → (list_any (nat_eq v) xs ≡ true → 1 ≤ count_by (nat_eq v) xs) → 1 ≤ count_by (nat_eq v) (x ∷ xs)
    by true e rest =
        let c : count_by (nat_eq v) (x ∷ xs) ≡ 1 + count_by (nat_eq v) xs = sum_by-cons (λ (y : ℕ). cond (nat_eq v y) 1 0) x xs ∙ ap (λ (b : Bool). cond b 1 0 + count_by (nat_eq v) xs) e in
        omega (arith, c)
    by false e rest =
        let here : list_any (nat_eq v) xs ≡ true = sym (ap (λ (b : Bool). b || list_any (nat_eq v) xs) e) ∙ t in
        let c : count_by (nat_eq v) (x ∷ xs) ≡ 0 + count_by (nat_eq v) xs = sum_by-cons (λ (y : ℕ). cond (nat_eq v y) 1 0) x xs ∙ ap (λ (b : Bool). cond b 1 0 + count_by (nat_eq v) xs) e in
        omega (arith, c, rest here)

-- two places of one number count twice
count_two : (v : ℕ) (xs : List ℕ) (i j : ℕ) → i < j → j < length xs → slice_index_or xs i 0 ≡ v → slice_index_or xs j 0 ≡ v → 2 ≤ count_by (nat_eq v) xs
count_two v [] i j h k e f = absurd (omega arith)
count_two v (x ∷ xs) i zero h k e f = absurd (omega arith)
count_two v (x ∷ xs) zero (suc j) h k e f =
    let t : nat_eq v (slice_index_or xs j 0) ≡ true = grind (arith, nat_tests) in
    let some : 1 ≤ count_by (nat_eq v) xs = count_some v xs (list_any_at (nat_eq v) xs j 0 (omega arith) t) in
    let here : nat_eq v x ≡ true = grind (arith, nat_tests) in
    let c : count_by (nat_eq v) (x ∷ xs) ≡ 1 + count_by (nat_eq v) xs = sum_by-cons (λ (y : ℕ). cond (nat_eq v y) 1 0) x xs ∙ ap (λ (b : Bool). cond b 1 0 + count_by (nat_eq v) xs) here in
    omega (arith, c, some)
count_two v (x ∷ xs) (suc i) (suc j) h k e f =
    let rest : 2 ≤ count_by (nat_eq v) xs = count_two v xs i j (omega arith) (omega arith) e f in
    let c : count_by (nat_eq v) (x ∷ xs) ≡ cond (nat_eq v x) 1 0 + count_by (nat_eq v) xs = sum_by-cons (λ (y : ℕ). cond (nat_eq v y) 1 0) x xs in
    omega (arith, c, rest)

-- gates have variables of their own
pub same_gate : (l : Loose) (i j : ℕ) → IsLoose l → i < length l.gates → j < length l.gates → gate_name l i ≡ gate_name l j → i ≡ j
same_gate l i j valid h k e =
    let names : List ℕ = map gate_variable l.gates in
    let n : length names ≡ length l.gates = length-map l.gates gate_variable in
    let a : slice_index_or names i 0 ≡ gate_name l i = name_at_place l.gates i (record { lhs = 0; rhs0 = 0; rhs1 = 0 }) h in
    let b : slice_index_or names j 0 ≡ gate_name l j = name_at_place l.gates j (record { lhs = 0; rhs0 = 0; rhs1 = 0 }) k in
    let once : (v : ℕ) → count_by (nat_eq v) names ≤ 1 = λ v. omega (arith, valid.definitions.once v, count_join (nat_eq v) (map variable l.inputs) (map latch_variable l.latches) names) in
    ⊎_elim (λ (s : i ≡ j). s)
    (λ (o : (i < j) ⊎ (j < i)). ⊎_elim
    (λ (low : i < j). absurd (omega (arith, once (gate_name l j), count_two (gate_name l j) names i j low (omega (arith, n)) (a ∙ e) b)))
    (λ (low : j < i). absurd (omega (arith, once (gate_name l i), count_two (gate_name l i) names j i low (omega (arith, n)) (b ∙ sym e) a)))
    o)
    (cases_order i j)

-- gates are those of the file
abbrev pub AreGates : Loose → List ℕ → Type 0
AreGates l done = (i : ℕ) → list_any (nat_eq i) done ≡ true → i < length l.gates

-- a literal of a gate's variable is no constant
pub gate_is_variable : (l : Loose) (i lit : ℕ) → IsLoose l → i < length l.gates → variable lit ≡ gate_name l i → (variable lit == 0) ≡ false
gate_is_variable l i lit valid h e =
    let d : IsDefining (gate_line l i).lhs = valid.definitions.gates i (record { lhs = 0; rhs0 = 0; rhs1 = 0 }) h in
    let two : 2 ≤ (gate_line l i).lhs = d.least in
    let some : 1 ≤ gate_name l i = omega arith in
    grind (arith, nat_tests)

-- a gate's variable is one of those that gates define, and so of no input and no latch
pub not_leaf : (l : Loose) (j : ℕ) → IsLoose l → j < length l.gates → list_any (nat_eq (gate_name l j)) (map variable l.inputs ++ map latch_variable l.latches) ≡ false
not_leaf l j valid h =
    let names : List ℕ = map gate_variable l.gates in
    let a : slice_index_or names j 0 ≡ gate_name l j = name_at_place l.gates j (record { lhs = 0; rhs0 = 0; rhs1 = 0 }) h in
    let t : nat_eq (gate_name l j) (slice_index_or names j 0) ≡ true = grind (arith, nat_tests) in
    let some : 1 ≤ count_by (nat_eq (gate_name l j)) names = count_some (gate_name l j) names (list_any_at (nat_eq (gate_name l j)) names j 0 (omega (arith, length-map l.gates gate_variable)) t) in
    let joined : count_by (nat_eq (gate_name l j)) (defined_variables l) ≡ count_by (nat_eq (gate_name l j)) (map variable l.inputs ++ map latch_variable l.latches) + count_by (nat_eq (gate_name l j)) names = sum_by-append (λ (y : ℕ). cond (nat_eq (gate_name l j) y) 1 0) (map variable l.inputs ++ map latch_variable l.latches) names in
    false_unless (list_any (nat_eq (gate_name l j)) (map variable l.inputs ++ map latch_variable l.latches)) (λ u. omega (arith, valid.definitions.once (gate_name l j), joined, some, count_some (gate_name l j) (map variable l.inputs ++ map latch_variable l.latches) u))

-- a gate is among those whose variable has a number exactly where it is one of them
pub gate_from_name : (l : Loose) (done : List ℕ) (j : ℕ) → IsLoose l → AreGates l done → j < length l.gates → list_any (nat_eq (gate_name l j)) (variables_numbered l done) ≡ true → list_any (nat_eq j) done ≡ true
gate_from_name l done j valid within h t =
    let leaves : List ℕ = map variable l.inputs ++ map latch_variable l.latches in
    let e = list_any-append (nat_eq (gate_name l j)) leaves (map (gate_name l) done) in
    let n : list_any (nat_eq (gate_name l j)) leaves ≡ false = not_leaf l j valid h in
    let m : list_any (nat_eq (gate_name l j)) (map (gate_name l) done) ≡ true = grind (arith, nat_tests, e, n, t) in
    let p : ℕ = position_or_len (nat_eq (gate_name l j)) (map (gate_name l) done) in
    let r = found (gate_name l j) (map (gate_name l) done) m in
    let low : p < length done = omega (arith, r.0, length-map done (gate_name l)) in
    let i : ℕ = slice_index_or done p 0 in
    let same : gate_name l i ≡ gate_name l j = sym (get_or-map (gate_name l) done p 0 0 low) ∙ r.1 in
    let t : nat_eq i (slice_index_or done p 0) ≡ true = grind (arith, nat_tests) in
    let here : list_any (nat_eq i) done ≡ true = list_any_at (nat_eq i) done p 0 low t in
    subst (λ (k : ℕ). list_any (nat_eq k) done ≡ true) (same_gate l i j valid (within i here) h same) here

-- a ready gate's variable has no number yet
pub fresh : (l : Loose) (done : List ℕ) (j : ℕ) → IsLoose l → AreGates l done → is_ready l done j ≡ true → list_any (nat_eq (gate_name l j)) (variables_numbered l done) ≡ false
fresh l done j valid within ready =
    let r = ready_parts l done j ready in
    let f : list_any (nat_eq j) done ≡ false = r.1 in
    false_unless (list_any (nat_eq (gate_name l j)) (variables_numbered l done)) (λ u. let t : list_any (nat_eq j) done ≡ true = gate_from_name l done j valid within r.0 u in let z : true ≡ false = sym t ∙ f in cc)

-- with a ready gate more, they are gates of the file
pub AreGates-push : (l : Loose) (done : List ℕ) (j : ℕ) → AreGates l done → j < length l.gates → AreGates l (done ++ j ∷ [])
AreGates-push l done j within h i t =
    by (list_any (nat_eq i) done) refl
  where
    by : (b : Bool) → list_any (nat_eq i) done ≡ b → i < length l.gates
    by true e = within i e
    by false e =
        let a = list_any-append (nat_eq i) done (j ∷ []) in
        let s : nat_eq i j ≡ true = grind (arith, nat_tests, a, e, t) in
        let q : i ≡ j = grind (arith, nat_tests) in
        omega (arith, q, h)

-- two complete orders are the same
pub same_order : (l : Loose) (done xs ys : List ℕ) → AreInTurn l done xs → AreInTurn l done ys → ((j : ℕ) → j < length l.gates → list_any (nat_eq j) (done ++ xs) ≡ true) → ((j : ℕ) → j < length l.gates → list_any (nat_eq j) (done ++ ys) ≡ true) → xs ≡ ys
same_order l done [] [] a b all every = refl
same_order l done [] (y ∷ ys) a b all every =
    let r = ready_parts l done y b.0.ready in
    let t : list_any (nat_eq y) done ≡ true = subst (λ (zs : List ℕ). list_any (nat_eq y) zs ≡ true) (append-nil done) (all y r.0) in
    let z : true ≡ false = sym t ∙ r.1 in
    absurd (cc)
same_order l done (x ∷ xs) [] a b all every =
    let r = ready_parts l done x a.0.ready in
    let t : list_any (nat_eq x) done ≡ true = subst (λ (zs : List ℕ). list_any (nat_eq x) zs ≡ true) (append-nil done) (every x r.0) in
    let z : true ≡ false = sym t ∙ r.1 in
    absurd (cc)
same_order l done (x ∷ xs) (y ∷ ys) a b all every =
    let same : x ≡ y =
    ⊎_elim (λ (s : x ≡ y). s)
    (λ (o : (x < y) ⊎ (y < x)). ⊎_elim
    (λ (low : x < y). let z : true ≡ false = sym a.0.ready ∙ b.0.first x low in absurd (cc))
    (λ (low : y < x). let z : true ≡ false = sym b.0.ready ∙ a.0.first y low in absurd (cc))
    o)
    (cases_order x y) in
    let c : AreInTurn l (done ++ x ∷ []) ys = subst (λ (k : ℕ). AreInTurn l (done ++ k ∷ []) ys) (sym same) b.1 in
    let p : (j : ℕ) → j < length l.gates → list_any (nat_eq j) ((done ++ x ∷ []) ++ xs) ≡ true = λ j h. subst (λ (zs : List ℕ). list_any (nat_eq j) zs ≡ true) (sym (append_assoc done (x ∷ []) xs)) (all j h) in
    let q : (j : ℕ) → j < length l.gates → list_any (nat_eq j) ((done ++ x ∷ []) ++ ys) ≡ true = λ j h. subst (λ (zs : List ℕ). list_any (nat_eq j) zs ≡ true) (sym (append_assoc done (x ∷ []) ys)) (subst (λ (k : ℕ). list_any (nat_eq j) (done ++ k ∷ ys) ≡ true) (sym same) (every j h)) in
    let rest : xs ≡ ys = same_order l (done ++ x ∷ []) xs ys a.1 c p q in
    cc

-- the operand of a gate whose operands have numbers is among the gates that have theirs
pub operand_before : (l : Loose) (done : List ℕ) (j i : ℕ) → IsLoose l → AreGates l done → is_ready l done j ≡ true → Uses l j i → list_any (nat_eq i) done ≡ true
operand_before l done j i valid within ready uses =
    let r = ready_parts l done j ready in
    let one : (lit : ℕ) → has_number (variables_numbered l done) lit ≡ true → variable lit ≡ gate_name l i → list_any (nat_eq i) done ≡ true = λ lit t e.
    gate_from_name l done i valid within uses.used (subst (λ (v : ℕ). list_any (nat_eq v) (variables_numbered l done) ≡ true) e (named_from_test (variables_numbered l done) lit t (gate_is_variable l i lit valid uses.used e))) in
    ⊎_elim (λ (e : variable (gate_line l j).rhs0 ≡ gate_name l i). one (gate_line l j).rhs0 r.2 e) (λ (e : variable (gate_line l j).rhs1 ≡ gate_name l i). one (gate_line l j).rhs1 r.3 e) uses.operand

-- a gate in an order stands behind its operands
pub uses_before : (l : Loose) (done js order : List ℕ) → IsLoose l → AreGates l done → AreInTurn l done js → order ≡ done ++ js → (j i : ℕ) → list_any (nat_eq j) js ≡ true → Uses l j i → (list_any (nat_eq i) order ≡ true) × (position_or_len (nat_eq i) order < position_or_len (nat_eq j) order)
uses_before l done [] order valid within turn e j i t uses = absurd (cc)
uses_before l done (k ∷ js) order valid within turn e j i t uses = by (nat_eq j k) refl (λ r. uses_before l (done ++ k ∷ []) js order valid (AreGates-push l done k within ((ready_parts l done k turn.0.ready).0)) turn.1 (e ∙ sym (append_assoc done (k ∷ []) js)) j i r uses)
  where
    by : (b : Bool) → nat_eq j k ≡ b → (list_any (nat_eq j) js ≡ true → (list_any (nat_eq i) order ≡ true) × (position_or_len (nat_eq i) order < position_or_len (nat_eq j) order)) → (list_any (nat_eq i) order ≡ true) × (position_or_len (nat_eq i) order < position_or_len (nat_eq j) order)
    by true f rest =
        let s : j ≡ k = grind (arith, nat_tests) in
        let r = ready_parts l done k turn.0.ready in
        let mine : Uses l k i = subst (λ (x : ℕ). Uses l x i) s uses in
        let before : list_any (nat_eq i) done ≡ true = operand_before l done k i valid within turn.0.ready mine in
        let a : position_or_len (nat_eq i) order ≡ position_or_len (nat_eq i) done = ap (position_or_len (nat_eq i)) e ∙ place_kept i done (k ∷ js) before in
        let b : position_or_len (nat_eq j) order ≡ length done = ap (λ (x : ℕ). position_or_len (nat_eq x) order) s ∙ (ap (position_or_len (nat_eq k)) e ∙ placed k done js r.1) in
        let c = found i done before in
        let m = list_any-append (nat_eq i) done (k ∷ js) in
        let n : list_any (nat_eq i) order ≡ true = ap (list_any (nat_eq i)) e ∙ (m ∙ ap (λ (x : Bool). x || list_any (nat_eq i) (k ∷ js)) before) in
        (n, omega (arith, a, b, c.0))
    by false f rest = rest (sym (ap (λ (x : Bool). x || list_any (nat_eq j) js) f) ∙ t)

-- and so behind all that it depends on
pub depends_before : (l : Loose) (order through : List ℕ) → IsLoose l → AreInTurn l [] order → (j i : ℕ) → list_any (nat_eq j) order ≡ true → LeadsAlong l j through i → (list_any (nat_eq i) order ≡ true) × (position_or_len (nat_eq i) order < position_or_len (nat_eq j) order)
depends_before l order [] valid turn j i t leads = uses_before l [] order order valid (λ k u. absurd (cc)) turn refl j i t leads
depends_before l order (k ∷ ks) valid turn j i t leads =
    let a = uses_before l [] order order valid (λ k u. absurd (cc)) turn refl j k t leads.0 in
    let b = depends_before l order ks valid turn k i a.0 leads.1 in
    (b.0, omega (arith, a.1, b.1))

-- a gate that has a number leads to no cycle
pub no_cycle : (l : Loose) (order : List ℕ) (j : ℕ) → IsLoose l → AreInTurn l [] order → list_any (nat_eq j) order ≡ true → ¬ LeadsToCycle l j
no_cycle l order j valid turn t (i, (reaches, around)) =
    let here : list_any (nat_eq i) order ≡ true =
    ⊎_elim (λ (e : j ≡ i). subst (λ (k : ℕ). list_any (nat_eq k) order ≡ true) e t) (λ (d : DependsOn l j i). (depends_before l order d.0 valid turn j i t d.1).0) reaches in
    let low = (depends_before l order around.0 valid turn i i here around.1).1 in
    omega (arith, low)
