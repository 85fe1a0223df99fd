-- Variables that stand once, their places, and the slots that these give.
use Rattle.std.proofs.Common.{◌≡◌, ℕ, zero, suc, ◌+◌, ◌-◌, ◌*◌, ◌<◌, ◌≤◌, Bool, true, false, not, ◌||◌, ◌==◌, List, [], ◌∷◌, ◌++◌, map, length, take, drop, get_or, slice_index_or, All, Some, None, nat_eq, cond, refl, ap, sym, ◌∙◌, subst, arith, if◌then◌else◌, length-append, append-nil, append_assoc}
use Rattle.std.proofs.lemmas.Bool.Decides.{nat_tests}
use Rattle.std.proofs.lemmas.List.{length-map, map-append, get_or_append_left, get_or-append_right, take-append-drop, take_more}
use Rattle.std.proofs.lemmas.List.Elements.{All-cons, All-nil}
use Rattle.std.proofs.lemmas.List.Folds.{list_any_at}
use Rattle.std.proofs.lemmas.List.Sums.{sum_by-append, sum_by_push, fails_before_first, prefix_len_stops}
use Rattle.std.specs.List.{list_any, position, position_or_len, count_by}
use Rattle.aigerlists.specs.declared.loose.GateLine.{GateLine}
use Rattle.base.specs.Literal.{variable}
use Rattle.aigerlists.specs.Loose.{Loose, IsLoose, defined_variables, defined_count, latch_variable, gate_variable}
use Rattle.aigerlists.specs.Renumbering.{is_known, gate_line, gate_name, variables_numbered, has_number, is_ready, AreInTurn, IsOrder, IsFirstCyclic, new_literal, ordered_gate, new_gate}
use Rattle.aigerlists.specs.Readiness.{slot_at, AreSlots, IsWholeOrder}
use Rattle.aigerlists.specs.Numbering.{IsOnce, UseNumbered, line_in, gate_name_at, slot_of, slots_of, IsReadyOrder}
use Rattle.aigerlists.proofs.RenumberingLemmas.{found, new_literal-kept}
use Rattle.aigerlists.proofs.OrderLemmas.{AreGates, AreGates-push, count_some, false_unless, fresh, ready_parts, name_at_place, numbered-append}
use Rattle.aigerlists.proofs.KnownLemmas.{IsKnown, AllKnown}
use Rattle.aigerlists.proofs.LooseLemmas.{once_push}
use Rattle.aigerlists.proofs.NumbersLemmas.{place_found, place_missed}
use Rattle.aigerlists.proofs.NumberingLemmas.{IsSlotOf, AreSlotsOf, next_is_ready, in_turn_from_slots, first_cyclic}

-- how often a variable stands in two lists
count_both : (v : ℕ) (xs ys : List ℕ) → count_by (nat_eq v) (xs ++ ys) ≡ count_by (nat_eq v) xs + count_by (nat_eq v) ys
count_both v xs ys = sum_by-append (λ (y : ℕ). cond (nat_eq v y) 1 0) xs ys

-- a front has each variable once where the whole has
pub once_front : (xs ys : List ℕ) → IsOnce (xs ++ ys) → IsOnce xs
once_front xs ys once v = omega (arith, once v, count_both v xs ys)

-- a list around one of its elements
split_here : {X : Type 0} (xs : List X) (k : ℕ) (x : X) → k < length xs → x ≡ get_or xs k x → xs ≡ take k xs ++ x ∷ drop (suc k) xs
split_here [] k x h e = absurd (omega arith)
split_here (y ∷ ys) zero x h e = ap (λ z. z ∷ ys) (sym e)
split_here (y ∷ ys) (suc k) x h e = ap (λ zs. y ∷ zs) (split_here ys k x (omega arith) e)

-- what is to come next has not been yet
pub not_yet : {X : Type 0} (f : X → ℕ) (front : List ℕ) (xs : List X) (k : ℕ) (x : X) → IsOnce (front ++ map f xs) → k < length xs → x ≡ get_or xs k x → list_any (nat_eq (f x)) (front ++ map f (take k xs)) ≡ false
not_yet f front xs k x once h e =
    let a : List ℕ = front ++ map f (take k xs) in
    let b : List ℕ = f x ∷ map f (drop (suc k) xs) in
    let m : map f xs ≡ map f (take k xs) ++ b = ap (map f) (split_here xs k x h e) ∙ map-append f (take k xs) (x ∷ drop (suc k) xs) in
    let s : front ++ map f xs ≡ a ++ b = ap (λ (ys : List ℕ). front ++ ys) m ∙ sym (append_assoc front (map f (take k xs)) b) in
    let t : count_by (nat_eq (f x)) (front ++ map f xs) ≡ count_by (nat_eq (f x)) a + count_by (nat_eq (f x)) b = ap (count_by (nat_eq (f x))) s ∙ count_both (f x) a b in
    let here : nat_eq (f x) (f x) ≡ true = grind (arith, nat_tests) in
    let some : 1 ≤ count_by (nat_eq (f x)) b = count_some (f x) b (ap (λ (c : Bool). c || list_any (nat_eq (f x)) (map f (drop (suc k) xs))) here) in
    false_unless (list_any (nat_eq (f x)) a) (λ u. omega (arith, once (f x), t, some, count_some (f x) a u))

-- how many variables are defined
pub length_defined : (l : Loose) → length (defined_variables l) ≡ defined_count l
length_defined l =
    omega (arith, length-append (map variable l.inputs ++ map latch_variable l.latches) (map gate_variable l.gates), length-append (map variable l.inputs) (map latch_variable l.latches), length-map l.inputs variable, length-map l.latches latch_variable, length-map l.gates gate_variable)

-- with a new variable more each still stands once
pub once_more : (xs : List ℕ) (x : ℕ) → IsOnce xs → list_any (nat_eq x) xs ≡ false → IsOnce (xs ++ x ∷ [])
once_more xs x once new = once_push xs (xs ++ x ∷ []) x (λ v. sum_by_push (λ (y : ℕ). cond (nat_eq v y) 1 0) xs x) once new

-- gates in turn give numbers to variables that have none
once_in_turn : (l : Loose) (done js : List ℕ) → IsLoose l → AreGates l done → AreInTurn l done js → IsOnce (variables_numbered l done) → IsOnce (variables_numbered l (done ++ js))
once_in_turn l done [] valid within turn once = subst (λ (xs : List ℕ). IsOnce (variables_numbered l xs)) (sym (append-nil done)) once
once_in_turn l done (j ∷ js) valid within turn once =
    let low = (ready_parts l done j turn.0.ready).0 in
    let more : IsOnce (variables_numbered l (done ++ j ∷ [])) = subst IsOnce (sym (numbered-append l done (j ∷ []))) (once_more (variables_numbered l done) (gate_name l j) once (fresh l done j valid within turn.0.ready)) in
    subst (λ (xs : List ℕ). IsOnce (variables_numbered l xs)) (append_assoc done (j ∷ []) js) (once_in_turn l (done ++ j ∷ []) js valid (AreGates-push l done j within low) turn.1 more)

pub once_numbered : (l : Loose) (order : List ℕ) → IsLoose l → AreInTurn l [] order → IsOnce (variables_numbered l order)
once_numbered l order valid turn =
    let leaves : List ℕ = map variable l.inputs ++ map latch_variable l.latches in
    let front : IsOnce leaves = once_front leaves (map gate_variable l.gates) valid.definitions.once in
    once_in_turn l [] order valid (λ k u. absurd (cc)) turn (subst IsOnce (sym (append-nil leaves)) front)

-- gates in turn are gates of the file
pub are_gates : (l : Loose) (done js : List ℕ) → AreGates l done → AreInTurn l done js → AreGates l (done ++ js)
are_gates l done [] within turn = subst (AreGates l) (sym (append-nil done)) within
are_gates l done (j ∷ js) within turn =
    subst (AreGates l) (append_assoc done (j ∷ []) js) (are_gates l (done ++ j ∷ []) js (AreGates-push l done j within (ready_parts l done j turn.0.ready).0) turn.1)

pub each_is_gate : (l : Loose) (order : List ℕ) → AreInTurn l [] order → All (λ j. j < length l.gates) order
each_is_gate l order turn k d h =
    let t : nat_eq (get_or order k d) (get_or order k d) ≡ true = grind (arith, nat_tests) in
    are_gates l [] order (λ i u. absurd (cc)) turn (get_or order k d) (list_any_at (nat_eq (get_or order k d)) order k d h t)

-- a gate of an order is ready after those before it
in_turn_at : (l : Loose) (done js : List ℕ) (k j : ℕ) → AreInTurn l done js → k < length js → j ≡ slice_index_or js k j → is_ready l (done ++ take k js) j ≡ true
in_turn_at l done [] k j turn h e = absurd (omega arith)
in_turn_at l done (i ∷ js) zero j turn h e = subst (λ (x : ℕ). is_ready l (done ++ []) x ≡ true) (sym e) (subst (λ (d : List ℕ). is_ready l d i ≡ true) (sym (append-nil done)) turn.0.ready)
in_turn_at l done (i ∷ js) (suc k) j turn h e = subst (λ (d : List ℕ). is_ready l d j ≡ true) (append_assoc done (i ∷ []) (take k js)) (in_turn_at l (done ++ i ∷ []) js k j turn.1 (omega arith) e)

-- so its operands have numbers then
pub use_numbered : (l : Loose) (order : List ℕ) → AreInTurn l [] order → UseNumbered (map variable l.inputs ++ map latch_variable l.latches) l.gates order
use_numbered l order turn k j h e = let r = ready_parts l (take k order) j (in_turn_at l [] order k j turn h e) in (r.2, r.3)

-- and the gate is the same when all have theirs
pub gate_in_turn : (names : List ℕ) (lines : List GateLine) (order : List ℕ) (k j : ℕ) → UseNumbered names lines order → k < length order → j ≡ slice_index_or order k j → new_gate (names ++ map (gate_name_at lines) (take k order)) (line_in lines j) ≡ new_gate (names ++ map (gate_name_at lines) order) (line_in lines j)
gate_in_turn names lines order k j known h e =
    let front : List ℕ = names ++ map (gate_name_at lines) (take k order) in
    let more : List ℕ = map (gate_name_at lines) (drop k order) in
    let whole : names ++ map (gate_name_at lines) order ≡ front ++ more = ap (λ (js : List ℕ). names ++ map (gate_name_at lines) js) (sym (take-append-drop k order)) ∙ (ap (λ (xs : List ℕ). names ++ xs) (map-append (gate_name_at lines) (take k order) (drop k order)) ∙ sym (append_assoc names (map (gate_name_at lines) (take k order)) more)) in
    let kept : (lit : ℕ) → has_number front lit ≡ true → new_literal front lit ≡ new_literal (names ++ map (gate_name_at lines) order) lit = λ lit t. sym (ap (λ (ns : List ℕ). new_literal ns lit) whole ∙ new_literal-kept front more lit t) in
    let u = known k j h e in
    ap (λ (a : ℕ). ordered_gate a (new_literal front (line_in lines j).rhs1)) (kept (line_in lines j).rhs0 u.0) ∙ ap (ordered_gate (new_literal (names ++ map (gate_name_at lines) order) (line_in lines j).rhs0)) (kept (line_in lines j).rhs1 u.1)

-- one element more of what a list is mapped to
pub mapped_more : {X Y : Type 0} (f : X → Y) (front now next : List Y) (xs : List X) (k : ℕ) (x : X) (y : Y) → now ≡ front ++ map f (take k xs) → next ≡ now ++ y ∷ [] → y ≡ f x → k < length xs → x ≡ get_or xs k x → next ≡ front ++ map f (take (k + 1) xs)
mapped_more {X} {Y} f front now next xs k x y before is e h at =
    let t : take (k + 1) xs ≡ take k xs ++ x ∷ [] = take_more xs k x h ∙ ap (λ (z : X). take k xs ++ z ∷ []) (sym at) in
    let m : map f (take k xs) ++ y ∷ [] ≡ map f (take (k + 1) xs) = ap (λ (z : Y). map f (take k xs) ++ z ∷ []) e ∙ (sym (map-append f (take k xs) (x ∷ [])) ∙ ap (map f) (sym t)) in
    is ∙ (ap (λ (zs : List Y). zs ++ y ∷ []) before ∙ (append_assoc front (map f (take k xs)) (y ∷ []) ∙ ap (λ (zs : List Y). front ++ zs) m))

-- the leaves of a file: inputs and latches
abbrev leaf_names : Loose → List ℕ
leaf_names l = map variable l.inputs ++ map latch_variable l.latches

abbrev pub leaf_count : Loose → ℕ
leaf_count l = length l.inputs + length l.latches

length_leaves : (l : Loose) → length (leaf_names l) ≡ leaf_count l
length_leaves l = omega (arith, length-append (map variable l.inputs) (map latch_variable l.latches), length-map l.inputs variable, length-map l.latches latch_variable)

-- the slot of a literal that is known says what it waits for
pub slot_known : (l : Loose) (lit : ℕ) → is_known l lit ≡ true → IsSlotOf l lit (slot_of (defined_variables l) (leaf_count l) lit) × (slot_of (defined_variables l) (leaf_count l) lit ≤ length l.gates)
slot_known l lit known = by (variable lit == 0) refl
  where
    p : ℕ
    p = position_or_len (nat_eq (variable lit)) (defined_variables l)

    by : (b : Bool) → (variable lit == 0) ≡ b → IsSlotOf l lit (slot_of (defined_variables l) (leaf_count l) lit) × (slot_of (defined_variables l) (leaf_count l) lit ≤ length l.gates)
    by true e =
        let s : slot_of (defined_variables l) (leaf_count l) lit ≡ 0 = ap (λ (b : Bool). if b then 0 else suc p - leaf_count l) e in (
          record {
            leaf = λ z. ap (λ (b : Bool). b || list_any (nat_eq (variable lit)) (variables_numbered l [])) e;
            gate = λ g z. absurd (omega (arith, s, z));
          },
          omega (arith, s),
        )
    by false e =
        let s : slot_of (defined_variables l) (leaf_count l) lit ≡ suc p - leaf_count l = ap (λ (b : Bool). if b then 0 else suc p - leaf_count l) e in
        let defined : list_any (nat_eq (variable lit)) (defined_variables l) ≡ true = sym (ap (λ (b : Bool). b || list_any (nat_eq (variable lit)) (defined_variables l)) e) ∙ known in
        let f = found (variable lit) (defined_variables l) defined in
        let n = length_leaves l in
        let m : length (map gate_variable l.gates) ≡ length l.gates = length-map l.gates gate_variable in
        let whole : length (defined_variables l) ≡ length (leaf_names l) + length (map gate_variable l.gates) = length-append (leaf_names l) (map gate_variable l.gates) in (
          record {
            leaf = λ z.
                let low : p < length (leaf_names l) = omega (arith, s, z, n) in
                let here : slice_index_or (leaf_names l) p 0 ≡ variable lit = sym (get_or_append_left (leaf_names l) (map gate_variable l.gates) 0 p low) ∙ f.1 in
                let t : nat_eq (variable lit) (slice_index_or (leaf_names l) p 0) ≡ true = grind (arith, nat_tests) in
                let any : list_any (nat_eq (variable lit)) (leaf_names l) ≡ true = list_any_at (nat_eq (variable lit)) (leaf_names l) p 0 low t in
                let a : list_any (nat_eq (variable lit)) (variables_numbered l []) ≡ true = subst (λ (ns : List ℕ). list_any (nat_eq (variable lit)) ns ≡ true) (sym (append-nil (leaf_names l))) any in
                ap (λ (b : Bool). b || list_any (nat_eq (variable lit)) (variables_numbered l [])) e ∙ a;
            gate = λ g z.
                let at : p ≡ leaf_count l + g = omega (arith, s, z) in
                let low : g < length l.gates = omega (arith, at, f.0, whole, m, n) in
                let q : p - leaf_count l ≡ g = omega (arith, at) in
                let right : slice_index_or (defined_variables l) p 0 ≡ slice_index_or (map gate_variable l.gates) (p - leaf_count l) 0 = get_or-append_right (leaf_names l) (map gate_variable l.gates) (leaf_count l) p 0 n (omega (arith, at)) in
                let name : slice_index_or (map gate_variable l.gates) g 0 ≡ gate_name l g = name_at_place l.gates g (record { lhs = 0; rhs0 = 0; rhs1 = 0 }) low in
                (low, sym f.1 ∙ (right ∙ (ap (λ (k : ℕ). slice_index_or (map gate_variable l.gates) k 0) q ∙ name)));
          },
          omega (arith, s, f.0, whole, m, n),
        )

-- the slots of gates by their places
slots_at : (names : List ℕ) (leaves : ℕ) (gates : List GateLine) (j : ℕ) (d : GateLine) → j < length gates
    → (slot_at (slots_of names leaves gates) (2 * j) ≡ slot_of names leaves (slice_index_or gates j d).rhs0) × (slot_at (slots_of names leaves gates) (2 * j + 1) ≡ slot_of names leaves (slice_index_or gates j d).rhs1)
slots_at names leaves [] j d h = absurd (omega arith)
slots_at names leaves (g ∷ gates) zero d h = (refl, refl)
slots_at names leaves (g ∷ gates) (suc j) d h =
    let r = slots_at names leaves gates j d (omega arith) in
    let a : 2 * suc j ≡ suc (suc (2 * j)) = omega arith in
    let b : 2 * suc j + 1 ≡ suc (suc (2 * j + 1)) = omega arith in
    (ap (slot_at (slots_of names leaves (g ∷ gates))) a ∙ r.0, ap (slot_at (slots_of names leaves (g ∷ gates))) b ∙ r.1)

length_slots : (names : List ℕ) (leaves : ℕ) (gates : List GateLine) → length (slots_of names leaves gates) ≡ 2 * length gates
length_slots names leaves [] = refl
length_slots names leaves (g ∷ gates) = omega (arith, length_slots names leaves gates)

-- the slots of a file's gates
pub slots_are : (l : Loose) → AllKnown l → AreSlotsOf l (slots_of (defined_variables l) (leaf_count l) l.gates)
slots_are l known =
    let d : GateLine = record { lhs = 0; rhs0 = 0; rhs1 = 0 } in
    let names : List ℕ = defined_variables l in
    record {
      first = λ j low. subst (IsSlotOf l (gate_line l j).rhs0) (sym (slots_at names (leaf_count l) l.gates j d low).0) (slot_known l (gate_line l j).rhs0 (known.operands j d low).0).0;
      second = λ j low. subst (IsSlotOf l (gate_line l j).rhs1) (sym (slots_at names (leaf_count l) l.gates j d low).1) (slot_known l (gate_line l j).rhs1 (known.operands j d low).1).0;
    }

few_slots : (l : Loose) (gates : List GateLine) → All (λ line. IsKnown l line.rhs0 × IsKnown l line.rhs1) gates → All (λ slot. slot ≤ length l.gates) (slots_of (defined_variables l) (leaf_count l) gates)
few_slots l [] known = All-nil (λ slot. slot ≤ length l.gates)
few_slots l (g ∷ gates) known =
    let here : IsKnown l g.rhs0 × IsKnown l g.rhs1 = known 0 g (omega arith) in
    let rest = few_slots l gates (λ k d h. known (suc k) d (omega arith)) in
    All-cons (λ slot. slot ≤ length l.gates) (slot_of (defined_variables l) (leaf_count l) g.rhs0) (slot_of (defined_variables l) (leaf_count l) g.rhs1 ∷ slots_of (defined_variables l) (leaf_count l) gates) (slot_known l g.rhs0 here.0).1
    (All-cons (λ slot. slot ≤ length l.gates) (slot_of (defined_variables l) (leaf_count l) g.rhs1) (slots_of (defined_variables l) (leaf_count l) gates) (slot_known l g.rhs1 here.1).1 rest)

pub are_slots : (l : Loose) → IsLoose l → AllKnown l → AreSlots (slots_of (defined_variables l) (leaf_count l) l.gates) (length l.gates)
are_slots l valid known = record {
  count = length_slots (defined_variables l) (leaf_count l) l.gates;
  few = omega (arith, valid.few.defined);
  within = few_slots l l.gates known.operands;
}

-- the order by slots is the order of the file's gates
pub ready_order : (l : Loose) (order waiting : List ℕ) → IsLoose l → AllKnown l → IsWholeOrder (slots_of (defined_variables l) (leaf_count l) l.gates) (length l.gates) order waiting → IsReadyOrder l order waiting
ready_order l order waiting valid known is =
    let slots : List ℕ = slots_of (defined_variables l) (leaf_count l) l.gates in
    let none : AreGates l [] = λ k u. absurd (cc) in
    let turn : AreInTurn l [] order = in_turn_from_slots l slots [] order valid none (slots_are l known) is.in_turn in
    record {
      in_turn = turn;
      done = is.done;
      whole = λ j. sym (next_is_ready l slots order valid (are_gates l [] order none turn) (slots_are l known) j) ∙ is.whole j;
    }

twice_not : (b : Bool) → not (not b) ≡ false → b ≡ false
twice_not true t = absurd (cc)
twice_not false t = refl

not_false : (b : Bool) → not b ≡ false → b ≡ true
not_false true t = refl
not_false false t = absurd (cc)

-- whether a gate waits for something
abbrev is_waiting : ℕ → Bool
is_waiting left = not (nat_eq left 0)

-- the first gate that waits is the first that leads to a cycle
pub left_is_cyclic : (l : Loose) (order waiting : List ℕ) (g : ℕ) → IsLoose l → AllKnown l → IsReadyOrder l order waiting → position (λ left. not (nat_eq left 0)) waiting ≡ Some g → IsFirstCyclic l g
left_is_cyclic l order waiting g valid known is e =
    let f = place_found is_waiting waiting g e in
    let here : nat_eq (slice_index_or waiting g 0) 0 ≡ false = subst (λ (k : ℕ). nat_eq (slice_index_or waiting k 0) 0 ≡ false) f.0
    (twice_not (nat_eq (slice_index_or waiting (position_or_len is_waiting waiting) 0) 0) (prefix_len_stops (λ (left : ℕ). not (is_waiting left)) waiting 0 (omega (arith, f.0, f.1)))) in
    let low : g < length l.gates = omega (arith, f.1, is.done.count) in
    let before : (i : ℕ) → i < g → list_any (nat_eq i) order ≡ true = λ i h. sym (is.done.each i (omega (arith, h, low))) ∙ not_false (nat_eq (slice_index_or waiting i 0) 0) (fails_before_first is_waiting waiting i 0 (omega (arith, h, f.0))) in
    first_cyclic l order g valid known is.in_turn is.whole low (sym (is.done.each g low) ∙ here) before

-- where none waits, it is the whole order
pub none_left_is_order : (l : Loose) (order waiting : List ℕ) → IsReadyOrder l order waiting → position (λ left. not (nat_eq left 0)) waiting ≡ None → IsOrder l order
none_left_is_order l order waiting is e =
    let m = place_missed is_waiting waiting e in
    record {
      in_turn = is.in_turn;
      all = λ j h. sym (is.done.each j h) ∙ not_false (nat_eq (slice_index_or waiting j 0) 0) (fails_before_first is_waiting waiting j 0 (omega (arith, h, m, is.done.count)));
    }

-- the line that is read at a place, whatever is read past the end
pub line_read : (lines : List GateLine) (i : ℕ) (d : GateLine) → i < length lines → get_or lines i d ≡ line_in lines i
line_read [] i d h = absurd (omega arith)
line_read (y ∷ ys) zero d h = refl
line_read (y ∷ ys) (suc i) d h = line_read ys i d (omega arith)
