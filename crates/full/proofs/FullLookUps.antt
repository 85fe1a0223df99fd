-- Look-ups in the lines of a model, and what init and next lines say of their states.
use Rattle.std.proofs.Common.{◌≡◌, ℕ, Bool, true, false, cond, nat_eq, eq-eqb, eqb-true, List, [], ◌∷◌, ◌++◌, flat_map, Option, Some, None, is_some, unwrap_or, option_map, option_and_then, append_assoc, refl, sym, ap, subst, ◌∙◌, ◌⊎◌, inl, inr}
use Rattle.std.specs.List.{AllByRecursion}
use Rattle.std.specs.Option.{option_or}
use Rattle.std.proofs.lemmas.Option.{none-some, same_Some, cond_some}
use Rattle.btor2.specs.declared.item.Body.{Body}
use Rattle.btor2.specs.declared.item.Body.TheVariants as body
use Rattle.btor2.specs.Items.{is_state}
use Rattle.btor2.proofs.AppendLemmas.{then_parts, some_of, is_some_from}
use Rattle.full.specs.Lines.{Operand, Says, form, array_sort, FullLine, operands_of, second, is_form, lines_of, full_nodes, Sort, arrays, find_line, line_bits, bits_at, line_sort, sort_at, sort_named, sort_of, sort_of_node, AtInit, AtNext, init_by, next_by, init_of, next_of}
use Rattle.full.specs.Agreement.{names_full_state, SaysAgree, IsFullAfter, IsFullModel}
use Rattle.full.proofs.ListLemmas.{all_with, all_join}

-- ---- lines by their ids

pub find_on : (before more : List FullLine) (id : ℕ) (x : FullLine) → find_line before id ≡ Some x → find_line (before ++ more) id ≡ Some x
find_on [] more id x h = absurd (none-some x h)
find_on (y ∷ ys) more id x h =
    elim (nat_eq id y.id) as (λ b. cond b (Some y) (find_line ys id) ≡ Some x → cond b (Some y) (find_line (ys ++ more) id) ≡ Some x) [
      | true ↦ λ e. e
      | false ↦ λ e. find_on ys more id x e
    ] h

pub find_behind : (before more : List FullLine) (id : ℕ) → find_line before id ≡ None → find_line (before ++ more) id ≡ find_line more id
find_behind [] more id h = refl
find_behind (y ∷ ys) more id h =
    elim (nat_eq id y.id) as (λ b. cond b (Some y) (find_line ys id) ≡ None → cond b (Some y) (find_line (ys ++ more) id) ≡ find_line more id) [
      | true ↦ λ e. absurd (none-some y (sym e))
      | false ↦ λ e. find_behind ys more id e
    ] h

pub find_own : (x : FullLine) (xs : List FullLine) → find_line (x ∷ xs) x.id ≡ Some x
find_own x xs = rw (eq-eqb x.id x.id refl) refl

-- what an id finds in a list with one line more: what it found, or that line
pub find_cases : (before : List FullLine) (x : FullLine) (id : ℕ) (y : FullLine) → find_line (before ++ x ∷ []) id ≡ Some y → (find_line before id ≡ Some y) ⊎ ((id ≡ x.id) × (x ≡ y))
find_cases before x id y h = by (find_line before id) refl
  where
    by : (o : Option FullLine) → find_line before id ≡ o → (find_line before id ≡ Some y) ⊎ ((id ≡ x.id) × (x ≡ y))
    by None e =
        let last = cond_some (nat_eq id x.id) x y (sym (find_behind before (x ∷ []) id e) ∙ h) in
        inr (eqb-true id x.id last.0, last.1)
    by (Some z) e = inl (e ∙ sym (find_on before (x ∷ []) id z e) ∙ h)

-- what holds of each line holds of the one that is found
pub found_has : (P : ℕ → Says → Type 0) (lines : List FullLine) (id : ℕ) (x : FullLine) → find_line lines id ≡ Some x → AllByRecursion (λ (y : FullLine). P y.id y.says) lines → P id x.says
found_has P [] id x e h = absurd (none-some x e)
found_has P (y ∷ ys) id x e h = by (nat_eq id y.id) refl e (λ k. found_has P ys id x k h.1)
  where
    by : (b : Bool) → nat_eq id y.id ≡ b → cond b (Some y) (find_line ys id) ≡ Some x → (find_line ys id ≡ Some x → P id x.says) → P id x.says
    by true test e rest = subst (λ (z : FullLine). P id z.says) (same_Some y x e) (subst (λ (k : ℕ). P k y.says) (sym (eqb-true id y.id test)) h.0)
    by false test e rest = rest e

-- ---- sorts

then_on : {A B : Type 0} (f g : A → Option B) (o p : Option A) (v : B) → ((x : A) → o ≡ Some x → p ≡ Some x) → ((x : A) → f x ≡ Some v → g x ≡ Some v) → option_and_then f o ≡ Some v → option_and_then g p ≡ Some v
then_on f g None p v first second h = absurd (none-some v h)
then_on f g (Some x) p v first second h = rw (first x refl) (second x h)

pub bits_on : (before more : List FullLine) (id n : ℕ) → bits_at before id ≡ Some n → bits_at (before ++ more) id ≡ Some n
bits_on before more id n h =
    then_on (λ (x : FullLine). line_bits x.says) (λ (x : FullLine). line_bits x.says) (find_line before id) (find_line (before ++ more) id) n (find_on before more id) (λ x e. e) h

map_parts : {A B : Type 0} (f : A → B) (o : Option A) (v : B) → option_map f o ≡ Some v → (x : A) × (o ≡ Some x) × (f x ≡ v)
map_parts f None v h = absurd (none-some v h)
map_parts f (Some x) v h = (x, refl, same_Some (f x) v h)

line_sort_on : (before more : List FullLine) (b : Says) (s : Sort) → line_sort before b ≡ Some s → line_sort (before ++ more) b ≡ Some s
line_sort_on before more (form b minuses) s h = h
line_sort_on before more (array_sort i e) s h =
    then_on (λ k. option_map (λ n. arrays k n) (bits_at before e)) (λ k. option_map (λ n. arrays k n) (bits_at (before ++ more) e)) (bits_at before i) (bits_at (before ++ more) i) s (bits_on before more i)
    (λ k same. let parts = map_parts (λ n. arrays k n) (bits_at before e) s same in ap (option_map (λ n. arrays k n)) (bits_on before more e parts.0 parts.1) ∙ ap (λ (z : Sort). Some z) parts.2) h
line_sort_on before more _ s h = absurd (none-some s h)

pub sort_on : (before more : List FullLine) (id : ℕ) (s : Sort) → sort_at before id ≡ Some s → sort_at (before ++ more) id ≡ Some s
sort_on before more id s h =
    then_on (λ (x : FullLine). line_sort before x.says) (λ (x : FullLine). line_sort (before ++ more) x.says) (find_line before id) (find_line (before ++ more) id) s (find_on before more id)
    (λ x e. line_sort_on before more x.says s e) h

pub node_on : (before more : List FullLine) (id : ℕ) (s : Sort) → sort_of_node before id ≡ Some s → sort_of_node (before ++ more) id ≡ Some s
node_on before more id s h =
    then_on (λ (x : FullLine). sort_of before x.says) (λ (x : FullLine). sort_of (before ++ more) x.says) (find_line before id) (find_line (before ++ more) id) s (find_on before more id)
    (λ x e. then_on (sort_at before) (sort_at (before ++ more)) (sort_named x.says) (sort_named x.says) s (λ k e. e) (λ k e. sort_on before more k s e) e) h

-- a node with a sort is found, and its line names one
pub node_found : (lines : List FullLine) (id : ℕ) → is_some (sort_of_node lines id) ≡ true → (x : FullLine) × (find_line lines id ≡ Some x) × (is_some (sort_named x.says) ≡ true)
node_found lines id h =
    let sort = some_of (sort_of_node lines id) h in
    let parts = then_parts (λ (x : FullLine). sort_of lines x.says) (find_line lines id) sort.0 sort.1 in
    let name = then_parts (sort_at lines) (sort_named parts.0.says) sort.0 parts.2 in
    (parts.0, parts.1, is_some_from (sort_named parts.0.says) name.0 name.1)

-- ---- what a model says of each of its lines

-- a line is found by its id
found_from : (lines front xs : List FullLine) → lines ≡ front ++ xs → IsFullAfter front xs → AllByRecursion (λ (x : FullLine). find_line lines x.id ≡ Some x) xs
found_from lines front [] e w = tt
found_from lines front (x ∷ xs) e w = (
  ap (λ (l : List FullLine). find_line l x.id) e ∙ find_behind front (x ∷ xs) x.id w.0.fresh ∙ find_own x xs,
  found_from lines (front ++ x ∷ []) xs (e ∙ sym (append_assoc front (x ∷ []) xs)) w.1,
)

pub each_found : (lines : List FullLine) → IsFullModel lines → AllByRecursion (λ (x : FullLine). find_line lines x.id ≡ Some x) lines
each_found lines w = found_from lines [] lines refl w

-- its operands are nodes
abbrev pub AreNodes : List FullLine → List Operand → Type 0
AreNodes lines os = AllByRecursion (λ (o : Operand). is_some (sort_of_node lines o.id) ≡ true) os

nodes_on : (before more : List FullLine) (os : List Operand) → AreNodes before os → AreNodes (before ++ more) os
nodes_on before more os h =
    all_with (λ (o : Operand). is_some (sort_of_node before o.id) ≡ true) (λ (o : Operand). is_some (sort_of_node (before ++ more) o.id) ≡ true) os
    (λ o there. let sort = some_of (sort_of_node before o.id) there in is_some_from (sort_of_node (before ++ more) o.id) sort.0 (node_on before more o.id sort.0 sort.1)) h

nodes_from : (lines front xs : List FullLine) → lines ≡ front ++ xs → IsFullAfter front xs → AllByRecursion (λ (x : FullLine). AreNodes lines (operands_of x.says)) xs
nodes_from lines front [] e w = tt
nodes_from lines front (x ∷ xs) e w = (
  subst (λ (l : List FullLine). AreNodes l (operands_of x.says)) (sym e) (nodes_on front (x ∷ xs) (operands_of x.says) w.0.nodes),
  nodes_from lines (front ++ x ∷ []) xs (e ∙ sym (append_assoc front (x ∷ []) xs)) w.1,
)

pub each_nodes : (lines : List FullLine) → IsFullModel lines → AllByRecursion (λ (x : FullLine). AreNodes lines (operands_of x.says)) lines
each_nodes lines w = nodes_from lines [] lines refl w

-- so are the operands of the lines of a kind
pub kind_nodes : (lines xs : List FullLine) (kind : Body → Bool) → AllByRecursion (λ (x : FullLine). AreNodes lines (operands_of x.says)) xs → AreNodes lines (full_nodes kind xs)
kind_nodes lines [] kind h = tt
kind_nodes lines (x ∷ xs) kind h = by (is_form kind x.says) h.0 (kind_nodes lines xs kind h.1)
  where
    by : (b : Bool) → AreNodes lines (operands_of x.says) → AreNodes lines (full_nodes kind xs) → AreNodes lines (flat_map (λ (y : FullLine). operands_of y.says) (cond b (x ∷ lines_of kind xs) (lines_of kind xs)))
    by true own rest = all_join (λ (o : Operand). is_some (sort_of_node lines o.id) ≡ true) (operands_of x.says) (full_nodes kind xs) own rest
    by false own rest = rest

-- the value of an init or a next is a node
second_there : (lines : List FullLine) (t v : ℕ) (minuses : List Bool) → AreNodes lines (operands_of (form (body.Next 0 t v) minuses)) → is_some (sort_of_node lines (second v minuses).id) ≡ true
second_there lines t v [] h = h.1.0
second_there lines t v (m ∷ []) h = h.1.0
second_there lines t v (m ∷ n ∷ more) h = h.1.0

init_node : (lines : List FullLine) (b : Says) → AreNodes lines (operands_of b) → AtInit (λ t o. is_some (sort_of_node lines o.id) ≡ true) b
init_node lines (form (body.Init s t v) minuses) h = second_there lines t v minuses h
init_node lines _ h = tt

next_node : (lines : List FullLine) (b : Says) → AreNodes lines (operands_of b) → AtNext (λ t o. is_some (sort_of_node lines o.id) ≡ true) b
next_node lines (form (body.Next s t v) minuses) h = second_there lines t v minuses h
next_node lines _ h = tt

pub init_nodes : (lines : List FullLine) → IsFullModel lines → AllByRecursion (λ (x : FullLine). AtInit (λ t o. is_some (sort_of_node lines o.id) ≡ true) x.says) lines
init_nodes lines w =
    all_with (λ (x : FullLine). AreNodes lines (operands_of x.says)) (λ (x : FullLine). AtInit (λ t o. is_some (sort_of_node lines o.id) ≡ true) x.says) lines (λ x. init_node lines x.says) (each_nodes lines w)

pub next_nodes : (lines : List FullLine) → IsFullModel lines → AllByRecursion (λ (x : FullLine). AtNext (λ t o. is_some (sort_of_node lines o.id) ≡ true) x.says) lines
next_nodes lines w =
    all_with (λ (x : FullLine). AreNodes lines (operands_of x.says)) (λ (x : FullLine). AtNext (λ t o. is_some (sort_of_node lines o.id) ≡ true) x.says) lines (λ x. next_node lines x.says) (each_nodes lines w)

-- ---- init and next lines by their states

init_among : (P : ℕ → Operand → Type 0) (b : Says) (rest : Option Operand) (id : ℕ) (o : Operand) → AtInit P b → (rest ≡ Some o → P id o) → option_or (init_by id b) rest ≡ Some o → P id o
init_among P (form (body.Init s t v) minuses) rest id o h more e = by (nat_eq id t) refl e
  where
    by : (b : Bool) → nat_eq id t ≡ b → option_or (cond b (Some (second v minuses)) None) rest ≡ Some o → P id o
    by true test e = subst (λ (z : Operand). P id z) (same_Some (second v minuses) o e) (subst (λ (k : ℕ). P k (second v minuses)) (sym (eqb-true id t test)) h)
    by false test e = more e
init_among P _ rest id o h more e = more e

-- what each init line says of its state and its value, it says of a state whose init line is found
pub init_said : (P : ℕ → Operand → Type 0) (lines : List FullLine) (id : ℕ) (o : Operand) → AllByRecursion (λ (x : FullLine). AtInit P x.says) lines → init_of lines id ≡ Some o → P id o
init_said P [] id o h e = absurd (none-some o e)
init_said P (x ∷ xs) id o h e = init_among P x.says (init_of xs id) id o h.0 (init_said P xs id o h.1) e

next_among : (P : ℕ → Operand → Type 0) (b : Says) (rest : Option Operand) (id : ℕ) (o : Operand) → AtNext P b → (rest ≡ Some o → P id o) → option_or (next_by id b) rest ≡ Some o → P id o
next_among P (form (body.Next s t v) minuses) rest id o h more e = by (nat_eq id t) refl e
  where
    by : (b : Bool) → nat_eq id t ≡ b → option_or (cond b (Some (second v minuses)) None) rest ≡ Some o → P id o
    by true test e = subst (λ (z : Operand). P id z) (same_Some (second v minuses) o e) (subst (λ (k : ℕ). P k (second v minuses)) (sym (eqb-true id t test)) h)
    by false test e = more e
next_among P _ rest id o h more e = more e

pub next_said : (P : ℕ → Operand → Type 0) (lines : List FullLine) (id : ℕ) (o : Operand) → AllByRecursion (λ (x : FullLine). AtNext P x.says) lines → next_of lines id ≡ Some o → P id o
next_said P [] id o h e = absurd (none-some o e)
next_said P (x ∷ xs) id o h e = next_among P x.says (next_of xs id) id o h.0 (next_said P xs id o h.1) e

-- what each of two says, both together say
pub at_init : (P Q : ℕ → Operand → Type 0) (b : Says) → ((t : ℕ) (o : Operand) → P t o → Q t o) → AtInit P b → AtInit Q b
at_init P Q (form (body.Init s t v) minuses) f h = f t (second v minuses) h
at_init P Q _ f h = tt

pub at_next : (P Q : ℕ → Operand → Type 0) (b : Says) → ((t : ℕ) (o : Operand) → P t o → Q t o) → AtNext P b → AtNext Q b
at_next P Q (form (body.Next s t v) minuses) f h = f t (second v minuses) h
at_next P Q _ f h = tt

-- ---- init and next lines are those of states

named_on : (before more : List FullLine) (id : ℕ) → names_full_state before id ≡ true → names_full_state (before ++ more) id ≡ true
named_on before more id h = by (find_line before id) refl h
  where
    by : (o : Option FullLine) → find_line before id ≡ o → unwrap_or (option_map (λ (x : FullLine). is_form is_state x.says) o) false ≡ true → names_full_state (before ++ more) id ≡ true
    by None e h = absurd (cc)
    by (Some x) e h = ap (λ (o : Option FullLine). unwrap_or (option_map (λ (y : FullLine). is_form is_state y.says) o) false) (find_on before more id x e) ∙ h

init_state : (before : List FullLine) (b : Says) → SaysAgree before b → AtInit (λ t o. names_full_state before t ≡ true) b
init_state before (form (body.Init s t v) minuses) h = h.3.0
init_state before _ h = tt

next_state_named : (before : List FullLine) (b : Says) → SaysAgree before b → AtNext (λ t o. names_full_state before t ≡ true) b
next_state_named before (form (body.Next s t v) minuses) h = h.3.0
next_state_named before _ h = tt

inits_named_from : (lines front xs : List FullLine) → lines ≡ front ++ xs → IsFullAfter front xs → AllByRecursion (λ (x : FullLine). AtInit (λ t o. names_full_state lines t ≡ true) x.says) xs
inits_named_from lines front [] e w = tt
inits_named_from lines front (x ∷ xs) e w = (
  at_init (λ t o. names_full_state front t ≡ true) (λ t o. names_full_state lines t ≡ true) x.says (λ t o h. ap (λ (l : List FullLine). names_full_state l t) e ∙ named_on front (x ∷ xs) t h) (init_state front x.says w.0.agrees),
  inits_named_from lines (front ++ x ∷ []) xs (e ∙ sym (append_assoc front (x ∷ []) xs)) w.1,
)

pub inits_named : (lines : List FullLine) → IsFullModel lines → AllByRecursion (λ (x : FullLine). AtInit (λ t o. names_full_state lines t ≡ true) x.says) lines
inits_named lines w = inits_named_from lines [] lines refl w

nexts_named_from : (lines front xs : List FullLine) → lines ≡ front ++ xs → IsFullAfter front xs → AllByRecursion (λ (x : FullLine). AtNext (λ t o. names_full_state lines t ≡ true) x.says) xs
nexts_named_from lines front [] e w = tt
nexts_named_from lines front (x ∷ xs) e w = (
  at_next (λ t o. names_full_state front t ≡ true) (λ t o. names_full_state lines t ≡ true) x.says (λ t o h. ap (λ (l : List FullLine). names_full_state l t) e ∙ named_on front (x ∷ xs) t h) (next_state_named front x.says w.0.agrees),
  nexts_named_from lines (front ++ x ∷ []) xs (e ∙ sym (append_assoc front (x ∷ []) xs)) w.1,
)

pub nexts_named : (lines : List FullLine) → IsFullModel lines → AllByRecursion (λ (x : FullLine). AtNext (λ t o. names_full_state lines t ≡ true) x.says) lines
nexts_named lines w = nexts_named_from lines [] lines refl w

-- what two say of each init line, or of each next line, both say together
pub both_init : (P Q : ℕ → Operand → Type 0) (lines : List FullLine) → AllByRecursion (λ (x : FullLine). AtInit P x.says) lines → AllByRecursion (λ (x : FullLine). AtInit Q x.says) lines
    → AllByRecursion (λ (x : FullLine). AtInit (λ t o. P t o × Q t o) x.says) lines
both_init P Q [] h k = tt
both_init P Q (x ∷ xs) h k = (by x.says h.0 k.0, both_init P Q xs h.1 k.1)
  where
    by : (b : Says) → AtInit P b → AtInit Q b → AtInit (λ t o. P t o × Q t o) b
    by (form (body.Init s t v) minuses) h k = (h, k)
    by _ h k = tt

pub both_next : (P Q : ℕ → Operand → Type 0) (lines : List FullLine) → AllByRecursion (λ (x : FullLine). AtNext P x.says) lines → AllByRecursion (λ (x : FullLine). AtNext Q x.says) lines
    → AllByRecursion (λ (x : FullLine). AtNext (λ t o. P t o × Q t o) x.says) lines
both_next P Q [] h k = tt
both_next P Q (x ∷ xs) h k = (by x.says h.0 k.0, both_next P Q xs h.1 k.1)
  where
    by : (b : Says) → AtNext P b → AtNext Q b → AtNext (λ t o. P t o × Q t o) b
    by (form (body.Next s t v) minuses) h k = (h, k)
    by _ h k = tt
