-- A writing in which each line is written is a model written out.
use Rattle.std.proofs.Common.{◌≡◌, ℕ, suc, Bool, true, false, cond, nat_eq, eq-eqb, List, [], ◌∷◌, ◌++◌, length, map, slice_get, Option, Some, None, is_some, IfSome, unwrap_or, option_map, option_and_then, append_assoc, append-nil, refl, sym, ap, ap₂, subst, ◌∙◌, ◌⊎◌, inl, inr, arith}
use Rattle.std.specs.List.{AllByRecursion, AllZip}
use Rattle.std.specs.Option.{option_or}
use Rattle.std.proofs.lemmas.Option.{none-some}
use Rattle.btor2.specs.declared.item.Item.{Item}
use Rattle.btor2.specs.declared.item.Body.{Body}
use Rattle.btor2.specs.declared.item.Body.TheVariants as body
use Rattle.btor2.specs.Items.{is_input, is_state, is_bad, is_constraint, names_state, constant_of, next_value}
use Rattle.btor2.specs.Trace.{bits_of}
use Rattle.btor2.specs.Reachability.{nodes_of}
use Rattle.btor2.proofs.AppendLemmas.{is_some_from}
use Rattle.wide.specs.WideModels.{greatest_width, IsWideModel}
use Rattle.full.specs.Lines.{Operand, Says, form, FullLine, lines_of, full_ids, full_nodes, is_form, find_line, second, sort_named, width_of, AtInit, AtNext, init_by, next_by, init_of, next_of}
use Rattle.full.specs.Agreement.{names_full_state, SaysAgree, IsFullAfter, IsFullModel}
use Rattle.full.specs.Runs.{at_place}
use Rattle.full.specs.WrittenOut.{one_id, Places, IsCarried, HasWord, Stands, InputIsWritten, StateIsWritten, LeafIsWritten, IsNoOther, InitIsWritten, NextIsWritten, IsFirstAlone, is_output, IsWrittenOut}
use Rattle.full.proofs.ListLemmas.{all_with}
use Rattle.full.proofs.FullLookUps.{each_found, inits_named, next_said, both_init, at_init, at_next}
use Rattle.full.proofs.GivesLemmas.{carried_nothing}
use Rattle.full.proofs.PlaceLemmas.{named_is}
use Rattle.writeout.specs.declared.way.Way.{Way}
use Rattle.writeout.specs.declared.way.Way.TheVariants as way
use Rattle.writeout.specs.Ways.{way_with, way_of}
use Rattle.writeout.specs.Needs.{place_of}
use Rattle.writeout.specs.Nodes.{StateNode, NodesStand}
use Rattle.writeout.specs.Writings.{Writing, IsGiven, first_of, GoesOn, Settled}
use Rattle.writeout.specs.Leaves.{node_at, leaf_at, of_kind_lines, HasNodes, IsLeaf, LeavesWritten, places_by}
use Rattle.writeout.specs.Late.{InitStands, NextStands, PropertiesStand, LateWritten}
use Rattle.writeout.proofs.PlaceLemmas.{place_is, place_get, found_id}
use Rattle.writeout.proofs.NeedLemmas.{all_get}

-- ---- lists

pub all_by_place : {A : Type 0} (P : A → Type 0) (xs : List A) → ((k : ℕ) (x : A) → slice_get xs k ≡ Some x → P x) → AllByRecursion P xs
all_by_place P [] h = tt
all_by_place P (x ∷ xs) h = (h 0 x refl, all_by_place P xs (λ k y e. h (suc k) y e))

pub zip_with : {A B : Type 0} (P Q : A → B → Type 0) (xs : List A) (ys : List B) → ((x : A) (y : B) → P x y → Q x y) → AllZip P xs ys → AllZip Q xs ys
zip_with P Q [] [] f h = tt
zip_with P Q [] (y ∷ ys) f h = absurd h
zip_with P Q (x ∷ xs) [] f h = absurd h
zip_with P Q (x ∷ xs) (y ∷ ys) f h = (f x y h.0, zip_with P Q xs ys f h.1)

-- ---- ways

pub way_cases : (y : Way) → (y ≡ way.First) ⊎ (y ≡ way.First → ⊥)
way_cases way.First = inl refl
way_cases way.Open = inr (λ e. absurd (cc))
way_cases way.Constant = inr (λ e. absurd (cc))
way_cases way.Zeros = inr (λ e. absurd (cc))
way_cases way.Ones = inr (λ e. absurd (cc))

-- a state without an init line is not written by its first word
pub open_way : (full : List FullLine) (id : ℕ) → init_of full id ≡ None → way_of full id ≡ way.First → ⊥
unfolding way_of
open_way full id none e =
    let is_open : way_of full id ≡ way.Open = ap (λ (o : Option Operand). way_with full id o (next_of full id)) none in
    absurd (cc)

-- one with an init line and without a next line is
pub last_way : (full : List FullLine) (id : ℕ) (o : Operand) → init_of full id ≡ Some o → next_of full id ≡ None → way_of full id ≡ way.First
unfolding way_of
last_way full id o init next = ap (λ (i : Option Operand). way_with full id i (next_of full id)) init ∙ ap (λ (n : Option Operand). way_with full id (Some o) n) next

-- ---- the first init line of a state is its only one

init_before : (front xs : List FullLine) (t : ℕ) → init_of front t ≡ None → init_of (front ++ xs) t ≡ init_of xs t
init_before [] xs t h = refl
init_before (y ∷ ys) xs t h = by (init_by t y.says) (init_before ys xs t) h
  where
    by : (o : Option Operand) → (init_of ys t ≡ None → init_of (ys ++ xs) t ≡ init_of xs t) → option_or o (init_of ys t) ≡ None → option_or o (init_of (ys ++ xs) t) ≡ init_of xs t
    by None rest e = rest e
    by (Some v) rest e = absurd (none-some v (sym e))

next_before : (front xs : List FullLine) (t : ℕ) → next_of front t ≡ None → next_of (front ++ xs) t ≡ next_of xs t
next_before [] xs t h = refl
next_before (y ∷ ys) xs t h = by (next_by t y.says) (next_before ys xs t) h
  where
    by : (o : Option Operand) → (next_of ys t ≡ None → next_of (ys ++ xs) t ≡ next_of xs t) → option_or o (next_of ys t) ≡ None → option_or o (next_of (ys ++ xs) t) ≡ next_of xs t
    by None rest e = rest e
    by (Some v) rest e = absurd (none-some v (sym e))

init_own : (front xs : List FullLine) (x : FullLine) (b : Says) → x.says ≡ b → SaysAgree front b → AtInit (λ t o. init_of (front ++ x ∷ xs) t ≡ Some o) b
init_own front xs x (form (body.Init s t v) minuses) e h =
    init_before front (x ∷ xs) t h.3.2 ∙ ap (λ (b : Says). option_or (init_by t b) (init_of xs t)) e ∙ ap (λ (b : Bool). option_or (cond b (Some (second v minuses)) None) (init_of xs t)) (eq-eqb t t refl)
init_own front xs x _ e h = tt

next_own : (front xs : List FullLine) (x : FullLine) (b : Says) → x.says ≡ b → SaysAgree front b → AtNext (λ t o. next_of (front ++ x ∷ xs) t ≡ Some o) b
next_own front xs x (form (body.Next s t v) minuses) e h =
    next_before front (x ∷ xs) t h.3.2 ∙ ap (λ (b : Says). option_or (next_by t b) (next_of xs t)) e ∙ ap (λ (b : Bool). option_or (cond b (Some (second v minuses)) None) (next_of xs t)) (eq-eqb t t refl)
next_own front xs x _ e h = tt

inits_from : (lines front xs : List FullLine) → lines ≡ front ++ xs → IsFullAfter front xs → AllByRecursion (λ (x : FullLine). AtInit (λ t o. init_of lines t ≡ Some o) x.says) xs
inits_from lines front [] e w = tt
inits_from lines front (x ∷ xs) e w = (
  at_init (λ t o. init_of (front ++ x ∷ xs) t ≡ Some o) (λ t o. init_of lines t ≡ Some o) x.says (λ t o h. ap (λ (l : List FullLine). init_of l t) e ∙ h) (init_own front xs x x.says refl w.0.agrees),
  inits_from lines (front ++ x ∷ []) xs (e ∙ sym (append_assoc front (x ∷ []) xs)) w.1,
)

pub inits_found : (lines : List FullLine) → IsFullModel lines → AllByRecursion (λ (x : FullLine). AtInit (λ t o. init_of lines t ≡ Some o) x.says) lines
inits_found lines w = inits_from lines [] lines refl w

nexts_from : (lines front xs : List FullLine) → lines ≡ front ++ xs → IsFullAfter front xs → AllByRecursion (λ (x : FullLine). AtNext (λ t o. next_of lines t ≡ Some o) x.says) xs
nexts_from lines front [] e w = tt
nexts_from lines front (x ∷ xs) e w = (
  at_next (λ t o. next_of (front ++ x ∷ xs) t ≡ Some o) (λ t o. next_of lines t ≡ Some o) x.says (λ t o h. ap (λ (l : List FullLine). next_of l t) e ∙ h) (next_own front xs x x.says refl w.0.agrees),
  nexts_from lines (front ++ x ∷ []) xs (e ∙ sym (append_assoc front (x ∷ []) xs)) w.1,
)

pub nexts_found : (lines : List FullLine) → IsFullModel lines → AllByRecursion (λ (x : FullLine). AtNext (λ t o. next_of lines t ≡ Some o) x.says) lines
nexts_found lines w = nexts_from lines [] lines refl w

-- ---- states by their ids

-- the line of a state
pub record StateLine (full : List FullLine) (id : ℕ) : Type 0 where
  pub line : FullLine
  pub at : slice_get full (place_of full id) ≡ Some line
  pub same : id ≡ line.id
  pub state : is_form is_state line.says ≡ true

pub state_line : (full : List FullLine) (id : ℕ) → names_full_state full id ≡ true → StateLine full id
state_line full id h =
    let found = named_is (find_line full id) h in
    record { line = found.0; at = place_get full id found.0 found.1; same = found_id full id found.0 found.1; state = found.2 }

-- a line of a state names one
pub state_named : (full : List FullLine) (k : ℕ) (x : FullLine) → IsFullModel full → slice_get full k ≡ Some x → is_form is_state x.says ≡ true → names_full_state full x.id ≡ true
state_named full k x m is state =
    ap (λ (o : Option FullLine). unwrap_or (option_map (λ (y : FullLine). is_form is_state y.says) o) false) (all_get (λ (y : FullLine). find_line full y.id ≡ Some y) full k x (each_found full m) is) ∙ state

pub state_valued : (b : Says) → is_form is_state b ≡ true → is_some (sort_named b) ≡ true
state_valued (form (body.State s) minuses) h = refl
state_valued (form _ minuses) h = absurd (cc)
state_valued _ h = absurd (cc)

-- ---- the first

pub first_some : (n : ℕ) → IsGiven n → first_of n ≡ Some n
first_some n given = ap (λ (b : Bool). cond b None (Some n)) given

first_if : (P : ℕ → Type 0) (n : ℕ) → (IsGiven n → P n) → IfSome (first_of n) P
first_if P n h = by (nat_eq n 0) refl
  where
    by : (b : Bool) → nat_eq n 0 ≡ b → IfSome (cond b None (Some n)) P
    by true e = tt
    by false e = h e

-- ---- inputs and states

pub kind_by : (kind : Body → Bool) (node : ℕ → ℕ) (xs : List FullLine) (nodes : List ℕ) → length nodes ≡ length xs → ((k : ℕ) (x : FullLine) → slice_get xs k ≡ Some x → node x.id ≡ at_place nodes k)
    → map node (full_ids kind xs) ≡ of_kind_lines kind xs nodes
kind_by kind node [] nodes e h = refl
kind_by kind node (x ∷ xs) [] e h = absurd (cc)
kind_by kind node (x ∷ xs) (a ∷ nodes) e h = by (is_form kind x.says) (kind_by kind node xs nodes (grind (arith, e)) (λ k y is. h (suc k) y is))
  where
    by : (b : Bool) → map node (full_ids kind xs) ≡ of_kind_lines kind xs nodes
        → map node (map (λ (y : FullLine). y.id) (cond b (x ∷ lines_of kind xs) (lines_of kind xs))) ≡ cond b (a ∷ of_kind_lines kind xs nodes) (of_kind_lines kind xs nodes)
    by true rest = ap₂ ◌∷◌ (h 0 x refl) rest
    by false rest = rest

-- ---- the whole

leaf_written : (full : List FullLine) (p : Places) (wide : List Item) (id : ℕ) (b : Says) → (is_form is_input b ≡ true → InputIsWritten full p wide id) → (is_form is_state b ≡ true → StateIsWritten full p wide id)
    → LeafIsWritten full p wide id b
leaf_written full p wide id (form (body.Input s) minuses) h k = h refl
leaf_written full p wide id (form (body.State s) minuses) h k = k refl
leaf_written full p wide id _ h k = tt

-- all that stands in the end
record Done (full : List FullLine) (w : Writing) : Type 0 where
  model : IsFullModel full
  wide : IsWideModel greatest_width w.items
  stand : NodesStand full w
  has : HasNodes full w
  leaves : LeavesWritten full w
  late : LateWritten full full w

abbrev places : (full : List FullLine) (w : Writing) → Done full w → Places
places full w h = places_by full w h.leaves.source

goes : (full : List FullLine) (w : Writing) (h : Done full w) → GoesOn full w (places full w h) w.items
goes full w h = record {
  more = [];
  is = sym (append-nil w.items);
  model = h.wide;
  nodes = λ k x is given. ap (at_place w.nodes) (place_is full k x h.model is);
  leaves = λ k x is given. ap (at_place w.leaves) (place_is full k x h.model is);
  first = refl;
}

-- the node and the state of the line at a place
node_here : (full : List FullLine) (w : Writing) (k : ℕ) (x : FullLine) → Done full w → slice_get full k ≡ Some x → node_at full w x.id ≡ at_place w.nodes k
node_here full w k x h is = ap (at_place w.nodes) (place_is full k x h.model is)

leaf_here : (full : List FullLine) (w : Writing) (k : ℕ) (x : FullLine) → Done full w → slice_get full k ≡ Some x → leaf_at full w x.id ≡ at_place w.leaves k
leaf_here full w k x h is = ap (at_place w.leaves) (place_is full k x h.model is)

line_carried : (full : List FullLine) (w : Writing) (h : Done full w) (k : ℕ) (x : FullLine) → slice_get full k ≡ Some x → IsCarried full (places full w h) w.items x
line_carried full w h k x is = by (is_some (sort_named x.says)) refl
  where
    by : (b : Bool) → is_some (sort_named x.says) ≡ b → IsCarried full (places full w h) w.items x
    by true e = (h.stand.lines k x is (h.has k x is e)).carried (places full w h) w.items (goes full w h) (node_here full w k x h is)
    by false e = carried_nothing full (places full w h) w.items x e

input_written : (full : List FullLine) (w : Writing) (h : Done full w) (k : ℕ) (x : FullLine) → slice_get full k ≡ Some x → is_form is_input x.says ≡ true → InputIsWritten full (places full w h) w.items x.id
input_written full w h k x is input =
    let own = h.leaves.inputs k x is input in
    let stands = h.stand.lines k x is own.given in
    subst (λ (a : ℕ). ((s : ℕ) × Stands w.items a (body.Input s)) × (bits_of w.items a ≡ width_of full x.id) × (h.leaves.source a ≡ x.id)) (sym (node_here full w k x h is))
    ((own.sort, own.input), ap (λ (o : Option ℕ). unwrap_or o 0) stands.width, own.own)

state_written : (full : List FullLine) (w : Writing) (h : Done full w) (k : ℕ) (x : FullLine) → slice_get full k ≡ Some x → is_form is_state x.says ≡ true → StateIsWritten full (places full w h) w.items x.id
state_written full w h k x is state =
    let leaf = h.stand.leaves k x is state in
    let names = state_named full k x h.model is state in
    let here = leaf_here full w k x h is in
    record {
      state = ap (names_state w.items) here ∙ leaf.state;
      bits = ap (bits_of w.items) here ∙ ap (λ (o : Option ℕ). unwrap_or o 0) leaf.width;
      own = ap h.leaves.source here ∙ h.leaves.states k x is state;
      other = subst (λ (a : ℕ). IfSome (first_of w.first) (λ n. nat_eq a n ≡ false)) (sym here) (first_if (λ n. nat_eq (at_place w.leaves k) n ≡ false) w.first leaf.other);
      no_init = λ none. (
        node_here full w k x h is ∙ ((h.stand.lines k x is (h.has k x is (state_valued x.says state))).state state).as_it_is (open_way full x.id none) ∙ sym here,
        h.late.no_init x.id names (inl none),
      );
      no_next = λ none. h.late.no_next x.id names none;
    }

no_other : (full : List FullLine) (w : Writing) (h : Done full w) (a : ℕ) (b : Body) → IsLeaf full w a b → IsNoOther full (places full w h) a b
no_other full w h a (body.State s) (inl first) = inl first
no_other full w h a (body.State s) (inr leaf) =
    let own : h.leaves.source a ≡ leaf.1.id = ap h.leaves.source (sym leaf.4) ∙ h.leaves.states leaf.0 leaf.1 leaf.2 leaf.3 in
    inr (
      ap (names_full_state full) own ∙ state_named full leaf.0 leaf.1 h.model leaf.2 leaf.3,
      ap (leaf_at full w) own ∙ leaf_here full w leaf.0 leaf.1 h leaf.2 ∙ leaf.4,
    )
no_other full w h a _ leaf = tt

first_alone : (full : List FullLine) (w : Writing) (h : Done full w) → IsGiven w.first → IsFirstAlone full (places full w h) w.items w.first
first_alone full w h given =
    let first = h.leaves.first given in
    record {
      state = (first.sort, first.state);
      bit = ap (λ (o : Option ℕ). unwrap_or o 0) (h.stand.first given).width;
      begins = ap (option_and_then (constant_of w.items)) first.init ∙ first.is_one;
      next = (first.zero, first.next, first.is_zero);
      only = h.stand.only given (places full w h) w.items (goes full w h);
    }

-- ---- init and next lines

init_written : (full : List FullLine) (w : Writing) (h : Done full w) (id : ℕ) (o : Operand) → names_full_state full id ≡ true → init_of full id ≡ Some o → InitStands full w id o
    → InitIsWritten full (places full w h) w.items id o
init_written full w h id o names init stands = by (way_cases (way_of full id))
  where
    line : StateLine full id
    line = state_line full id names

    given : IsGiven (node_at full w id)
    given = h.has (place_of full id) line.line line.at (state_valued line.line.says line.state)

    node : StateNode full w id (leaf_at full w id) (node_at full w id)
    node = subst (λ (n : ℕ). StateNode full w n (leaf_at full w id) (node_at full w id)) (sym line.same) ((h.stand.lines (place_of full id) line.line line.at given).state line.state)

    goes_on : (way_of full id ≡ way.First → ⊥) → (n : Option Operand) → next_of full id ≡ n → is_some (next_value w.items (leaf_at full w id)) ≡ true
    goes_on other None e = absurd (other (last_way full id o init e))
    goes_on other (Some n) e =
        let next = next_said (NextStands full w) full id n h.late.nexts e in
        is_some_from (next_value w.items (leaf_at full w id)) next.node next.takes

    by : (way_of full id ≡ way.First) ⊎ (way_of full id ≡ way.First → ⊥) → InitIsWritten full (places full w h) w.items id o
    by (inl is) =
        let chosen = node.by_first is o init in
        inr (record {
          first = w.first;
          sort = chosen.sort;
          value = chosen.value;
          is_first = first_some w.first ((h.stand.leaves (place_of full id) line.line line.at line.state).first (ap (way_of full) (sym line.same) ∙ is));
          chooses = chosen.chooses;
          word = chosen.word (places full w h) w.items (goes full w h);
          begins_open = h.late.no_init id names (inr is);
        })
    by (inr other) =
        let begins = stands other in
        inl (record {
          same = node.as_it_is other;
          word = begins.word;
          begins = begins.begins;
          constant = begins.constant (places full w h) w.items (goes full w h);
          goes_on = goes_on other (next_of full id) refl;
        })

next_written : (full : List FullLine) (w : Writing) (h : Done full w) (id : ℕ) (o : Operand) → NextStands full w id o → NextIsWritten full (places full w h) w.items id o
next_written full w h id o stands = (stands.node, stands.takes, stands.word (places full w h) w.items (goes full w h))

inits_written : (full : List FullLine) (w : Writing) (h : Done full w) → AllByRecursion (λ (x : FullLine). AtInit (InitIsWritten full (places full w h) w.items) x.says) full
inits_written full w h =
    let named : AllByRecursion (λ (x : FullLine). AtInit (λ t o. (names_full_state full t ≡ true) × (init_of full t ≡ Some o)) x.says) full =
    both_init (λ t o. names_full_state full t ≡ true) (λ t o. init_of full t ≡ Some o) full (inits_named full h.model) (inits_found full h.model) in
    all_with
    (λ (x : FullLine). AtInit (λ t o. ((names_full_state full t ≡ true) × (init_of full t ≡ Some o)) × InitStands full w t o) x.says)
    (λ (x : FullLine). AtInit (InitIsWritten full (places full w h) w.items) x.says) full
    (λ x. at_init (λ t o. ((names_full_state full t ≡ true) × (init_of full t ≡ Some o)) × InitStands full w t o) (InitIsWritten full (places full w h) w.items) x.says (λ t o k. init_written full w h t o k.0.0 k.0.1 k.1))
    (both_init (λ t o. (names_full_state full t ≡ true) × (init_of full t ≡ Some o)) (InitStands full w) full named h.late.inits)

nexts_written : (full : List FullLine) (w : Writing) (h : Done full w) → AllByRecursion (λ (x : FullLine). AtNext (NextIsWritten full (places full w h) w.items) x.says) full
nexts_written full w h =
    all_with (λ (x : FullLine). AtNext (NextStands full w) x.says) (λ (x : FullLine). AtNext (NextIsWritten full (places full w h) w.items) x.says) full
    (λ x. at_next (NextStands full w) (NextIsWritten full (places full w h) w.items) x.says (next_written full w h)) h.late.nexts

properties_written : (full : List FullLine) (w : Writing) (h : Done full w) (kind : Body → Bool) → PropertiesStand full full w kind
    → AllZip (HasWord full (places full w h) w.items) (full_nodes kind full) (nodes_of kind w.items)
properties_written full w h kind stand =
    zip_with (λ o a. Settled full w (λ p wide. HasWord full p wide o a)) (HasWord full (places full w h) w.items) (full_nodes kind full) (nodes_of kind w.items)
    (λ o a settled. settled (places full w h) w.items (goes full w h)) stand

all_written : (full : List FullLine) (w : Writing) (h : Done full w) → IsWrittenOut full (places full w h) w.items
all_written full w h = record {
  agrees = h.model;
  well_formed = h.wide;
  lines = all_by_place (IsCarried full (places full w h) w.items) full (line_carried full w h);
  inputs = kind_by is_input (node_at full w) full w.nodes h.stand.nodes_length (λ k x is. node_here full w k x h is) ∙ h.leaves.in_order;
  states = ap (λ (l : List ℕ). l ++ one_id (first_of w.first)) (kind_by is_state (leaf_at full w) full w.leaves h.stand.leaves_length (λ k x is. ap (at_place w.leaves) (place_is full k x h.model is))) ∙ h.leaves.states_in_order;
  leaves = all_by_place (λ (x : FullLine). LeafIsWritten full (places full w h) w.items x.id x.says) full
      (λ k x is. leaf_written full (places full w h) w.items x.id x.says (input_written full w h k x is) (state_written full w h k x is));
  no_others = all_with (λ (y : Item). IsLeaf full w y.id y.body) (λ (y : Item). IsNoOther full (places full w h) y.id y.body) w.items (λ y. no_other full w h y.id y.body) h.leaves.no_others;
  first = first_if (IsFirstAlone full (places full w h) w.items) w.first (first_alone full w h);
  inits = inits_written full w h;
  nexts = nexts_written full w h;
  bads = properties_written full w h is_bad h.late.bads;
  constraints = properties_written full w h is_constraint h.late.constraints;
  outputs = properties_written full w h is_output h.late.outputs;
}

-- A writing in which each line with a value has its node, and the leaves and the lines without a value are written, is a model written out, by places that give the states their numbers in it.
pub written_out : (full : List FullLine) (w : Writing) → IsFullModel full → IsWideModel greatest_width w.items → NodesStand full w → HasNodes full w → LeavesWritten full w → LateWritten full full w
    → (p : Places) × IsWrittenOut full p w.items × ((of_kind_lines is_state full w.nodes ≡ map p.node (full_ids is_state full)) × (of_kind_lines is_state full w.leaves ≡ map p.leaf (full_ids is_state full)))
written_out full w model wide stand has leaves late =
    let h : Done full w = record { model = model; wide = wide; stand = stand; has = has; leaves = leaves; late = late } in (
      places full w h,
      all_written full w h,
      (
        sym (kind_by is_state (node_at full w) full w.nodes stand.nodes_length (λ k x is. node_here full w k x h is)),
        sym (kind_by is_state (leaf_at full w) full w.leaves stand.leaves_length (λ k x is. leaf_here full w k x h is)),
      ),
    )
