-- What stands of a writing once one line more without a value is written.
use Rattle.std.proofs.Common.{◌≡◌, ◌⊎◌, inl, inr, ℕ, ◌+◌, Bool, true, false, true≢false, cond, nat_eq, eq-eqb, eqb-true, List, [], ◌∷◌, ◌++◌, take, slice_get, Option, Some, None, option_and_then, add-one, refl, sym, ap, ap₂, subst, ◌∙◌}
use Rattle.std.specs.List.{AllZip}
use Rattle.std.specs.Option.{option_or}
use Rattle.std.proofs.lemmas.Option.{none-some}
use Rattle.btor2.specs.declared.item.Item.{Item}
use Rattle.btor2.specs.declared.item.Body.{Body}
use Rattle.btor2.specs.declared.item.Body.TheVariants as body
use Rattle.btor2.specs.Items.{operands, is_bad, is_constraint, constant_of, init_for, next_for, init_value, init_word, next_value}
use Rattle.btor2.specs.Reachability.{nodes_of}
use Rattle.btor2.proofs.AppendLemmas.{constant_of-append}
use Rattle.full.specs.Lines.{Operand, operand, Says, form, array_sort, read, write, FullLine, with_minuses, operands_of, second, is_form, full_nodes, AtInit, AtNext, init_by, next_by, init_of, next_of}
use Rattle.full.specs.Agreement.{names_full_state, IsFullModel}
use Rattle.full.specs.Runs.{first_word}
use Rattle.full.specs.WrittenOut.{Places, InFrames, read_by, HasWord, OnlyChooses, is_output}
use Rattle.full.proofs.ListLemmas.{all_join}
use Rattle.cells.specs.Lines.{named}
use Rattle.writeout.specs.declared.way.Way.TheVariants as way
use Rattle.writeout.specs.Ways.{way_of}
use Rattle.writeout.specs.Forms.{minus_at}
use Rattle.writeout.specs.Needs.{place_of}
use Rattle.writeout.specs.Faults.{is_live_body, NoneIsLiveItem}
use Rattle.writeout.specs.Writings.{Writing, Settled, with_items, Grows}
use Rattle.writeout.specs.Leaves.{leaf_at, LeavesWritten}
use Rattle.writeout.specs.Late.{InitStands, NextStands, PropertiesStand, LateWritten}
use Rattle.writeout.specs.LateLines.{StandsAt, is_late, PutBehind, IsInitOf, IsNextOf, IsShown, InitIsPut}
use Rattle.writeout.proofs.GrowLemmas.{nodes_on}
use Rattle.writeout.proofs.EndLemmas.{zip_with, way_cases, state_line}
use Rattle.writeout.proofs.LeafLemmas.{IsNoLeaf, leaves_on, leaves_grow, late_grow, inits_on, nexts_on}
use Rattle.writeout.proofs.LongerLemmas.{nodes_longer, goes_back}
use Rattle.writeout.proofs.LateLemmas.{zip_joined, node_behind, no_node_behind, full_behind, no_full_behind, init_behind, next_behind, init_of_behind, next_of_behind}
use Rattle.writeout.proofs.ReadyLemmas.{take_more, second_by, only_by_place, next_known, init_known}

-- ---- lines of nodes

pub at_grows : (full done : List FullLine) (w : Writing) (items : List Item) → Grows full w items → StandsAt full done w → StandsAt full done (with_items w items)
at_grows full done w items g h = record {
  nodes = nodes_on full w items g h.nodes;
  each = h.each;
  leaves = leaves_grow full w items g h.leaves;
  late = late_grow full done w items g h.late;
}

-- ---- a line behind

late_only : (full : List FullLine) (p : Places) (wide : List Item) (first : ℕ) (b : Body) → is_late b ≡ true → OnlyChooses full p wide first b
late_only full p wide first (body.Init s t v) h = λ there. absurd (true≢false (sym there))
late_only full p wide first (body.Next s t v) h = λ there. absurd (true≢false (sym there))
late_only full p wide first (body.Bad a) h = λ there. absurd (true≢false (sym there))
late_only full p wide first (body.Constraint a) h = λ there. absurd (true≢false (sym there))
late_only full p wide first (body.Output a) h = λ there. absurd (true≢false (sym there))
late_only full p wide first _ h = absurd (cc)

late_form : (b : Body) → is_late b ≡ true → is_live_body b ≡ false
late_form (body.Fair a) h = absurd (true≢false (sym h))
late_form (body.Justice ns) h = absurd (true≢false (sym h))
late_form _ h = refl

late_leaf : (b : Body) → is_late b ≡ true → IsNoLeaf b
late_leaf (body.Init s t v) h = (refl, refl)
late_leaf (body.Next s t v) h = (refl, refl)
late_leaf (body.Bad a) h = (refl, refl)
late_leaf (body.Constraint a) h = (refl, refl)
late_leaf (body.Output a) h = (refl, refl)
late_leaf _ h = absurd (cc)

-- a line of a front behind it and a line of the list behind it, both of a kind or both not
abbrev KindStands : List FullLine → Writing → (Body → Bool) → Says → Body → Type 0
KindStands full w kind says b = ((is_form kind says ≡ false) × (kind b ≡ false)) ⊎ ((is_form kind says ≡ true) × (kind b ≡ true) × AllZip (λ o a. Settled full w (λ p wide. HasWord full p wide o a)) (operands_of says) (operands b))

-- a node has the word of an operand
abbrev Has : List FullLine → Writing → Operand → ℕ → Type 0
Has full w o a = Settled full w (λ p wide. HasWord full p wide o a)

has_on : (full done : List FullLine) (w : Writing) (items more : List Item) (kind : Body → Bool) → items ≡ w.items ++ more → PropertiesStand full done w kind → AllZip (Has full (with_items w items)) (full_nodes kind done) (nodes_of kind w.items)
has_on full done w items more kind e h =
    zip_with (Has full w) (Has full (with_items w items)) (full_nodes kind done) (nodes_of kind w.items) (λ o a settled p wide g. settled p wide (goes_back full w items more p wide e g)) h

properties_behind : (full done : List FullLine) (w : Writing) (items : List Item) (x : FullLine) (id : ℕ) (symbol : Option (List ℕ)) (b : Body) (kind : Body → Bool) → items ≡ w.items ++ named id symbol b ∷ []
    → KindStands full (with_items w items) kind x.says b → PropertiesStand full done w kind → PropertiesStand full (done ++ x ∷ []) (with_items w items) kind
properties_behind full done w items x id symbol b kind e (inl none) h =
    subst (λ (os : List Operand). AllZip (Has full (with_items w items)) os (nodes_of kind items)) (sym (no_full_behind kind done x none.0))
    (subst (λ (l : List ℕ). AllZip (Has full (with_items w items)) (full_nodes kind done) l) (sym (ap (nodes_of kind) e ∙ no_node_behind kind w.items id symbol b none.1)) (has_on full done w items (named id symbol b ∷ []) kind e h))
properties_behind full done w items x id symbol b kind e (inr one) h =
    subst (λ (os : List Operand). AllZip (Has full (with_items w items)) os (nodes_of kind items)) (sym (full_behind kind done x one.0))
    (subst (λ (l : List ℕ). AllZip (Has full (with_items w items)) (full_nodes kind done ++ operands_of x.says) l) (sym (ap (nodes_of kind) e ∙ node_behind kind w.items id symbol b one.1))
    (zip_joined (Has full (with_items w items)) (full_nodes kind done) (operands_of x.says) (nodes_of kind w.items) (operands b) (has_on full done w items (named id symbol b ∷ []) kind e h) one.2))

or_left : {A : Type 0} (a b : Option A) → option_or a b ≡ None → a ≡ None
or_left None b h = refl
or_left (Some v) b h = absurd (none-some v (sym h))

-- a front with a line more
init_front : (full done : List FullLine) (x : FullLine) (t : ℕ) → (init_of (done ++ x ∷ []) t ≡ None) ⊎ (way_of full t ≡ way.First) → (init_of done t ≡ None) ⊎ (way_of full t ≡ way.First)
init_front full done x t (inl none) = inl (or_left (init_of done t) (init_by t x.says) (sym (init_of_behind done x t) ∙ none))
init_front full done x t (inr first) = inr first

next_front : (done : List FullLine) (x : FullLine) (t : ℕ) → next_of (done ++ x ∷ []) t ≡ None → next_of done t ≡ None
next_front done x t none = or_left (next_of done t) (next_by t x.says) (sym (next_of_behind done x t) ∙ none)

-- what a line of the model and a line behind the list are to each other
record IsStep (full done : List FullLine) (w : Writing) (says : Says) (x : FullLine) (b : Body) : Type 0 where
  init : AtInit (InitStands full w) says
  next : AtNext (NextStands full w) says
  no_init : (t : ℕ) → names_full_state full t ≡ true → (init_of (done ++ x ∷ []) t ≡ None) ⊎ (way_of full t ≡ way.First) → init_for (leaf_at full w t) b ≡ None
  no_next : (t : ℕ) → names_full_state full t ≡ true → next_of (done ++ x ∷ []) t ≡ None → next_for (leaf_at full w t) b ≡ None
  bad : KindStands full w is_bad says b
  constraint : KindStands full w is_constraint says b
  output : KindStands full w is_output says b

late_behind : (full done : List FullLine) (w : Writing) (items : List Item) (x : FullLine) (says : Says) (id : ℕ) (symbol : Option (List ℕ)) (b : Body) → items ≡ w.items ++ named id symbol b ∷ [] → is_late b ≡ true → x.says ≡ says → IsStep full done (with_items w items) says x b
    → LateWritten full done w → LateWritten full (done ++ x ∷ []) (with_items w items)
late_behind full done w items x says id symbol b e late is own h = record {
  inits = all_join (λ (y : FullLine). AtInit (InitStands full (with_items w items)) y.says) done (x ∷ []) (inits_on full done w items (named id symbol b ∷ []) e h.inits) (subst (AtInit (InitStands full (with_items w items))) (sym is) own.init, tt);
  nexts = all_join (λ (y : FullLine). AtNext (NextStands full (with_items w items)) y.says) done (x ∷ []) (nexts_on full done w items (named id symbol b ∷ []) e h.nexts) (subst (AtNext (NextStands full (with_items w items))) (sym is) own.next, tt);
  no_init = λ t names none.
      ap (λ (l : List Item). init_value l (leaf_at full w t)) e ∙ init_behind w.items id symbol b (leaf_at full w t)
      ∙ ap (λ (o : Option ℕ). option_or o (init_for (leaf_at full w t) b)) (h.no_init t names (init_front full done x t none)) ∙ own.no_init t names none;
  no_next = λ t names none.
      ap (λ (l : List Item). next_value l (leaf_at full w t)) e ∙ next_behind w.items id symbol b (leaf_at full w t)
      ∙ ap (λ (o : Option ℕ). option_or o (next_for (leaf_at full w t) b)) (h.no_next t names (next_front done x t none)) ∙ own.no_next t names none;
  bads = properties_behind full done w items x id symbol b is_bad e (subst (λ (z : Says). KindStands full (with_items w items) is_bad z b) (sym is) own.bad) h.bads;
  constraints = properties_behind full done w items x id symbol b is_constraint e (subst (λ (z : Says). KindStands full (with_items w items) is_constraint z b) (sym is) own.constraint) h.constraints;
  outputs = properties_behind full done w items x id symbol b is_output e (subst (λ (z : Says). KindStands full (with_items w items) is_output z b) (sym is) own.output) h.outputs;
  forms = subst NoneIsLiveItem (sym e) (all_join (λ (y : Item). is_live_body y.body ≡ false) w.items (named id symbol b ∷ []) h.forms (late_form b late, tt));
}

-- all that stands
at_behind : (full done : List FullLine) (w : Writing) (items : List Item) (x : FullLine) (says : Says) (id : ℕ) (symbol : Option (List ℕ)) (b : Body) → items ≡ w.items ++ named id symbol b ∷ [] → is_late b ≡ true → x.says ≡ says
    → IsStep full done (with_items w items) says x b → StandsAt full done w → StandsAt full (done ++ x ∷ []) (with_items w items)
at_behind full done w items x says id symbol b e late is own h = record {
  nodes = nodes_longer full w items (record { more = named id symbol b ∷ []; is = e; only = λ given p wide g. (late_only full p wide w.first b late, tt) }) h.nodes;
  each = h.each;
  leaves = leaves_on full w items (named id symbol b ∷ []) e (late_leaf b late, tt) h.leaves;
  late = late_behind full done w items x says id symbol b e late is own h.late;
}

-- ---- states

-- two states of the model have two
leaves_apart : (full : List FullLine) (w : Writing) (t u : ℕ) → LeavesWritten full w → names_full_state full t ≡ true → names_full_state full u ≡ true → leaf_at full w t ≡ leaf_at full w u → t ≡ u
leaves_apart full w t u h one two same =
    let first = state_line full t one in
    let other = state_line full u two in
    first.same ∙ sym (h.states (place_of full t) first.line first.at first.state) ∙ ap h.source same ∙ h.states (place_of full u) other.line other.at other.state ∙ sym other.same

own_cond : {A : Type 0} (n : ℕ) (x y : A) → cond (nat_eq n n) x y ≡ x
own_cond n x y = ap (λ (b : Bool). cond b x y) (eq-eqb n n refl)

other_cond : {A : Type 0} (m n : ℕ) (x : A) → (m ≡ n → ⊥) → cond (nat_eq m n) (Some x) None ≡ None
other_cond {A} m n x other = by (nat_eq m n) refl
  where
    by : (b : Bool) → nat_eq m n ≡ b → cond b (Some x) None ≡ None
    by true e = absurd (other (eqb-true m n e))
    by false e = refl

-- ---- each line

-- a line that is written by no line
nothing_written : (full done : List FullLine) (w : Writing) (x : FullLine) → AtInit (InitStands full w) x.says → AtNext (NextStands full w) x.says → is_form is_bad x.says ≡ false → is_form is_constraint x.says ≡ false → is_form is_output x.says ≡ false
    → LateWritten full done w → LateWritten full (done ++ x ∷ []) w
nothing_written full done w x init next bad constraint output h = record {
  inits = all_join (λ (y : FullLine). AtInit (InitStands full w) y.says) done (x ∷ []) h.inits (init, tt);
  nexts = all_join (λ (y : FullLine). AtNext (NextStands full w) y.says) done (x ∷ []) h.nexts (next, tt);
  no_init = λ t names none. h.no_init t names (init_front full done x t none);
  no_next = λ t names none. h.no_next t names (next_front done x t none);
  bads = same is_bad bad h.bads;
  constraints = same is_constraint constraint h.constraints;
  outputs = same is_output output h.outputs;
  forms = h.forms;
}
  where
    same : (kind : Body → Bool) → is_form kind x.says ≡ false → PropertiesStand full done w kind → PropertiesStand full (done ++ x ∷ []) w kind
    same kind none h = subst (λ (os : List Operand). AllZip (λ o a. Settled full w (λ p wide. HasWord full p wide o a)) os (nodes_of kind w.items)) (sym (no_full_behind kind done x none)) h

front_more : (full : List FullLine) (w : Writing) (k : ℕ) (x : FullLine) → slice_get full k ≡ Some x → StandsAt full (take k full ++ x ∷ []) w → StandsAt full (take (k + 1) full) w
front_more full w k x is h = subst (λ (l : List FullLine). StandsAt full l w) (sym (ap (λ (n : ℕ). take n full) (add-one k) ∙ take_more full k x is)) h

at_nothing : (full : List FullLine) (w : Writing) (k : ℕ) (x : FullLine) → slice_get full k ≡ Some x → AtInit (InitStands full w) x.says → AtNext (NextStands full w) x.says → is_form is_bad x.says ≡ false → is_form is_constraint x.says ≡ false
    → is_form is_output x.says ≡ false → StandsAt full (take k full) w → StandsAt full (take (k + 1) full) w
at_nothing full w k x is init next bad constraint output h =
    front_more full w k x is (record { nodes = h.nodes; each = h.each; leaves = h.leaves; late = nothing_written full (take k full) w x init next bad constraint output h.late })

-- what a form that is none of them says nothing of
record SaysNothing (full : List FullLine) (w : Writing) (says : Says) : Type 0 where
  init : AtInit (InitStands full w) says
  next : AtNext (NextStands full w) says
  bad : is_form is_bad says ≡ false
  constraint : is_form is_constraint says ≡ false
  output : is_form is_output says ≡ false

says_nothing : (full : List FullLine) (w : Writing) (b : Body) (minuses : List Bool) → is_late b ≡ false → SaysNothing full w (form b minuses)
says_nothing full w (body.Init s t v) minuses h = absurd (cc)
says_nothing full w (body.Next s t v) minuses h = absurd (cc)
says_nothing full w (body.Bad a) minuses h = absurd (cc)
says_nothing full w (body.Constraint a) minuses h = absurd (cc)
says_nothing full w (body.Output a) minuses h = absurd (cc)
says_nothing full w _ minuses h = record { init = tt; next = tt; bad = refl; constraint = refl; output = refl }

no_form : (full : List FullLine) (w : Writing) (says : Says) → is_form is_late says ≡ false → SaysNothing full w says
no_form full w (form b minuses) h = says_nothing full w b minuses h
no_form full w (array_sort i e) h = record { init = tt; next = tt; bad = refl; constraint = refl; output = refl }
no_form full w (read s a i) h = record { init = tt; next = tt; bad = refl; constraint = refl; output = refl }
no_form full w (write s a i v) h = record { init = tt; next = tt; bad = refl; constraint = refl; output = refl }

pub nothing_done : (full : List FullLine) (w : Writing) (k : ℕ) (x : FullLine) → slice_get full k ≡ Some x → is_form is_late x.says ≡ false → StandsAt full (take k full) w → StandsAt full (take (k + 1) full) w
nothing_done full w k x is late h =
    let own = no_form full w x.says late in
    at_nothing full w k x is own.init own.next own.bad own.constraint own.output h

-- a line of a property or of an output
only_word : (full : List FullLine) (w : Writing) (items : List Item) (id : ℕ) (symbol : Option (List ℕ)) (b : Body) (a n : ℕ) (minuses : List Bool) → items ≡ w.items ++ named id symbol b ∷ [] → Settled full w (λ p wide. HasWord full p wide (operand a (minus_at minuses 0)) n)
    → AllZip (λ o c. Settled full (with_items w items) (λ p wide. HasWord full p wide o c)) (with_minuses (a ∷ []) minuses) (n ∷ [])
only_word full w items id symbol b a n minuses e word =
    subst (λ (os : List Operand). AllZip (λ o c. Settled full (with_items w items) (λ p wide. HasWord full p wide o c)) os (n ∷ [])) (sym (only_by_place a minuses))
    ((λ p wide g. word p wide (goes_back full w items (named id symbol b ∷ []) p wide e g)), tt)

pub bad_done : (full : List FullLine) (w : Writing) (items : List Item) (k : ℕ) (x : FullLine) (a : ℕ) (minuses : List Bool) → slice_get full k ≡ Some x → x.says ≡ form (body.Bad a) minuses → StandsAt full (take k full) w
    → PutBehind full w items (IsShown full (operand a (minus_at minuses 0)) (λ n. body.Bad n)) → StandsAt full (take (k + 1) full) (with_items w items)
bad_done full w items k x a minuses is says h put =
    let between = with_items w put.between in
    let e = put.is ∙ ap (λ (b : Body). put.between ++ named put.id put.symbol b ∷ []) put.of.is in
    front_more full (with_items w items) k x is
    (at_behind full (take k full) between items x (form (body.Bad a) minuses) put.id put.symbol (body.Bad put.of.node) e refl says
    (record {
      init = tt;
      next = tt;
      no_init = λ t names none. refl;
      no_next = λ t names none. refl;
      bad = inr (refl, refl, only_word full between items put.id put.symbol (body.Bad put.of.node) a put.of.node minuses e put.of.word);
      constraint = inl (refl, refl);
      output = inl (refl, refl);
    })
    (at_grows full (take k full) w put.between put.grows h))

pub constraint_done : (full : List FullLine) (w : Writing) (items : List Item) (k : ℕ) (x : FullLine) (a : ℕ) (minuses : List Bool) → slice_get full k ≡ Some x → x.says ≡ form (body.Constraint a) minuses → StandsAt full (take k full) w
    → PutBehind full w items (IsShown full (operand a (minus_at minuses 0)) (λ n. body.Constraint n)) → StandsAt full (take (k + 1) full) (with_items w items)
constraint_done full w items k x a minuses is says h put =
    let between = with_items w put.between in
    let e = put.is ∙ ap (λ (b : Body). put.between ++ named put.id put.symbol b ∷ []) put.of.is in
    front_more full (with_items w items) k x is
    (at_behind full (take k full) between items x (form (body.Constraint a) minuses) put.id put.symbol (body.Constraint put.of.node) e refl says
    (record {
      init = tt;
      next = tt;
      no_init = λ t names none. refl;
      no_next = λ t names none. refl;
      bad = inl (refl, refl);
      constraint = inr (refl, refl, only_word full between items put.id put.symbol (body.Constraint put.of.node) a put.of.node minuses e put.of.word);
      output = inl (refl, refl);
    })
    (at_grows full (take k full) w put.between put.grows h))

pub output_done : (full : List FullLine) (w : Writing) (items : List Item) (k : ℕ) (x : FullLine) (a : ℕ) (minuses : List Bool) → slice_get full k ≡ Some x → x.says ≡ form (body.Output a) minuses → StandsAt full (take k full) w
    → PutBehind full w items (IsShown full (operand a (minus_at minuses 0)) (λ n. body.Output n)) → StandsAt full (take (k + 1) full) (with_items w items)
output_done full w items k x a minuses is says h put =
    let between = with_items w put.between in
    let e = put.is ∙ ap (λ (b : Body). put.between ++ named put.id put.symbol b ∷ []) put.of.is in
    front_more full (with_items w items) k x is
    (at_behind full (take k full) between items x (form (body.Output a) minuses) put.id put.symbol (body.Output put.of.node) e refl says
    (record {
      init = tt;
      next = tt;
      no_init = λ t names none. refl;
      no_next = λ t names none. refl;
      bad = inl (refl, refl);
      constraint = inl (refl, refl);
      output = inr (refl, refl, only_word full between items put.id put.symbol (body.Output put.of.node) a put.of.node minuses e put.of.word);
    })
    (at_grows full (take k full) w put.between put.grows h))

-- a next line
next_last : (done : List FullLine) (x : FullLine) (s t v : ℕ) (minuses : List Bool) → x.says ≡ form (body.Next s t v) minuses → next_of (done ++ x ∷ []) t ≡ None → ⊥
next_last done x s t v minuses says none = by (next_of done t) (sym (next_of_behind done x t ∙ ap (option_or (next_of done t)) (ap (next_by t) says ∙ own_cond t (Some (second v minuses)) None)) ∙ none)
  where
    by : (o : Option Operand) → option_or o (Some (second v minuses)) ≡ None → ⊥
    by None e = none-some (second v minuses) (sym e)
    by (Some u) e = none-some u (sym e)

pub next_done : (full : List FullLine) (w : Writing) (items : List Item) (k : ℕ) (x : FullLine) (s t v : ℕ) (minuses : List Bool) → IsFullModel full → slice_get full k ≡ Some x → x.says ≡ form (body.Next s t v) minuses → StandsAt full (take k full) w
    → PutBehind full w items (IsNextOf full (operand v (minus_at minuses 1)) (leaf_at full w t)) → StandsAt full (take (k + 1) full) (with_items w items)
next_done full w items k x s t v minuses m is says h put =
    let between = with_items w put.between in
    let e = put.is ∙ ap (λ (b : Body). put.between ++ named put.id put.symbol b ∷ []) put.of.is in
    let known = next_known full k x s t v minuses m is says in
    let now = at_grows full (take k full) w put.between put.grows h in
    front_more full (with_items w items) k x is
    (at_behind full (take k full) between items x (form (body.Next s t v) minuses) put.id put.symbol (body.Next put.of.sort (leaf_at full w t) put.of.node) e refl says
    (record {
      init = tt;
      next = record {
        node = put.of.node;
        takes = ap (λ (l : List Item). next_value l (leaf_at full w t)) e ∙ next_behind put.between put.id put.symbol (body.Next put.of.sort (leaf_at full w t) put.of.node) (leaf_at full w t)
            ∙ ap₂ (λ (o q : Option ℕ). option_or o q) (now.late.no_next t known.state known.free) (own_cond (leaf_at full w t) (Some put.of.node) None);
        word = λ p wide g.
            subst (λ (o : Operand). HasWord full p wide o put.of.node) (sym (second_by v minuses))
            (put.of.word p wide (goes_back full between items (named put.id put.symbol (body.Next put.of.sort (leaf_at full w t) put.of.node) ∷ []) p wide e g));
      };
      no_init = λ u names none. refl;
      no_next = λ u names none.
          other_cond (leaf_at full w u) (leaf_at full w t) put.of.node
          (λ same. next_last (take k full) x s t v minuses says (subst (λ (i : ℕ). next_of (take k full ++ x ∷ []) i ≡ None) (leaves_apart full w u t h.leaves names known.state same) none));
      bad = inl (refl, refl);
      constraint = inl (refl, refl);
      output = inl (refl, refl);
    })
    now)

-- an init line
init_last : (done : List FullLine) (x : FullLine) (s t v : ℕ) (minuses : List Bool) → x.says ≡ form (body.Init s t v) minuses → init_of (done ++ x ∷ []) t ≡ None → ⊥
init_last done x s t v minuses says none = by (init_of done t) (sym (init_of_behind done x t ∙ ap (option_or (init_of done t)) (ap (init_by t) says ∙ own_cond t (Some (second v minuses)) None)) ∙ none)
  where
    by : (o : Option Operand) → option_or o (Some (second v minuses)) ≡ None → ⊥
    by None e = none-some (second v minuses) (sym e)
    by (Some u) e = none-some u (sym e)

init_not : (full done : List FullLine) (x : FullLine) (s t v : ℕ) (minuses : List Bool) → x.says ≡ form (body.Init s t v) minuses → (way_of full t ≡ way.First → ⊥) → (init_of (done ++ x ∷ []) t ≡ None) ⊎ (way_of full t ≡ way.First) → ⊥
init_not full done x s t v minuses says other (inl none) = init_last done x s t v minuses says none
init_not full done x s t v minuses says other (inr first) = other first

init_written : (full : List FullLine) (w : Writing) (items : List Item) (k : ℕ) (x : FullLine) (s t v : ℕ) (minuses : List Bool) → IsFullModel full → slice_get full k ≡ Some x → x.says ≡ form (body.Init s t v) minuses → StandsAt full (take k full) w
    → (way_of full t ≡ way.First → ⊥) → PutBehind full w items (IsInitOf full t (operand v (minus_at minuses 1)) (leaf_at full w t)) → StandsAt full (take (k + 1) full) (with_items w items)
init_written full w items k x s t v minuses m is says h other put =
    let between = with_items w put.between in
    let b = body.Init put.of.sort (leaf_at full w t) put.of.node in
    let e = put.is ∙ ap (λ (b : Body). put.between ++ named put.id put.symbol b ∷ []) put.of.is in
    let known = init_known full k x s t v minuses m is says in
    let now = at_grows full (take k full) w put.between put.grows h in
    front_more full (with_items w items) k x is
    (at_behind full (take k full) between items x (form (body.Init s t v) minuses) put.id put.symbol (body.Init put.of.sort (leaf_at full w t) put.of.node) e refl says
    (record {
      init = λ way. record {
        word = put.of.word;
        begins =
            ap (λ (l : List Item). init_word l (leaf_at full w t)) e
            ∙ ap (option_and_then (constant_of (put.between ++ named put.id put.symbol (body.Init put.of.sort (leaf_at full w t) put.of.node) ∷ [])))
            (init_behind put.between put.id put.symbol (body.Init put.of.sort (leaf_at full w t) put.of.node) (leaf_at full w t)
            ∙ ap₂ (λ (o q : Option ℕ). option_or o q) (now.late.no_init t known.state (inl known.free)) (own_cond (leaf_at full w t) (Some put.of.node) None))
            ∙ constant_of-append put.between (named put.id put.symbol (body.Init put.of.sort (leaf_at full w t) put.of.node) ∷ []) put.of.node put.of.word put.of.begins;
        constant = λ p wide g.
            subst (λ (o : Operand). InFrames wide (λ f. first_word full (read_by p f) t o ≡ put.of.word)) (sym (second_by v minuses))
            (put.of.constant p wide (goes_back full between items (named put.id put.symbol (body.Init put.of.sort (leaf_at full w t) put.of.node) ∷ []) p wide e g));
      };
      next = tt;
      no_init = λ u names none.
          other_cond (leaf_at full w u) (leaf_at full w t) put.of.node
          (λ same. init_not full (take k full) x s t v minuses says other
          (subst (λ (i : ℕ). (init_of (take k full ++ x ∷ []) i ≡ None) ⊎ (way_of full i ≡ way.First)) (leaves_apart full w u t h.leaves names known.state same) none));
      no_next = λ u names none. refl;
      bad = inl (refl, refl);
      constraint = inl (refl, refl);
      output = inl (refl, refl);
    })
    now)

pub init_done : (full : List FullLine) (w : Writing) (items : List Item) (k : ℕ) (x : FullLine) (s t v : ℕ) (minuses : List Bool) → IsFullModel full → slice_get full k ≡ Some x → x.says ≡ form (body.Init s t v) minuses → StandsAt full (take k full) w
    → InitIsPut full w items t (operand v (minus_at minuses 1)) → StandsAt full (take (k + 1) full) (with_items w items)
init_done full w items k x s t v minuses m is says h put = by (way_cases (way_of full t))
  where
    by : (way_of full t ≡ way.First) ⊎ (way_of full t ≡ way.First → ⊥) → StandsAt full (take (k + 1) full) (with_items w items)
    by (inl first) =
        let same = put.by_first first in
        subst (λ (l : List Item). StandsAt full (take (k + 1) full) (with_items w l)) (sym same)
        (at_nothing full w k x is (subst (AtInit (InitStands full w)) (sym says) (λ other. absurd (other first))) (subst (AtNext (NextStands full w)) (sym says) tt)
        (ap (is_form is_bad) says) (ap (is_form is_constraint) says) (ap (is_form is_output) says) h)
    by (inr other) = init_written full w items k x s t v minuses m is says h other (put.by_constant other)
