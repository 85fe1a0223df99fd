-- What stands of the leaves, and of the lines without a value, stands when a writing grows.
use Rattle.std.proofs.Common.{◌≡◌, ℕ, suc, arith, Bool, true, false, cond, List, [], ◌∷◌, ◌++◌, length, map, flat_map, slice_get, Option, Some, None, option_and_then, append-nil, refl, sym, ap, ap₂, subst, ◌∙◌}
use Rattle.std.specs.List.{AllByRecursion, AllZip}
use Rattle.std.specs.Option.{option_or}
use Rattle.std.proofs.lemmas.Option.{none-some}
use Rattle.btor2.specs.declared.item.Item.{Item}
use Rattle.btor2.specs.declared.item.Body.{Body}
use Rattle.btor2.specs.declared.item.Body.TheVariants as body
use Rattle.btor2.specs.Items.{is_input, is_state, is_bad, is_constraint, operands, constant_of, init_for, next_for, init_value, init_word, next_value}
use Rattle.btor2.specs.Lists.{of_kind}
use Rattle.btor2.specs.Reachability.{nodes_of}
use Rattle.btor2.proofs.AppendLemmas.{constant_of-append, then_parts}
use Rattle.btor2.proofs.ConstantLemmas.{init_value-after}
use Rattle.full.specs.Lines.{Operand, FullLine, is_form, full_nodes, AtInit, AtNext}
use Rattle.full.specs.Runs.{at_place}
use Rattle.full.specs.WrittenOut.{HasWord, Stands, is_output}
use Rattle.full.proofs.ListLemmas.{all_with, all_join}
use Rattle.full.proofs.FullLookUps.{at_init, at_next}
use Rattle.cells.specs.Lines.{is_plain, ArePlain}
use Rattle.writeout.specs.Faults.{is_live_body, NoneIsLiveItem}
use Rattle.writeout.specs.Writings.{Writing, Settled, with_items, Grows}
use Rattle.writeout.specs.Leaves.{leaf_at, of_kind_lines, InputStands, IsLeaf, FirstIsWritten, LeavesWritten}
use Rattle.writeout.specs.Late.{BeginsSo, InitStands, NextStands, PropertiesStand, LateWritten}
use Rattle.writeout.proofs.GrowLemmas.{Keeps, goes_with}
use Rattle.writeout.proofs.EndLemmas.{zip_with}
use Rattle.writeout.proofs.LongerLemmas.{goes_back, stands_on}

-- ---- lists that are followed by more

pub init_value-on : (before more : List Item) (id v : ℕ) → init_value before id ≡ Some v → init_value (before ++ more) id ≡ Some v
init_value-on [] more id v h = absurd (none-some v h)
init_value-on (x ∷ xs) more id v h = by (init_for id x.body) (init_value-on xs more id v) h
  where
    by : (o : Option ℕ) → (init_value xs id ≡ Some v → init_value (xs ++ more) id ≡ Some v) → option_or o (init_value xs id) ≡ Some v → option_or o (init_value (xs ++ more) id) ≡ Some v
    by None rest e = rest e
    by (Some u) rest e = e

pub next_value-on : (before more : List Item) (id v : ℕ) → next_value before id ≡ Some v → next_value (before ++ more) id ≡ Some v
next_value-on [] more id v h = absurd (none-some v h)
next_value-on (x ∷ xs) more id v h = by (next_for id x.body) (next_value-on xs more id v) h
  where
    by : (o : Option ℕ) → (next_value xs id ≡ Some v → next_value (xs ++ more) id ≡ Some v) → option_or o (next_value xs id) ≡ Some v → option_or o (next_value (xs ++ more) id) ≡ Some v
    by None rest e = rest e
    by (Some u) rest e = e

pub next_value-after : (before more : List Item) (id : ℕ) → next_value before id ≡ None → next_value (before ++ more) id ≡ next_value more id
next_value-after [] more id h = refl
next_value-after (x ∷ xs) more id h = by (next_for id x.body) (next_value-after xs more id) h
  where
    by : (o : Option ℕ) → (next_value xs id ≡ None → next_value (xs ++ more) id ≡ next_value more id) → option_or o (next_value xs id) ≡ None → option_or o (next_value (xs ++ more) id) ≡ next_value more id
    by None rest e = rest e
    by (Some v) rest e = absurd (none-some v (sym e))

pub init_word-on : (before more : List Item) (id v : ℕ) → init_word before id ≡ Some v → init_word (before ++ more) id ≡ Some v
init_word-on before more id v h =
    let parts = then_parts (constant_of before) (init_value before id) v h in
    ap (option_and_then (constant_of (before ++ more))) (init_value-on before more id parts.0 parts.1) ∙ constant_of-append before more parts.0 v parts.2

-- the items of a kind are those of the front, where there are none behind
pub kind_none : (kind : Body → Bool) (more : List Item) → AllByRecursion (λ (y : Item). kind y.body ≡ false) more → of_kind kind more ≡ []
kind_none kind [] h = refl
kind_none kind (y ∷ ys) h = ap (λ (b : Bool). cond b (y ∷ of_kind kind ys) (of_kind kind ys)) h.0 ∙ kind_none kind ys h.1

pub kind_join : (kind : Body → Bool) (xs more : List Item) → of_kind kind (xs ++ more) ≡ of_kind kind xs ++ of_kind kind more
kind_join kind [] more = refl
kind_join kind (x ∷ xs) more = by (kind x.body) (kind_join kind xs more)
  where
    by : (b : Bool) → of_kind kind (xs ++ more) ≡ of_kind kind xs ++ of_kind kind more → cond b (x ∷ of_kind kind (xs ++ more)) (of_kind kind (xs ++ more)) ≡ cond b (x ∷ of_kind kind xs) (of_kind kind xs) ++ of_kind kind more
    by true e = ap (λ (l : List Item). x ∷ l) e
    by false e = e

pub kind_on : (kind : Body → Bool) (items before more : List Item) → items ≡ before ++ more → AllByRecursion (λ (y : Item). kind y.body ≡ false) more → of_kind kind items ≡ of_kind kind before
kind_on kind items before more e none =
    ap (of_kind kind) e ∙ kind_join kind before more ∙ ap (λ (l : List Item). of_kind kind before ++ l) (kind_none kind more none) ∙ append-nil (of_kind kind before)

-- ---- leaves

-- a line that is no leaf
abbrev pub IsNoLeaf : Body → Type 0
IsNoLeaf b = (is_input b ≡ false) × (is_state b ≡ false)

abbrev pub AreNoLeaves : List Item → Type 0
AreNoLeaves items = AllByRecursion (λ (y : Item). IsNoLeaf y.body) items

pub no_leaf : (full : List FullLine) (w : Writing) (a : ℕ) (b : Body) → is_state b ≡ false → IsLeaf full w a b
no_leaf full w a (body.State s) h = absurd (cc)
no_leaf full w a _ h = tt

pub first_written_on : (w : Writing) (items more : List Item) → items ≡ w.items ++ more → FirstIsWritten w → FirstIsWritten (with_items w items)
first_written_on w items more e h = record {
  sort = h.sort;
  state = subst (λ (l : List Item). Stands l w.first (body.State h.sort)) (sym e) (stands_on w.items more w.first (body.State h.sort) h.state);
  one = h.one;
  init = ap (λ (l : List Item). init_value l w.first) e ∙ init_value-on w.items more w.first h.one h.init;
  is_one = ap (λ (l : List Item). constant_of l h.one) e ∙ constant_of-append w.items more h.one 1 h.is_one;
  zero = h.zero;
  next = ap (λ (l : List Item). next_value l w.first) e ∙ next_value-on w.items more w.first h.zero h.next;
  is_zero = ap (λ (l : List Item). constant_of l h.zero) e ∙ constant_of-append w.items more h.zero 0 h.is_zero;
}

-- the leaves stand whatever else the list gets
pub leaves_on : (full : List FullLine) (w : Writing) (items more : List Item) → items ≡ w.items ++ more → AreNoLeaves more → LeavesWritten full w → LeavesWritten full (with_items w items)
leaves_on full w items more e others h = record {
  source = h.source;
  inputs = λ k x is input.
      let own = h.inputs k x is input in
      record {
        given = own.given;
        sort = own.sort;
        input = subst (λ (l : List Item). Stands l (at_place w.nodes k) (body.Input own.sort)) (sym e) (stands_on w.items more (at_place w.nodes k) (body.Input own.sort) own.input);
        own = own.own;
      };
  in_order = h.in_order
      ∙ ap (map (λ (y : Item). y.id)) (sym (kind_on is_input items w.items more e (all_with (λ (y : Item). IsNoLeaf y.body) (λ (y : Item). is_input y.body ≡ false) more (λ y no. no.0) others)));
  states_in_order = h.states_in_order
      ∙ ap (map (λ (y : Item). y.id)) (sym (kind_on is_state items w.items more e (all_with (λ (y : Item). IsNoLeaf y.body) (λ (y : Item). is_state y.body ≡ false) more (λ y no. no.1) others)));
  states = h.states;
  no_others = subst (λ (l : List Item). AllByRecursion (λ (y : Item). IsLeaf full (with_items w items) y.id y.body) l) (sym e)
      (all_join (λ (y : Item). IsLeaf full (with_items w items) y.id y.body) w.items more
      (all_with (λ (y : Item). IsLeaf full w y.id y.body) (λ (y : Item). IsLeaf full (with_items w items) y.id y.body) w.items (λ y. leaf_still y.id y.body) h.no_others)
      (all_with (λ (y : Item). IsNoLeaf y.body) (λ (y : Item). IsLeaf full (with_items w items) y.id y.body) more (λ y no. no_leaf full (with_items w items) y.id y.body no.1) others));
  first = λ given. first_written_on w items more e (h.first given);
}
  where
    leaf_still : (a : ℕ) (b : Body) → IsLeaf full w a b → IsLeaf full (with_items w items) a b
    leaf_still a (body.State s) h = h
    leaf_still a _ h = tt

-- what a plain line is not
record IsPlainOnly (b : Body) : Type 0 where
  input : is_input b ≡ false
  state : is_state b ≡ false
  init : (id : ℕ) → init_for id b ≡ None
  next : (id : ℕ) → next_for id b ≡ None
  bad : is_bad b ≡ false
  constraint : is_constraint b ≡ false
  output : is_output b ≡ false
  live : is_live_body b ≡ false

plain_only : (b : Body) → is_plain b ≡ true → IsPlainOnly b
plain_only (body.Input s) h = absurd (cc)
plain_only (body.State s) h = absurd (cc)
plain_only (body.Init s t v) h = absurd (cc)
plain_only (body.Next s t v) h = absurd (cc)
plain_only (body.Bad a) h = absurd (cc)
plain_only (body.Constraint a) h = absurd (cc)
plain_only (body.Output a) h = absurd (cc)
plain_only (body.Fair a) h = absurd (cc)
plain_only (body.Justice ns) h = absurd (cc)
plain_only _ h = record { input = refl; state = refl; init = λ id. refl; next = λ id. refl; bad = refl; constraint = refl; output = refl; live = refl }

are_only : (more : List Item) → ArePlain more → AllByRecursion (λ (y : Item). IsPlainOnly y.body) more
are_only more plain = all_with (λ (y : Item). is_plain y.body ≡ true) (λ (y : Item). IsPlainOnly y.body) more (λ y. plain_only y.body) plain

pub plain_no_leaves : (more : List Item) → ArePlain more → AreNoLeaves more
plain_no_leaves more plain = all_with (λ (y : Item). IsPlainOnly y.body) (λ (y : Item). IsNoLeaf y.body) more (λ y only. (only.input, only.state)) (are_only more plain)

pub leaves_grow : (full : List FullLine) (w : Writing) (items : List Item) → Grows full w items → LeavesWritten full w → LeavesWritten full (with_items w items)
leaves_grow full w items g h = leaves_on full w items g.more g.is (plain_no_leaves g.more g.plain) h

-- ---- lines without a value

no_inits : (more : List Item) (id : ℕ) → AllByRecursion (λ (y : Item). IsPlainOnly y.body) more → init_value more id ≡ None
no_inits [] id h = refl
no_inits (y ∷ ys) id h = ap (λ (o : Option ℕ). option_or o (init_value ys id)) (h.0.init id) ∙ no_inits ys id h.1

no_nexts : (more : List Item) (id : ℕ) → AllByRecursion (λ (y : Item). IsPlainOnly y.body) more → next_value more id ≡ None
no_nexts [] id h = refl
no_nexts (y ∷ ys) id h = ap (λ (o : Option ℕ). option_or o (next_value ys id)) (h.0.next id) ∙ no_nexts ys id h.1

pub no_inits_of : (more : List Item) (id : ℕ) → ArePlain more → init_value more id ≡ None
no_inits_of more id plain = no_inits more id (are_only more plain)

pub no_nexts_of : (more : List Item) (id : ℕ) → ArePlain more → next_value more id ≡ None
no_nexts_of more id plain = no_nexts more id (are_only more plain)

pub begins_on : (full : List FullLine) (w : Writing) (items more : List Item) (id : ℕ) (o : Operand) → items ≡ w.items ++ more → BeginsSo full w id o → BeginsSo full (with_items w items) id o
begins_on full w items more id o e h = record {
  word = h.word;
  begins = ap (λ (l : List Item). init_word l (leaf_at full w id)) e ∙ init_word-on w.items more (leaf_at full w id) h.word h.begins;
  constant = λ p wide g. h.constant p wide (goes_back full w items more p wide e g);
}

pub next_stands_on : (full : List FullLine) (w : Writing) (items more : List Item) (id : ℕ) (o : Operand) → items ≡ w.items ++ more → NextStands full w id o → NextStands full (with_items w items) id o
next_stands_on full w items more id o e h = record {
  node = h.node;
  takes = ap (λ (l : List Item). next_value l (leaf_at full w id)) e ∙ next_value-on w.items more (leaf_at full w id) h.node h.takes;
  word = λ p wide g. h.word p wide (goes_back full w items more p wide e g);
}

-- the init and the next lines of a front stand whatever else the list gets
pub inits_on : (full done : List FullLine) (w : Writing) (items more : List Item) → items ≡ w.items ++ more → AllByRecursion (λ (x : FullLine). AtInit (InitStands full w) x.says) done
    → AllByRecursion (λ (x : FullLine). AtInit (InitStands full (with_items w items)) x.says) done
inits_on full done w items more e h =
    all_with (λ (x : FullLine). AtInit (InitStands full w) x.says) (λ (x : FullLine). AtInit (InitStands full (with_items w items)) x.says) done
    (λ x. at_init (InitStands full w) (InitStands full (with_items w items)) x.says (λ t o stands other. begins_on full w items more t o e (stands other))) h

pub nexts_on : (full done : List FullLine) (w : Writing) (items more : List Item) → items ≡ w.items ++ more → AllByRecursion (λ (x : FullLine). AtNext (NextStands full w) x.says) done
    → AllByRecursion (λ (x : FullLine). AtNext (NextStands full (with_items w items)) x.says) done
nexts_on full done w items more e h =
    all_with (λ (x : FullLine). AtNext (NextStands full w) x.says) (λ (x : FullLine). AtNext (NextStands full (with_items w items)) x.says) done
    (λ x. at_next (NextStands full w) (NextStands full (with_items w items)) x.says (λ t o. next_stands_on full w items more t o e)) h

-- so do properties, where the list gets none of their kind
pub properties_on : (full done : List FullLine) (w : Writing) (items more : List Item) (kind : Body → Bool) → items ≡ w.items ++ more → AllByRecursion (λ (y : Item). kind y.body ≡ false) more
    → PropertiesStand full done w kind → PropertiesStand full done (with_items w items) kind
properties_on full done w items more kind e none h =
    subst (λ (l : List Item). AllZip (λ o a. Settled full (with_items w items) (λ p wide. HasWord full p wide o a)) (full_nodes kind done) (flat_map (λ (y : Item). operands y.body) l)) (sym (kind_on kind items w.items more e none))
    (zip_with (λ o a. Settled full w (λ p wide. HasWord full p wide o a)) (λ o a. Settled full (with_items w items) (λ p wide. HasWord full p wide o a)) (full_nodes kind done) (nodes_of kind w.items)
    (λ o a settled p wide g. settled p wide (goes_back full w items more p wide e g)) h)

pub late_grow : (full done : List FullLine) (w : Writing) (items : List Item) → Grows full w items → LateWritten full done w → LateWritten full done (with_items w items)
late_grow full done w items g h =
    let only = are_only g.more g.plain in
    record {
      inits = inits_on full done w items g.more g.is h.inits;
      nexts = nexts_on full done w items g.more g.is h.nexts;
      no_init = λ id names none.
          ap (λ (l : List Item). init_value l (leaf_at full w id)) g.is ∙ init_value-after w.items g.more (leaf_at full w id) (h.no_init id names none) ∙ no_inits g.more (leaf_at full w id) only;
      no_next = λ id names none.
          ap (λ (l : List Item). next_value l (leaf_at full w id)) g.is ∙ next_value-after w.items g.more (leaf_at full w id) (h.no_next id names none) ∙ no_nexts g.more (leaf_at full w id) only;
      bads = properties_on full done w items g.more is_bad g.is (all_with (λ (y : Item). IsPlainOnly y.body) (λ (y : Item). is_bad y.body ≡ false) g.more (λ y own. own.bad) only) h.bads;
      constraints = properties_on full done w items g.more is_constraint g.is (all_with (λ (y : Item). IsPlainOnly y.body) (λ (y : Item). is_constraint y.body ≡ false) g.more (λ y own. own.constraint) only) h.constraints;
      outputs = properties_on full done w items g.more is_output g.is (all_with (λ (y : Item). IsPlainOnly y.body) (λ (y : Item). is_output y.body ≡ false) g.more (λ y own. own.output) only) h.outputs;
      forms = subst NoneIsLiveItem (sym g.is)
          (all_join (λ (y : Item). is_live_body y.body ≡ false) w.items g.more h.forms (all_with (λ (y : Item). IsPlainOnly y.body) (λ (y : Item). is_live_body y.body ≡ false) g.more (λ y own. own.live) only));
    }

-- ---- nodes at places that have none

inputs_with : (xs : List FullLine) (old new : List ℕ) → length new ≡ length old → ((k : ℕ) (x : FullLine) → slice_get xs k ≡ Some x → is_form is_input x.says ≡ true → at_place new k ≡ at_place old k)
    → of_kind_lines is_input xs new ≡ of_kind_lines is_input xs old
inputs_with [] old new e h = refl
inputs_with (x ∷ xs) [] [] e h = refl
inputs_with (x ∷ xs) [] (a ∷ new) e h = absurd (cc)
inputs_with (x ∷ xs) (b ∷ old) [] e h = absurd (cc)
inputs_with (x ∷ xs) (b ∷ old) (a ∷ new) e h = by (is_form is_input x.says) refl (inputs_with xs old new (grind (arith, e)) (λ k y is. h (suc k) y is))
  where
    by : (t : Bool) → is_form is_input x.says ≡ t → of_kind_lines is_input xs new ≡ of_kind_lines is_input xs old → cond t (a ∷ of_kind_lines is_input xs new) (of_kind_lines is_input xs new) ≡ cond t (b ∷ of_kind_lines is_input xs old) (of_kind_lines is_input xs old)
    by true input rest = ap₂ ◌∷◌ (h 0 x refl input) rest
    by false input rest = rest

pub leaves_with : (full : List FullLine) (w : Writing) (nodes : List ℕ) → length nodes ≡ length w.nodes → Keeps w.nodes nodes → LeavesWritten full w → LeavesWritten full (record w { nodes = nodes })
leaves_with full w nodes same keeps h = record {
  source = h.source;
  inputs = λ k x is input.
      let own = h.inputs k x is input in
      let there = sym (keeps k own.given) in
      subst (λ (a : ℕ). InputStands (record w { nodes = nodes }) h.source x a) there (record { given = own.given; sort = own.sort; input = own.input; own = own.own });
  in_order = inputs_with full w.nodes nodes same (λ k x is input. keeps k (h.inputs k x is input).given) ∙ h.in_order;
  states_in_order = h.states_in_order;
  states = h.states;
  no_others = all_with (λ (y : Item). IsLeaf full w y.id y.body) (λ (y : Item). IsLeaf full (record w { nodes = nodes }) y.id y.body) w.items (λ y. leaf_still y.id y.body) h.no_others;
  first = λ given.
      let own = h.first given in
      record { sort = own.sort; state = own.state; one = own.one; init = own.init; is_one = own.is_one; zero = own.zero; next = own.next; is_zero = own.is_zero };
}
  where
    leaf_still : (a : ℕ) (b : Body) → IsLeaf full w a b → IsLeaf full (record w { nodes = nodes }) a b
    leaf_still a (body.State s) h = h
    leaf_still a _ h = tt

pub late_with : (full done : List FullLine) (w : Writing) (nodes : List ℕ) → Keeps w.nodes nodes → LateWritten full done w → LateWritten full done (record w { nodes = nodes })
late_with full done w nodes keeps h = record {
  inits = all_with (λ (x : FullLine). AtInit (InitStands full w) x.says) (λ (x : FullLine). AtInit (InitStands full (record w { nodes = nodes })) x.says) done
      (λ x. at_init (InitStands full w) (InitStands full (record w { nodes = nodes })) x.says
      (λ t o stands other. let own = stands other in record { word = own.word; begins = own.begins; constant = λ p wide g. own.constant p wide (goes_with full w nodes p wide keeps g) })) h.inits;
  nexts = all_with (λ (x : FullLine). AtNext (NextStands full w) x.says) (λ (x : FullLine). AtNext (NextStands full (record w { nodes = nodes })) x.says) done
      (λ x. at_next (NextStands full w) (NextStands full (record w { nodes = nodes })) x.says
      (λ t o own. record { node = own.node; takes = own.takes; word = λ p wide g. own.word p wide (goes_with full w nodes p wide keeps g) })) h.nexts;
  no_init = h.no_init;
  no_next = h.no_next;
  bads = properties is_bad h.bads;
  constraints = properties is_constraint h.constraints;
  outputs = properties is_output h.outputs;
  forms = h.forms;
}
  where
    properties : (kind : Body → Bool) → PropertiesStand full done w kind → PropertiesStand full done (record w { nodes = nodes }) kind
    properties kind stand =
        zip_with (λ o a. Settled full w (λ p wide. HasWord full p wide o a)) (λ o a. Settled full (record w { nodes = nodes }) (λ p wide. HasWord full p wide o a)) (full_nodes kind done) (nodes_of kind w.items)
        (λ o a settled p wide g. settled p wide (goes_with full w nodes p wide keeps g)) stand
