-- The nodes of all lines.
use Rattle.std.proofs.Common.{◌≡◌, inl, inr, ℕ, ◌<◌, Bool, true, false, cond, ap₂, List, [], ◌∷◌, length, slice_get, map, Some, is_some, refl, sym, ap, subst, subst₂, ◌∙◌}
use Rattle.std.specs.List.{AllByRecursion}
use Rattle.std.proofs.lemmas.Bool.{false≢true}
use Rattle.btor2.specs.declared.item.Item.{Item}
use Rattle.btor2.specs.declared.item.Body.{Body}
use Rattle.btor2.specs.declared.item.Body.TheVariants as body
use Rattle.btor2.specs.Items.{node_sort, node_width, operands, is_input, is_state}
use Rattle.btor2.proofs.AppendLemmas.{node_width-append}
use Rattle.wide.specs.declared.constant.Spelling.{Spelling}
use Rattle.wide.specs.declared.constant.Spelling.TheVariants as spelling
use Rattle.wide.specs.Lines.{constant_body}
use Rattle.full.specs.Lines.{Operand, Says, form, FullLine, operands_of, is_form, sort_named, width_of, init_of}
use Rattle.full.specs.Agreement.{IsFullModel}
use Rattle.full.specs.Runs.{at_place}
use Rattle.full.proofs.GivesLemmas.{carried_state}
use Rattle.writeout.specs.declared.way.Way.{Way}
use Rattle.writeout.specs.declared.way.Way.TheVariants as way
use Rattle.writeout.specs.Ways.{way_of, is_first}
use Rattle.writeout.specs.Forms.{is_value, renamed, minus_at}
use Rattle.writeout.specs.Needs.{place_of, first_ids, needed}
use Rattle.writeout.specs.Writings.{Writing, IsGiven, with_items, Grows}
use Rattle.writeout.specs.Nodes.{OperandStands, LeafStands, NodesStand, IsLine, IsMade, IsWritten, OperandsDone, NeedsDone, IsPutAt}
use Rattle.writeout.proofs.FormLemmas.{AtPlace}
use Rattle.std.proofs.Common.{set}
use Rattle.std.proofs.lemmas.List.{set-get_or}
use Rattle.std.proofs.lemmas.Option.{same_Some, unwrap_or-slice_get, slice_get_within}
use Rattle.writeout.proofs.GrowLemmas.{grows_by_nothing, nodes_set, nodes_on, keeps_set, set_here}
use Rattle.writeout.proofs.NodeLemmas.{FormReady}
use Rattle.writeout.proofs.ChoiceLemmas.{state_no_constant}

-- ---- constants in digits

pub constant_value : (p : Spelling) (s count v : ℕ) → is_value (constant_body p s count v) ≡ true
constant_value spelling.Binary s count v = refl
constant_value spelling.Decimal s count v = refl
constant_value spelling.Negative s count v = refl
constant_value spelling.Hexadecimal s count v = refl

constant_at : (P : ℕ → Type 0) (p : Spelling) (s count v k : ℕ) → AtPlace (operands (constant_body p s count v)) k P
constant_at P spelling.Binary s count v k = tt
constant_at P spelling.Decimal s count v k = tt
constant_at P spelling.Negative s count v k = tt
constant_at P spelling.Hexadecimal s count v k = tt

pub constant_renamed : (p : Spelling) (r s count v : ℕ) → constant_body p r count v ≡ renamed r 0 0 0 (constant_body p s count v)
constant_renamed spelling.Binary r s count v = refl
constant_renamed spelling.Decimal r s count v = refl
constant_renamed spelling.Negative r s count v = refl
constant_renamed spelling.Hexadecimal r s count v = refl

pub constant_ready : (full : List FullLine) (w : Writing) (t : FullLine) (p : Spelling) (s count v : ℕ) → IsFullModel full → IsLine full t → t.says ≡ form (constant_body p s count v) [] → NodesStand full w → FormReady full w t (constant_body p s count v) [] 0 0 0
constant_ready full w t p s count v model line says stands = record {
  model = model;
  line = line;
  says = says;
  value = constant_value p s count v;
  stands = stands;
  at0 = constant_at (λ a. OperandStands full w (record { id = a; minus = minus_at [] 0 }) 0) p s count v 0;
  at1 = constant_at (λ a. OperandStands full w (record { id = a; minus = minus_at [] 1 }) 0) p s count v 1;
  at2 = constant_at (λ a. OperandStands full w (record { id = a; minus = minus_at [] 2 }) 0) p s count v 2;
}

-- ---- states

pub first_yes : (y : Way) → is_first y ≡ true → y ≡ way.First
first_yes way.First h = refl
first_yes way.Open h = absurd (false≢true h)
first_yes way.Constant h = absurd (false≢true h)
first_yes way.Zeros h = absurd (false≢true h)
first_yes way.Ones h = absurd (false≢true h)

pub first_no : (y : Way) → is_first y ≡ false → y ≡ way.First → ⊥
first_no y h e = false≢true (sym h ∙ ap is_first e)

-- a state that is its own node
pub leaf_made : (full : List FullLine) (w : Writing) (t : FullLine) (place leaf : ℕ) → NodesStand full w → slice_get full place ≡ Some t → is_form is_state t.says ≡ true → leaf ≡ at_place w.leaves place → (way_of full t.id ≡ way.First → ⊥)
    → IsMade full w w.items t leaf leaf
leaf_made full w t place leaf stands at state is none = record {
  node = record {
    width = own.width;
    carried = λ p wide g here.
        carried_state full p wide t g.model state
        (subst₂ (λ (l : List Item) (n : ℕ). node_width l n ≡ Some (width_of full t.id)) (sym g.is) (sym here) (node_width-append w.items g.more leaf (width_of full t.id) own.width));
    other = own.other;
    constant = state_no_constant full w t.id leaf t.says state;
    state = λ yes. record { as_it_is = λ other. refl; by_first = λ by. absurd (none by) };
  };
  given = own.given;
  grows = grows_by_nothing full w;
}
  where
    own : LeafStands full w t leaf
    own = subst (LeafStands full w t) (sym is) (stands.leaves place t at state)

-- ---- needs

pub needs_first : (full : List FullLine) (w : Writing) (x : FullLine) (o : Operand) → is_form is_state x.says ≡ true → way_of full x.id ≡ way.First → init_of full x.id ≡ Some o → NeedsDone full w x → IsGiven (at_place w.nodes (place_of full o.id))
needs_first full w x o state by init done =
    let P : List ℕ → Type 0 = λ (l : List ℕ). AllByRecursion (λ a. IsGiven (at_place w.nodes (place_of full a))) l in
    let here : needed full x ≡ o.id ∷ [] = by_state (is_form is_state x.says) (first_ids (way_of full x.id) (init_of full x.id)) _ state ∙ ap₂ first_ids by init in
    (subst P here done).0
  where
    by_state : (b : Bool) (l m : List ℕ) → b ≡ true → cond b l m ≡ l
    by_state true l m e = refl
    by_state false l m e = absurd (false≢true e)

ids_done : (P : ℕ → Type 0) (os : List Operand) → AllByRecursion P (map (λ (o : Operand). o.id) os) → AllByRecursion (λ (o : Operand). P o.id) os
ids_done P [] h = tt
ids_done P (o ∷ os) h = (h.0, ids_done P os h.1)

pub needs_operands : (full : List FullLine) (w : Writing) (x : FullLine) → is_form is_state x.says ≡ false → is_some (sort_named x.says) ≡ true → NeedsDone full w x → OperandsDone full w x.says
needs_operands full w x no_state named done =
    let P : List ℕ → Type 0 = λ (l : List ℕ). AllByRecursion (λ a. IsGiven (at_place w.nodes (place_of full a))) l in
    ids_done (λ a. IsGiven (at_place w.nodes (place_of full a))) (operands_of x.says) (subst P (by (is_form is_state x.says) (is_some (sort_named x.says)) _ _ no_state named) done)
  where
    by : (b c : Bool) (l m : List ℕ) → b ≡ false → c ≡ true → cond b l (cond c m []) ≡ m
    by true c l m e f = absurd (false≢true (sym e))
    by false false l m e f = absurd (false≢true f)
    by false true l m e f = refl

-- ---- forms

pub value_named : (b : Body) (minuses : List Bool) (says : Says) → says ≡ form b minuses → is_value b ≡ true → (is_form is_state says ≡ false) × (is_some (sort_named says) ≡ true)
value_named b minuses says e value = (ap (is_form is_state) e ∙ no_state b value, ap (λ (c : Says). is_some (sort_named c)) e ∙ named b value)
  where
    no_state : (b : Body) → is_value b ≡ true → is_state b ≡ false
    no_state (body.State s) value = absurd (false≢true value)
    no_state _ value = refl

    named : (b : Body) → is_value b ≡ true → is_some (node_sort b) ≡ true
    named (body.Zero s) value = refl
    named (body.One s) value = refl
    named (body.Ones s) value = refl
    named (body.Const s d v) value = refl
    named (body.Constd s v) value = refl
    named (body.Consth s d v) value = refl
    named (body.Uext s a by) value = refl
    named (body.Sext s a by) value = refl
    named (body.Slice s a u l) value = refl
    named (body.Unary op s a) value = refl
    named (body.Binary op s a b) value = refl
    named (body.Concat s a b) value = refl
    named (body.Ite s c t e) value = refl
    named _ value = absurd (cc)

pub other_form : (b : Body) (minuses : List Bool) (says : Says) → says ≡ form b minuses → is_value b ≡ false → is_state b ≡ false → is_some (sort_named says) ≡ true → is_form is_input says ≡ true
other_form b minuses says e no_value no_state named = ap (is_form is_input) e ∙ by b no_value no_state (sym (ap (λ (c : Says). is_some (sort_named c)) e) ∙ named)
  where
    by : (b : Body) → is_value b ≡ false → is_state b ≡ false → is_some (node_sort b) ≡ true → is_input b ≡ true
    by (body.Input s) v t n = refl
    by (body.State s) v t n = absurd (false≢true (sym t))
    by (body.Zero s) v t n = absurd (false≢true (sym v))
    by (body.One s) v t n = absurd (false≢true (sym v))
    by (body.Ones s) v t n = absurd (false≢true (sym v))
    by (body.Const s d w) v t n = absurd (false≢true (sym v))
    by (body.Constd s w) v t n = absurd (false≢true (sym v))
    by (body.Consth s d w) v t n = absurd (false≢true (sym v))
    by (body.Uext s a k) v t n = absurd (false≢true (sym v))
    by (body.Sext s a k) v t n = absurd (false≢true (sym v))
    by (body.Slice s a u l) v t n = absurd (false≢true (sym v))
    by (body.Unary op s a) v t n = absurd (false≢true (sym v))
    by (body.Binary op s a c) v t n = absurd (false≢true (sym v))
    by (body.Concat s a c) v t n = absurd (false≢true (sym v))
    by (body.Ite s c d e) v t n = absurd (false≢true (sym v))
    by _ v t n = absurd (false≢true n)

-- ---- one line after the other

pub put_at : (full : List FullLine) (w : Writing) (items : List Item) (place : ℕ) (x : FullLine) (id : ℕ) → slice_get full place ≡ Some x → at_place w.nodes place ≡ 0 → NodesStand full w → IsWritten full w items x (at_place w.leaves place) id
    → IsPutAt full place w (record (with_items w items) { nodes = set w.nodes place id })
put_at full w items place x id at none stands (inl made) = record {
  stands = nodes_set full (with_items w items) place x id at none made.node (nodes_on full w items made.grows stands);
  kept = keeps_set w.nodes place id none;
  leaves = refl;
  first = refl;
  grows = made.grows;
  node = λ y at' named no_input. subst (λ (n : ℕ). IsGiven n) (sym (set_here w.nodes place id within)) made.given;
}
  where
    within : place < length w.nodes
    within = subst (λ (n : ℕ). place < n) (sym stands.nodes_length) (slice_get_within full place x at)
put_at full w items place x id at none stands (inr written) = record {
  stands = same_stands;
  kept = keeps_set w.nodes place id none;
  leaves = refl;
  first = refl;
  grows = subst (Grows full w) (sym written.1) (grows_by_nothing full w);
  node = λ y at' named no_input.
      let same : y ≡ x = same_Some y x (sym at' ∙ at) in
      absurd (false≢true (sym no_input ∙ ap (λ (z : FullLine). is_form is_input z.says) same ∙ written.2 (ap (λ (z : FullLine). is_some (sort_named z.says)) (sym same) ∙ named)));
}
  where
    nodes_same : (ns : List ℕ) (k n : ℕ) → at_place ns k ≡ 0 → n ≡ 0 → set ns k n ≡ ns
    nodes_same ns k n none e = ap (set ns k) (e ∙ sym none ∙ unwrap_or-slice_get ns k 0) ∙ set-get_or ns k 0

    same_stands : NodesStand full (record (with_items w items) { nodes = set w.nodes place id })
    same_stands = subst₂ (λ (l : List Item) (ns : List ℕ). NodesStand full (record (with_items w l) { nodes = ns })) (sym written.1) (sym (nodes_same w.nodes place id none written.0)) stands

pub put_nothing : (full : List FullLine) (w : Writing) (place : ℕ) → NodesStand full w → IsGiven (at_place w.nodes place) → IsPutAt full place w w
put_nothing full w place stands given = record { stands = stands; kept = λ k h. refl; leaves = refl; first = refl; grows = grows_by_nothing full w; node = λ x at named no_input. given }
