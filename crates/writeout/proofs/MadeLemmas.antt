-- The leaves of a front, and of one line more.
use Rattle.std.proofs.Common.{◌≡◌, ℕ, zero, suc, ◌+◌, ◌<◌, Bool, true, false, cond, ◌||◌, eqb, eq-eqb, eqb-true, List, [], ◌∷◌, ◌++◌, length, map, slice_get, Some, None, append_assoc, append-nil, length-append, refl, sym, ap, ap₂, subst, ◌∙◌, ◌⊎◌, inl, inr, arith}
use Rattle.std.specs.List.{AllByRecursion}
use Rattle.std.proofs.lemmas.List.{map-append}
use Rattle.std.proofs.lemmas.Bool.{false≢true}
use Rattle.std.proofs.lemmas.Option.{none-some, same_Some, slice_get_within}
use Rattle.btor2.specs.declared.item.Item.{Item}
use Rattle.btor2.specs.declared.item.Body.{Body}
use Rattle.btor2.specs.declared.item.Body.TheVariants as body
use Rattle.btor2.specs.Items.{find_item, is_input, is_state}
use Rattle.btor2.specs.Lists.{of_kind}
use Rattle.btor2.proofs.AppendLemmas.{find_item-append}
use Rattle.full.specs.Lines.{Says, form, FullLine, is_form, width_of}
use Rattle.full.specs.Runs.{at_place}
use Rattle.full.proofs.ListLemmas.{all_with, all_join}
use Rattle.cells.specs.Lines.{named, is_plain, ArePlain}
use Rattle.writeout.specs.declared.way.Way.TheVariants as way
use Rattle.writeout.specs.Ways.{way_of}
use Rattle.writeout.specs.Leaves.{of_kind_lines}
use Rattle.writeout.specs.Putting.{Adds, IsStateLeaf, PutsLeaf, LeafMade, IsStateOf, is_early, LeavesMade}
use Rattle.writeout.proofs.LeafLemmas.{kind_none, kind_join, plain_no_leaves, IsNoLeaf}
use Rattle.writeout.proofs.FirstLemmas.{line_stands, line_width, width_still, stands_still}
use Rattle.writeout.proofs.NodeLemmas.{id_given}

-- ---- lists with one more

pub push_cases : {A : Type 0} (front : List A) (x y : A) (k : ℕ) → slice_get (front ++ x ∷ []) k ≡ Some y → (slice_get front k ≡ Some y) ⊎ ((k ≡ length front) × (x ≡ y))
push_cases [] x y zero h = inr (refl, same_Some x y h)
push_cases [] x y (suc k) h = absurd (none-some y h)
push_cases (z ∷ zs) x y zero h = inl h
push_cases (z ∷ zs) x y (suc k) h = by (push_cases zs x y k h)
  where
    by : (slice_get zs k ≡ Some y) ⊎ ((k ≡ length zs) × (x ≡ y)) → (slice_get (z ∷ zs) (suc k) ≡ Some y) ⊎ ((suc k ≡ length (z ∷ zs)) × (x ≡ y))
    by (inl e) = inl e
    by (inr e) = inr (ap (λ (n : ℕ). suc n) e.0, e.1)

pub get_push : {A : Type 0} (front : List A) (x y : A) (k : ℕ) → slice_get front k ≡ Some y → slice_get (front ++ x ∷ []) k ≡ Some y
get_push [] x y k h = absurd (none-some y h)
get_push (z ∷ zs) x y zero h = h
get_push (z ∷ zs) x y (suc k) h = get_push zs x y k h

pub get_end : {A : Type 0} (front : List A) (x : A) → slice_get (front ++ x ∷ []) (length front) ≡ Some x
get_end [] x = refl
get_end (z ∷ zs) x = get_end zs x

pub at_push : (xs : List ℕ) (n k : ℕ) → k < length xs → at_place (xs ++ n ∷ []) k ≡ at_place xs k
at_push [] n k h = absurd (omega (arith, h))
at_push (z ∷ zs) n zero h = refl
at_push (z ∷ zs) n (suc k) h = at_push zs n k (grind (arith, h))

pub at_end : (xs : List ℕ) (n : ℕ) → at_place (xs ++ n ∷ []) (length xs) ≡ n
at_end [] n = refl
at_end (z ∷ zs) n = at_end zs n

kind_push : (kind : Body → Bool) (xs : List FullLine) (x : FullLine) (nodes : List ℕ) (a : ℕ) → length nodes ≡ length xs → of_kind_lines kind (xs ++ x ∷ []) (nodes ++ a ∷ []) ≡ of_kind_lines kind xs nodes ++ cond (is_form kind x.says) (a ∷ []) []
kind_push kind [] x [] a e = refl
kind_push kind [] x (b ∷ nodes) a e = absurd (cc)
kind_push kind (y ∷ ys) x [] a e = absurd (cc)
kind_push kind (y ∷ ys) x (b ∷ nodes) a e = by (is_form kind y.says) (kind_push kind ys x nodes a (grind (arith, e)))
  where
    by : (t : Bool) → of_kind_lines kind (ys ++ x ∷ []) (nodes ++ a ∷ []) ≡ of_kind_lines kind ys nodes ++ cond (is_form kind x.says) (a ∷ []) []
        → cond t (b ∷ of_kind_lines kind (ys ++ x ∷ []) (nodes ++ a ∷ [])) (of_kind_lines kind (ys ++ x ∷ []) (nodes ++ a ∷ [])) ≡ cond t (b ∷ of_kind_lines kind ys nodes) (of_kind_lines kind ys nodes) ++ cond (is_form kind x.says) (a ∷ []) []
    by true rest = ap (λ (l : List ℕ). b ∷ l) rest
    by false rest = rest

lengths_push : (xs : List ℕ) (n : ℕ) (front : List FullLine) (x : FullLine) → length xs ≡ length front → length (xs ++ n ∷ []) ≡ length (front ++ x ∷ [])
lengths_push xs n front x e = length-append xs (n ∷ []) ∙ ap (λ (m : ℕ). m + 1) e ∙ sym (length-append front (x ∷ []))

or_right : (b c : Bool) → c ≡ true → (b || c) ≡ true
or_right true c h = refl
or_right false c h = h

-- ---- what a leaf is stays

leaf_made_on : (full : List FullLine) (items new more : List Item) (source source' : ℕ → ℕ) (id node leaf : ℕ) (b : Says) → new ≡ items ++ more → ((a : ℕ) (y : Item) → find_item items a ≡ Some y → source' a ≡ source a)
    → LeafMade full items source id node leaf b → LeafMade full new source' id node leaf b
leaf_made_on full items new more source source' id node leaf (form (body.Input s) minuses) e same h = record {
  given = h.given;
  sort = h.sort;
  stands = stands_still items new more node (body.Input h.sort) e h.stands;
  width = width_still items new more node (width_of full id) e h.width;
  own = same node h.stands.0 h.stands.1 ∙ h.own;
}
leaf_made_on full items new more source source' id node leaf (form (body.State s) minuses) e same h = record {
  given = h.given;
  sort = h.sort;
  stands = stands_still items new more leaf (body.State h.sort) e h.stands;
  width = width_still items new more leaf (width_of full id) e h.width;
  own = same leaf h.stands.0 h.stands.1 ∙ h.own;
  first = h.first;
  other = h.other;
}
leaf_made_on full items new more source source' id node leaf _ e same h = h

made_on : (front : List FullLine) (x : FullLine) (leaves : List ℕ) (leaf a : ℕ) (b : Body) → length leaves ≡ length front → IsStateOf front leaves a b → IsStateOf (front ++ x ∷ []) (leaves ++ leaf ∷ []) a b
made_on front x leaves leaf a (body.State s) e h =
    let within : h.0 < length leaves = subst (λ (n : ℕ). h.0 < n) (sym e) (slice_get_within front h.0 h.1 h.2) in
    (h.0, h.1, get_push front x h.1 h.0 h.2, h.3, at_push leaves leaf h.0 within ∙ h.4)
made_on front x leaves leaf a _ e h = tt

-- ---- one line more

kind_more : (kind : Body → Bool) (front : List FullLine) (x : FullLine) (items new more : List Item) (numbers : List ℕ) (a : ℕ) → length numbers ≡ length front → new ≡ items ++ more
    → of_kind_lines kind front numbers ≡ map (λ (y : Item). y.id) (of_kind kind items) → cond (is_form kind x.says) (a ∷ []) [] ≡ map (λ (y : Item). y.id) (of_kind kind more)
    → of_kind_lines kind (front ++ x ∷ []) (numbers ++ a ∷ []) ≡ map (λ (y : Item). y.id) (of_kind kind new)
kind_more kind front x items new more numbers a same e order last =
    kind_push kind front x numbers a same ∙ ap₂ ◌++◌ order last ∙ sym (map-append (λ (y : Item). y.id) (of_kind kind items) (of_kind kind more)) ∙ ap (map (λ (y : Item). y.id)) (sym (ap (of_kind kind) e ∙ kind_join kind items more))

made_more : (full front : List FullLine) (x : FullLine) (items new more : List Item) (nodes leaves : List ℕ) (any : Bool) (node leaf : ℕ) (by_first : Bool) (source' : ℕ → ℕ) → (h : LeavesMade full front items nodes leaves any)
    → new ≡ items ++ more → ((a : ℕ) (y : Item) → find_item items a ≡ Some y → source' a ≡ h.source a) → LeafMade full new source' x.id node leaf x.says
    → (is_form is_state x.says ≡ true → way_of full x.id ≡ way.First → by_first ≡ true) → cond (is_form is_input x.says) (node ∷ []) [] ≡ map (λ (y : Item). y.id) (of_kind is_input more) → cond (is_form is_state x.says) (leaf ∷ []) [] ≡ map (λ (y : Item). y.id) (of_kind is_state more)
    → AllByRecursion (λ (y : Item). IsStateOf (front ++ x ∷ []) (leaves ++ leaf ∷ []) y.id y.body) more → AllByRecursion (λ (y : Item). is_early y.body ≡ true) more
    → LeavesMade full (front ++ x ∷ []) new (nodes ++ node ∷ []) (leaves ++ leaf ∷ []) (any || by_first)
made_more full front x items new more nodes leaves any node leaf by_first source' h e same own firsts order states others early = record {
  nodes_length = lengths_push nodes node front x h.nodes_length;
  leaves_length = lengths_push leaves leaf front x h.leaves_length;
  source = source';
  each = λ k y at. each k y (push_cases front x y k at);
  any_first = λ k y at state is. any_first k y state is (push_cases front x y k at);
  in_order = kind_more is_input front x items new more nodes node h.nodes_length e h.in_order order;
  states_in_order = kind_more is_state front x items new more leaves leaf h.leaves_length e h.states_in_order states;
  no_others = subst (λ (l : List Item). AllByRecursion (λ (y : Item). IsStateOf (front ++ x ∷ []) (leaves ++ leaf ∷ []) y.id y.body) l) (sym e)
      (all_join (λ (y : Item). IsStateOf (front ++ x ∷ []) (leaves ++ leaf ∷ []) y.id y.body) items more
      (all_with (λ (y : Item). IsStateOf front leaves y.id y.body) (λ (y : Item). IsStateOf (front ++ x ∷ []) (leaves ++ leaf ∷ []) y.id y.body) items (λ y. made_on front x leaves leaf y.id y.body h.leaves_length) h.no_others) others);
  early = subst (λ (l : List Item). AllByRecursion (λ (y : Item). is_early y.body ≡ true) l) (sym e) (all_join (λ (y : Item). is_early y.body ≡ true) items more h.early early);
}
  where
    each : (k : ℕ) (y : FullLine) → (slice_get front k ≡ Some y) ⊎ ((k ≡ length front) × (x ≡ y)) → LeafMade full new source' y.id (at_place (nodes ++ node ∷ []) k) (at_place (leaves ++ leaf ∷ []) k) y.says
    each k y (inl at) =
        let within = slice_get_within front k y at in
        let n = at_push nodes node k (subst (λ (n : ℕ). k < n) (sym h.nodes_length) within) in
        let l = at_push leaves leaf k (subst (λ (n : ℕ). k < n) (sym h.leaves_length) within) in
        subst (λ (a : ℕ). LeafMade full new source' y.id a (at_place (leaves ++ leaf ∷ []) k) y.says) (sym n)
        (subst (λ (a : ℕ). LeafMade full new source' y.id (at_place nodes k) a y.says) (sym l)
        (leaf_made_on full items new more h.source source' y.id (at_place nodes k) (at_place leaves k) y.says e same (h.each k y at)))
    each k y (inr pair) =
        let n : at_place (nodes ++ node ∷ []) k ≡ node = ap (at_place (nodes ++ node ∷ [])) (pair.0 ∙ sym h.nodes_length) ∙ at_end nodes node in
        let l : at_place (leaves ++ leaf ∷ []) k ≡ leaf = ap (at_place (leaves ++ leaf ∷ [])) (pair.0 ∙ sym h.leaves_length) ∙ at_end leaves leaf in
        subst (λ (z : FullLine). LeafMade full new source' z.id (at_place (nodes ++ node ∷ []) k) (at_place (leaves ++ leaf ∷ []) k) z.says) pair.1
        (subst (λ (a : ℕ). LeafMade full new source' x.id a (at_place (leaves ++ leaf ∷ []) k) x.says) (sym n)
        (subst (λ (a : ℕ). LeafMade full new source' x.id node a x.says) (sym l) own))

    any_first : (k : ℕ) (y : FullLine) → is_form is_state y.says ≡ true → way_of full y.id ≡ way.First → (slice_get front k ≡ Some y) ⊎ ((k ≡ length front) × (x ≡ y)) → (any || by_first) ≡ true
    any_first k y state is (inl at) = ap (λ (t : Bool). t || by_first) (h.any_first k y at state is)
    any_first k y state is (inr pair) =
        or_right any by_first (firsts (ap (λ (z : FullLine). is_form is_state z.says) pair.1 ∙ state) (ap (λ (z : FullLine). way_of full z.id) pair.1 ∙ is))

-- ---- a leaf more

adds_is : (items new : List Item) (says : ℕ → Body) (n a : ℕ) → (h : Adds items new says n a) → new ≡ items ++ (h.extends.more ++ named a h.symbol (says h.sort) ∷ [])
adds_is items new says n a h = h.is ∙ ap (λ (l : List Item). l ++ named a h.symbol (says h.sort) ∷ []) h.extends.is ∙ append_assoc items h.extends.more (named a h.symbol (says h.sort) ∷ [])

pub found_apart : (items before more : List Item) (a b : ℕ) (y : Item) → before ≡ items ++ more → find_item before a ≡ None → find_item items b ≡ Some y → eqb b a ≡ false
found_apart items before more a b y e fresh found = by (eqb b a) refl
  where
    there : find_item before b ≡ Some y
    there = ap (λ (l : List Item). find_item l b) e ∙ find_item-append items more b y found

    by : (t : Bool) → eqb b a ≡ t → eqb b a ≡ false
    by true test = absurd (none-some y (sym fresh ∙ ap (find_item before) (sym (eqb-true b a test)) ∙ there))
    by false test = test

-- a source with one leaf more
with_leaf : (ℕ → ℕ) → ℕ → ℕ → ℕ → ℕ
with_leaf source a id b = cond (eqb b a) id (source b)

leaf_own : (source : ℕ → ℕ) (a id : ℕ) → with_leaf source a id a ≡ id
unfolding with_leaf
leaf_own source a id = ap (λ (t : Bool). cond t id (source a)) (eq-eqb a a refl)

leaf_other : (source : ℕ → ℕ) (a id b : ℕ) → eqb b a ≡ false → with_leaf source a id b ≡ source b
unfolding with_leaf
leaf_other source a id b h = ap (λ (t : Bool). cond t id (source b)) h

no_made : (front : List FullLine) (leaves : List ℕ) (a : ℕ) (b : Body) → is_state b ≡ false → IsStateOf front leaves a b
no_made front leaves a (body.State s) h = absurd (cc)
no_made front leaves a _ h = tt

pub plain_early : (b : Body) → is_plain b ≡ true → is_early b ≡ true
plain_early b h = ap (λ (t : Bool). t || (is_input b || is_state b)) h

made_plain : (front : List FullLine) (leaves : List ℕ) (more : List Item) → ArePlain more → AllByRecursion (λ (y : Item). IsStateOf front leaves y.id y.body) more
made_plain front leaves more plain = all_with (λ (y : Item). IsNoLeaf y.body) (λ (y : Item). IsStateOf front leaves y.id y.body) more (λ y no. no_made front leaves y.id y.body no.1) (plain_no_leaves more plain)

early_plain : (more : List Item) → ArePlain more → AllByRecursion (λ (y : Item). is_early y.body ≡ true) more
early_plain more plain = all_with (λ (y : Item). is_plain y.body ≡ true) (λ (y : Item). is_early y.body ≡ true) more (λ y. plain_early y.body) plain

inputs_plain : (more rest : List Item) → ArePlain more → of_kind is_input (more ++ rest) ≡ of_kind is_input rest
inputs_plain more rest plain =
    kind_join is_input more rest ∙ ap (λ (l : List Item). l ++ of_kind is_input rest) (kind_none is_input more (all_with (λ (y : Item). IsNoLeaf y.body) (λ (y : Item). is_input y.body ≡ false) more (λ y no. no.0) (plain_no_leaves more plain)))

pub states_plain : (more rest : List Item) → ArePlain more → of_kind is_state (more ++ rest) ≡ of_kind is_state rest
states_plain more rest plain =
    kind_join is_state more rest ∙ ap (λ (l : List Item). l ++ of_kind is_state rest) (kind_none is_state more (all_with (λ (y : Item). IsNoLeaf y.body) (λ (y : Item). is_state y.body ≡ false) more (λ y no. no.1) (plain_no_leaves more plain)))

input_more : (full front : List FullLine) (x : FullLine) (s : ℕ) (minuses : List Bool) (items new : List Item) (nodes leaves : List ℕ) (any : Bool) (node leaf : ℕ) (by_first : Bool) → x.says ≡ form (body.Input s) minuses
    → LeavesMade full front items nodes leaves any → Adds items new (λ r. body.Input r) (width_of full x.id) node
    → LeavesMade full (front ++ x ∷ []) new (nodes ++ node ∷ []) (leaves ++ leaf ∷ []) (any || by_first)
input_more full front x s minuses items new nodes leaves any node leaf by_first e h add =
    let source' = with_leaf h.source node x.id in
    let last = named node add.symbol (body.Input add.sort) in
    let own : LeafMade full new source' x.id node leaf (form (body.Input s) minuses) =
    record {
      given = id_given node (length add.before) add.id;
      sort = add.sort;
      stands = line_stands add.before new node add.symbol (body.Input add.sort) add.is add.fresh;
      width = line_width add.before new node add.sort (width_of full x.id) add.symbol (body.Input add.sort) add.is add.fresh refl add.width;
      own = leaf_own h.source node x.id;
    } in
    made_more full front x items new (add.extends.more ++ last ∷ []) nodes leaves any node leaf by_first source' h (adds_is items new (λ r. body.Input r) (width_of full x.id) node add)
    (λ a y found. leaf_other h.source node x.id a (found_apart items add.before add.extends.more node a y add.extends.is add.fresh found))
    (subst (LeafMade full new source' x.id node leaf) (sym e) own)
    (λ state is. absurd (false≢true (sym (ap (is_form is_state) e) ∙ state)))
    (ap (λ (b : Says). cond (is_form is_input b) (node ∷ []) []) e ∙ ap (map (λ (y : Item). y.id)) (sym (inputs_plain add.extends.more (last ∷ []) add.extends.plain)))
    (ap (λ (b : Says). cond (is_form is_state b) (leaf ∷ []) []) e ∙ ap (map (λ (y : Item). y.id)) (sym (states_plain add.extends.more (last ∷ []) add.extends.plain)))
    (all_join (λ (y : Item). IsStateOf (front ++ x ∷ []) (leaves ++ leaf ∷ []) y.id y.body) add.extends.more (last ∷ []) (made_plain (front ++ x ∷ []) (leaves ++ leaf ∷ []) add.extends.more add.extends.plain) (tt, tt))
    (all_join (λ (y : Item). is_early y.body ≡ true) add.extends.more (last ∷ []) (early_plain add.extends.more add.extends.plain) (refl, tt))

state_more : (full front : List FullLine) (x : FullLine) (s : ℕ) (minuses : List Bool) (items new : List Item) (nodes leaves : List ℕ) (any : Bool) (node leaf : ℕ) (by_first : Bool) → x.says ≡ form (body.State s) minuses
    → LeavesMade full front items nodes leaves any → Adds items new (λ r. body.State r) (width_of full x.id) leaf → IsStateLeaf full x.id node leaf by_first
    → LeavesMade full (front ++ x ∷ []) new (nodes ++ node ∷ []) (leaves ++ leaf ∷ []) (any || by_first)
state_more full front x s minuses items new nodes leaves any node leaf by_first e h add ways =
    let source' = with_leaf h.source leaf x.id in
    let last = named leaf add.symbol (body.State add.sort) in
    let own : LeafMade full new source' x.id node leaf (form (body.State s) minuses) =
    record {
      given = id_given leaf (length add.before) add.id;
      sort = add.sort;
      stands = line_stands add.before new leaf add.symbol (body.State add.sort) add.is add.fresh;
      width = line_width add.before new leaf add.sort (width_of full x.id) add.symbol (body.State add.sort) add.is add.fresh refl add.width;
      own = leaf_own h.source leaf x.id;
      first = λ is. (ways.first is).0;
      other = ways.other;
    } in
    made_more full front x items new (add.extends.more ++ last ∷ []) nodes leaves any node leaf by_first source' h (adds_is items new (λ r. body.State r) (width_of full x.id) leaf add)
    (λ a y found. leaf_other h.source leaf x.id a (found_apart items add.before add.extends.more leaf a y add.extends.is add.fresh found))
    (subst (LeafMade full new source' x.id node leaf) (sym e) own)
    (λ state is. (ways.first is).1)
    (ap (λ (b : Says). cond (is_form is_input b) (node ∷ []) []) e ∙ ap (map (λ (y : Item). y.id)) (sym (inputs_plain add.extends.more (last ∷ []) add.extends.plain)))
    (ap (λ (b : Says). cond (is_form is_state b) (leaf ∷ []) []) e ∙ ap (map (λ (y : Item). y.id)) (sym (states_plain add.extends.more (last ∷ []) add.extends.plain)))
    (all_join (λ (y : Item). IsStateOf (front ++ x ∷ []) (leaves ++ leaf ∷ []) y.id y.body) add.extends.more (last ∷ []) (made_plain (front ++ x ∷ []) (leaves ++ leaf ∷ []) add.extends.more add.extends.plain)
    ((length front, x, get_end front x, ap (is_form is_state) e, ap (at_place (leaves ++ leaf ∷ [])) (sym h.leaves_length) ∙ at_end leaves leaf), tt))
    (all_join (λ (y : Item). is_early y.body ≡ true) add.extends.more (last ∷ []) (early_plain add.extends.more add.extends.plain) (refl, tt))

-- whether it is a leaf's line
abbrev pub IsNoLine : Says → Type 0
IsNoLine b = (is_form is_input b ≡ false) × (is_form is_state b ≡ false)

no_line_made : (full : List FullLine) (items : List Item) (source : ℕ → ℕ) (id node leaf : ℕ) (b : Says) → IsNoLine b → node ≡ 0 → LeafMade full items source id node leaf b
no_line_made full items source id node leaf (form (body.Input s) minuses) neither h = absurd (cc (neither.0))
no_line_made full items source id node leaf (form (body.State s) minuses) neither h = absurd (cc (neither.1))
no_line_made full items source id node leaf _ neither h = h

none_more : (full front : List FullLine) (x : FullLine) (items new : List Item) (nodes leaves : List ℕ) (any : Bool) (node leaf : ℕ) (by_first : Bool) → IsNoLine x.says → LeavesMade full front items nodes leaves any → new ≡ items → node ≡ 0
    → LeavesMade full (front ++ x ∷ []) new (nodes ++ node ∷ []) (leaves ++ leaf ∷ []) (any || by_first)
none_more full front x items new nodes leaves any node leaf by_first neither h e none =
    made_more full front x items new [] nodes leaves any node leaf by_first h.source h (e ∙ sym (append-nil items)) (λ a y found. refl) (no_line_made full new h.source x.id node leaf x.says neither none)
    (λ state is. absurd (false≢true (sym neither.1 ∙ state))) (ap (λ (t : Bool). cond t (node ∷ []) []) neither.0) (ap (λ (t : Bool). cond t (leaf ∷ []) []) neither.1) tt tt

pub line_more : (full front : List FullLine) (x : FullLine) (items new : List Item) (nodes leaves : List ℕ) (any : Bool) (node leaf : ℕ) (by_first : Bool) → LeavesMade full front items nodes leaves any
    → PutsLeaf full x.id items new node leaf by_first x.says → LeavesMade full (front ++ x ∷ []) new (nodes ++ node ∷ []) (leaves ++ leaf ∷ []) (any || by_first)
line_more full front x items new nodes leaves any node leaf by_first h puts = by x.says refl puts
  where
    none : (b : Says) → x.says ≡ b → IsNoLine b → (new ≡ items) × (node ≡ 0) → LeavesMade full (front ++ x ∷ []) new (nodes ++ node ∷ []) (leaves ++ leaf ∷ []) (any || by_first)
    none b e neither pair = none_more full front x items new nodes leaves any node leaf by_first (subst IsNoLine (sym e) neither) h pair.0 pair.1

    by : (b : Says) → x.says ≡ b → PutsLeaf full x.id items new node leaf by_first b → LeavesMade full (front ++ x ∷ []) new (nodes ++ node ∷ []) (leaves ++ leaf ∷ []) (any || by_first)
    by (form (body.Input s) minuses) e add = input_more full front x s minuses items new nodes leaves any node leaf by_first e h add
    by (form (body.State s) minuses) e add = state_more full front x s minuses items new nodes leaves any node leaf by_first e h add.0 add.1
    by (form b minuses) e pair = none (form b minuses) e (refl, refl) pair
    by b e pair = none b e (refl, refl) pair

pub none_made : (full : List FullLine) → LeavesMade full [] [] [] [] false
none_made full = record {
  nodes_length = refl;
  leaves_length = refl;
  source = λ a. 0;
  each = λ k x at. absurd (none-some x at);
  any_first = λ k x at. absurd (none-some x at);
  in_order = refl;
  states_in_order = refl;
  no_others = tt;
  early = tt;
}
