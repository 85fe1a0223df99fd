-- What stands of a writing that has the leaves of a model.
use Rattle.std.proofs.Common.{◌≡◌, ℕ, ◌+◌, ◌≤◌, Bool, true, false, cond, nat_eq, eqb, eq-eqb, List, [], ◌∷◌, ◌++◌, length, map, flat_map, Option, Some, None, is_some, option_and_then, append_assoc, append-nil, length-append, refl, sym, ap, ap₂, subst, ◌∙◌, ◌⊎◌, inl, inr, arith}
use Rattle.std.proofs.lemmas.List.{map-append}
use Rattle.std.specs.List.{AllByRecursion, AllZip, list_all}
use Rattle.std.specs.Option.{option_or}
use Rattle.std.proofs.lemmas.Bool.{false≢true, and_parts, not-false}
use Rattle.btor2.specs.declared.item.Item.{Item}
use Rattle.btor2.specs.declared.item.Body.{Body}
use Rattle.btor2.specs.declared.item.Body.TheVariants as body
use Rattle.btor2.specs.Items.{find_item, node_width, width_of_body, operands, is_input, is_state, is_bad, is_constraint, init_for, next_for, init_value, next_value}
use Rattle.btor2.specs.Check.{operand_is_missing}
use Rattle.btor2.specs.Lists.{of_kind}
use Rattle.btor2.proofs.AppendLemmas.{find_item-append}
use Rattle.btor2.proofs.ConstantLemmas.{init_value-after}
use Rattle.wide.specs.WideModels.{greatest_width, IsWideAfter, IsWideModel}
use Rattle.wide.proofs.GrowLemmas.{tests_false}
use Rattle.full.specs.Lines.{Says, form, FullLine, is_form, width_of, full_nodes}
use Rattle.full.specs.Agreement.{names_full_state}
use Rattle.full.specs.Runs.{at_place}
use Rattle.full.specs.WrittenOut.{one_id, Places, HasWord, OnlyChooses, is_output}
use Rattle.full.proofs.ListLemmas.{all_with, all_join}
use Rattle.full.proofs.PlaceLemmas.{stands_as_state}
use Rattle.full.proofs.GivesLemmas.{carried_input, carried_state}
use Rattle.cells.specs.Lines.{named, is_plain}
use Rattle.writeout.specs.declared.way.Way.TheVariants as way
use Rattle.writeout.specs.Ways.{way_of}
use Rattle.writeout.specs.Needs.{place_of}
use Rattle.writeout.specs.Faults.{is_live_body, NoneIsLiveItem}
use Rattle.writeout.specs.Nodes.{IsConstantOf, LineStands, NodesStand}
use Rattle.writeout.specs.Writings.{Writing, IsGiven, IsOther, first_of, Settled}
use Rattle.writeout.specs.Leaves.{leaf_at, IsLeaf, FirstIsWritten, LeavesWritten}
use Rattle.writeout.specs.Late.{PropertiesStand, LateWritten}
use Rattle.writeout.specs.Putting.{AddsFirst, PutsFirst, first_lines, HasNoNexts, InputMade, StateMade, LeafMade, IsStateOf, is_early, LeavesMade, LeafNodes}
use Rattle.writeout.proofs.StepLemmas.{only_by}
use Rattle.writeout.proofs.EndLemmas.{way_cases, first_some, state_line}
use Rattle.writeout.proofs.LeafLemmas.{next_value-after, kind_none, kind_join, plain_no_leaves, IsNoLeaf, no_leaf}
use Rattle.writeout.proofs.FirstLemmas.{width_still, stands_still}
use Rattle.writeout.proofs.MadeLemmas.{states_plain, found_apart, plain_early}
use Rattle.writeout.proofs.NodeLemmas.{id_given}

-- ---- early lines

-- what a sort, a constant, an operator or a leaf is not
record IsEarlyOnly (b : Body) : Type 0 where
  init : (id : ℕ) → init_for id b ≡ None
  next : (id : ℕ) → next_for id b ≡ None
  bad : is_bad b ≡ false
  constraint : is_constraint b ≡ false
  output : is_output b ≡ false
  live : is_live_body b ≡ false

early_only : (b : Body) → is_early b ≡ true → IsEarlyOnly b
early_only (body.Init s t v) h = absurd (cc)
early_only (body.Next s t v) h = absurd (cc)
early_only (body.Bad a) h = absurd (cc)
early_only (body.Constraint a) h = absurd (cc)
early_only (body.Output a) h = absurd (cc)
early_only (body.Fair a) h = absurd (cc)
early_only (body.Justice ns) h = absurd (cc)
early_only _ h = record { init = λ id. refl; next = λ id. refl; bad = refl; constraint = refl; output = refl; live = refl }

are_early : (items : List Item) → AllByRecursion (λ (y : Item). is_early y.body ≡ true) items → AllByRecursion (λ (y : Item). IsEarlyOnly y.body) items
are_early items h = all_with (λ (y : Item). is_early y.body ≡ true) (λ (y : Item). IsEarlyOnly y.body) items (λ y. early_only y.body) h

pub early_no_nexts : (items : List Item) → AllByRecursion (λ (y : Item). is_early y.body ≡ true) items → HasNoNexts items
early_no_nexts items h id = (inits items (are_early items h), nexts items (are_early items h))
  where
    inits : (xs : List Item) → AllByRecursion (λ (y : Item). IsEarlyOnly y.body) xs → init_value xs id ≡ None
    inits [] h = refl
    inits (y ∷ ys) h = ap (λ (o : Option ℕ). option_or o (init_value ys id)) (h.0.init id) ∙ inits ys h.1

    nexts : (xs : List Item) → AllByRecursion (λ (y : Item). IsEarlyOnly y.body) xs → next_value xs id ≡ None
    nexts [] h = refl
    nexts (y ∷ ys) h = ap (λ (o : Option ℕ). option_or o (next_value ys id)) (h.0.next id) ∙ nexts ys h.1

-- ---- operands of a model are found

then_there : {A B : Type 0} (f : A → Option B) (o : Option A) → is_some (option_and_then f o) ≡ true → is_some o ≡ true
then_there f None h = absurd (false≢true h)
then_there f (Some x) h = refl

some_on : (front more : List Item) (a : ℕ) → is_some (find_item front a) ≡ true → is_some (find_item (front ++ more) a) ≡ true
some_on front more a h = by (find_item front a) refl h
  where
    by : (o : Option Item) → find_item front a ≡ o → is_some o ≡ true → is_some (find_item (front ++ more) a) ≡ true
    by None e h = absurd (false≢true h)
    by (Some y) e h = ap is_some (find_item-append front more a y e)

all_found : (front more : List Item) (ids : List ℕ) → list_all (λ a. is_some (node_width front a)) ids ≡ true → AllByRecursion (λ a. is_some (find_item (front ++ more) a) ≡ true) ids
all_found front more [] h = tt
all_found front more (a ∷ ids) h =
    let parts = and_parts (is_some (node_width front a)) (list_all (λ b. is_some (node_width front b)) ids) h in
    (some_on front more a (then_there (λ (x : Item). width_of_body front x.body) (find_item front a) parts.0), all_found front more ids parts.1)

none_missing : (front : List Item) (b : Body) → operand_is_missing front b ≡ false → list_all (λ a. is_some (node_width front a)) (operands b) ≡ true
unfolding operand_is_missing
none_missing front b h = not-false (list_all (λ a. is_some (node_width front a)) (operands b)) h

operands_from : (items front xs : List Item) → items ≡ front ++ xs → IsWideAfter greatest_width front xs → AllByRecursion (λ (y : Item). AllByRecursion (λ a. is_some (find_item items a) ≡ true) (operands y.body)) xs
operands_from items front [] e w = tt
operands_from items front (x ∷ xs) e w = (
  subst (λ (l : List Item). AllByRecursion (λ a. is_some (find_item l a) ≡ true) (operands x.body)) (sym e)
      (all_found front (x ∷ xs) (operands x.body) (none_missing front x.body (tests_false greatest_width front x w.0).1.1.1.1.0)),
  operands_from items (front ++ x ∷ []) xs (e ∙ sym (append_assoc front (x ∷ []) xs)) w.1,
)

found_not : (items : List Item) (first a : ℕ) → find_item items first ≡ None → is_some (find_item items a) ≡ true → eqb a first ≡ false
found_not items first a fresh there = by (find_item items a) refl there
  where
    by : (o : Option Item) → find_item items a ≡ o → is_some o ≡ true → eqb a first ≡ false
    by None e there = absurd (false≢true there)
    by (Some y) e there = found_apart items items [] first a y (sym (append-nil items)) fresh e

-- no operand of a model is an id that is not found in it
no_operand : (items : List Item) (first : ℕ) → IsWideModel greatest_width items → find_item items first ≡ None → AllByRecursion (λ (y : Item). AllByRecursion (λ a. eqb a first ≡ false) (operands y.body)) items
no_operand items first w fresh =
    all_with (λ (y : Item). AllByRecursion (λ a. is_some (find_item items a) ≡ true) (operands y.body)) (λ (y : Item). AllByRecursion (λ a. eqb a first ≡ false) (operands y.body)) items
    (λ y found. all_with (λ a. is_some (find_item items a) ≡ true) (λ a. eqb a first ≡ false) (operands y.body) (λ a. found_not items first a fresh) found)
    (operands_from items [] items refl w)

-- ---- the state that is 1 in the first frame alone

-- a list with this state, where there is one, behind another
record HasFirst (full : List FullLine) (items new : List Item) (any : Bool) (first : ℕ) : Type 0 where
  more : List Item
  is : new ≡ items ++ more
  given : any ≡ true → IsGiven first
  other : (b : ℕ) (y : Item) → find_item items b ≡ Some y → IsOther first b
  width : IsGiven first → node_width new first ≡ Some 1
  within : IsGiven first → first ≤ length new
  only : IsGiven first → (p : Places) (wide : List Item) → AllByRecursion (λ (y : Item). OnlyChooses full p wide first y.body) new
  written : (w : Writing) → w.items ≡ new → w.first ≡ first → IsGiven w.first → FirstIsWritten w
  no_inputs : of_kind is_input more ≡ []
  its_state : one_id (first_of first) ≡ map (λ (y : Item). y.id) (of_kind is_state more)
  states : (w : Writing) → w.first ≡ first → AllByRecursion (λ (y : Item). IsLeaf full w y.id y.body) more
  no_init : (b : ℕ) → IsOther first b → init_value new b ≡ None
  no_next : (b : ℕ) → IsOther first b → next_value new b ≡ None
  no_bads : of_kind is_bad new ≡ []
  no_constraints : of_kind is_constraint new ≡ []
  no_outputs : of_kind is_output new ≡ []
  forms : NoneIsLiveItem new

no_first : (full : List FullLine) (items new : List Item) (first : ℕ) → AllByRecursion (λ (y : Item). is_early y.body ≡ true) items → new ≡ items → first ≡ 0 → HasFirst full items new false first
no_first full items new first early e zero =
    let only = are_early items early in
    record {
      more = [];
      is = e ∙ sym (append-nil items);
      given = λ h. absurd (false≢true h);
      other = λ b y found given. absurd (false≢true (sym given ∙ ap (λ (n : ℕ). nat_eq n 0) zero));
      width = λ given. absurd (false≢true (sym given ∙ ap (λ (n : ℕ). nat_eq n 0) zero));
      within = λ given. absurd (false≢true (sym given ∙ ap (λ (n : ℕ). nat_eq n 0) zero));
      only = λ given. absurd (false≢true (sym given ∙ ap (λ (n : ℕ). nat_eq n 0) zero));
      written = λ w is same given. absurd (false≢true (sym given ∙ ap (λ (n : ℕ). nat_eq n 0) (same ∙ zero)));
      no_inputs = refl;
      its_state = ap (λ (n : ℕ). one_id (first_of n)) zero;
      states = λ w same. tt;
      no_init = λ b other. ap (λ (l : List Item). init_value l b) e ∙ (early_no_nexts items early b).0;
      no_next = λ b other. ap (λ (l : List Item). next_value l b) e ∙ (early_no_nexts items early b).1;
      no_bads = ap (of_kind is_bad) e ∙ kind_none is_bad items (all_with (λ (y : Item). IsEarlyOnly y.body) (λ (y : Item). is_bad y.body ≡ false) items (λ y own. own.bad) only);
      no_constraints = ap (of_kind is_constraint) e ∙ kind_none is_constraint items (all_with (λ (y : Item). IsEarlyOnly y.body) (λ (y : Item). is_constraint y.body ≡ false) items (λ y own. own.constraint) only);
      no_outputs = ap (of_kind is_output) e ∙ kind_none is_output items (all_with (λ (y : Item). IsEarlyOnly y.body) (λ (y : Item). is_output y.body ≡ false) items (λ y own. own.output) only);
      forms = subst NoneIsLiveItem (sym e) (all_with (λ (y : Item). IsEarlyOnly y.body) (λ (y : Item). is_live_body y.body ≡ false) items (λ y own. own.live) only);
    }

-- the lists of a kind of an early list with these lines behind it
first_kind : (kind : Body → Bool) (before : List Item) (new : List Item) (a sort one nil i j : ℕ) → new ≡ before ++ first_lines a sort one nil i j → AllByRecursion (λ (y : Item). kind y.body ≡ false) before
    → of_kind kind (first_lines a sort one nil i j) ≡ [] → of_kind kind new ≡ []
first_kind kind before new a sort one nil i j e none last =
    ap (of_kind kind) e ∙ kind_join kind before (first_lines a sort one nil i j) ∙ ap (λ (l : List Item). l ++ of_kind kind (first_lines a sort one nil i j)) (kind_none kind before none) ∙ last

other_init : (b a v : ℕ) → eqb b a ≡ false → init_value (named 0 None (body.Init 0 a v) ∷ []) b ≡ None
other_init b a v h = ap (λ (t : Bool). option_or (cond t (Some v) None) None) h

some_within : (a n m : ℕ) → a ≡ n + 1 → m ≡ n + 5 → a ≤ m
some_within a n m h k = omega (arith, h, k)

has_first : (full : List FullLine) (items new : List Item) (a : ℕ) → AllByRecursion (λ (y : Item). is_early y.body ≡ true) items → AddsFirst items new a → HasFirst full items new true a
has_first full items new a early h = record {
  more = h.extends.more ++ (first_lines a h.sort h.one h.zero h.i h.j);
  is = h.is ∙ ap (λ (l : List Item). l ++ (first_lines a h.sort h.one h.zero h.i h.j)) h.extends.is ∙ append_assoc items h.extends.more (first_lines a h.sort h.one h.zero h.i h.j);
  given = λ t. given;
  other = λ b y found t. found_apart items h.before h.extends.more a b y h.extends.is h.fresh found;
  width = λ t. h.width;
  within = λ t. some_within a (length h.before) (length new) h.id (ap length h.is ∙ length-append h.before (first_lines a h.sort h.one h.zero h.i h.j));
  only = λ t p wide.
      subst (λ (l : List Item). AllByRecursion (λ (y : Item). OnlyChooses full p wide a y.body) l) (sym h.is)
      (all_join (λ (y : Item). OnlyChooses full p wide a y.body) h.before (first_lines a h.sort h.one h.zero h.i h.j)
      (all_with (λ (y : Item). AllByRecursion (λ b. eqb b a ≡ false) (operands y.body)) (λ (y : Item). OnlyChooses full p wide a y.body) h.before (λ y. only_by full p wide a y.body) (no_operand h.before a h.model h.fresh))
      ((λ there. tt), ((λ there. tt), ((λ there. tt), ((λ there. absurd (false≢true there)), ((λ there. absurd (false≢true there)), tt))))));
  written = λ w is same t.
      subst (λ (l : List Item). FirstIsWritten (record w { items = l })) (sym is)
      (subst (λ (n : ℕ). FirstIsWritten (record { items = new; nodes = w.nodes; leaves = w.leaves; first = n })) (sym same)
      (record {
        sort = h.sort;
        state = h.stands;
        one = h.one;
        init = init_here a ∙ ap (λ (t : Bool). option_or (cond t (Some h.one) None) None) (eq-eqb a a refl);
        is_one = h.is_one;
        zero = h.zero;
        next = next_here a ∙ ap (λ (t : Bool). option_or (cond t (Some h.zero) None) None) (eq-eqb a a refl);
        is_zero = h.is_zero;
      }));
  no_inputs = kind_join is_input h.extends.more (first_lines a h.sort h.one h.zero h.i h.j)
      ∙ ap (λ (l : List Item). l ++ of_kind is_input (first_lines a h.sort h.one h.zero h.i h.j)) (kind_none is_input h.extends.more (all_with (λ (y : Item). IsNoLeaf y.body) (λ (y : Item). is_input y.body ≡ false) h.extends.more (λ y no. no.0) (plain_no_leaves h.extends.more h.extends.plain)));
  its_state = ap one_id (first_some a given) ∙ ap (map (λ (y : Item). y.id)) (sym (states_plain h.extends.more (first_lines a h.sort h.one h.zero h.i h.j) h.extends.plain));
  states = λ w same.
      all_join (λ (y : Item). IsLeaf full w y.id y.body) h.extends.more (first_lines a h.sort h.one h.zero h.i h.j)
      (all_with (λ (y : Item). IsNoLeaf y.body) (λ (y : Item). IsLeaf full w y.id y.body) h.extends.more (λ y no. no_leaf full w y.id y.body no.1) (plain_no_leaves h.extends.more h.extends.plain))
      (inl (ap first_of same ∙ first_some a given), (tt, (tt, (tt, (tt, tt)))));
  no_init = λ b other. init_here b ∙ ap (λ (t : Bool). option_or (cond t (Some h.one) None) None) (other given);
  no_next = λ b other. next_here b ∙ ap (λ (t : Bool). option_or (cond t (Some h.zero) None) None) (other given);
  no_bads = first_kind is_bad h.before new a h.sort h.one h.zero h.i h.j h.is (all_with (λ (y : Item). IsEarlyOnly y.body) (λ (y : Item). is_bad y.body ≡ false) h.before (λ y own. own.bad) only) refl;
  no_constraints = first_kind is_constraint h.before new a h.sort h.one h.zero h.i h.j h.is (all_with (λ (y : Item). IsEarlyOnly y.body) (λ (y : Item). is_constraint y.body ≡ false) h.before (λ y own. own.constraint) only) refl;
  no_outputs = first_kind is_output h.before new a h.sort h.one h.zero h.i h.j h.is (all_with (λ (y : Item). IsEarlyOnly y.body) (λ (y : Item). is_output y.body ≡ false) h.before (λ y own. own.output) only) refl;
  forms = subst NoneIsLiveItem (sym h.is)
      (all_join (λ (y : Item). is_live_body y.body ≡ false) h.before (first_lines a h.sort h.one h.zero h.i h.j)
      (all_with (λ (y : Item). IsEarlyOnly y.body) (λ (y : Item). is_live_body y.body ≡ false) h.before (λ y own. own.live) only)
      (refl, (refl, (refl, (refl, (refl, tt))))));
}
  where
    given : IsGiven a
    given = id_given a (length h.before) h.id

    earlier : AllByRecursion (λ (y : Item). is_early y.body ≡ true) h.before
    earlier = subst (λ (l : List Item). AllByRecursion (λ (y : Item). is_early y.body ≡ true) l) (sym h.extends.is)
        (all_join (λ (y : Item). is_early y.body ≡ true) items h.extends.more early (all_with (λ (y : Item). is_plain y.body ≡ true) (λ (y : Item). is_early y.body ≡ true) h.extends.more (λ y. plain_early y.body) h.extends.plain))

    only : AllByRecursion (λ (y : Item). IsEarlyOnly y.body) h.before
    only = are_early h.before earlier

    init_here : (b : ℕ) → init_value new b ≡ option_or (cond (eqb b a) (Some h.one) None) None
    init_here b = ap (λ (l : List Item). init_value l b) h.is ∙ init_value-after h.before (first_lines a h.sort h.one h.zero h.i h.j) b (early_no_nexts h.before earlier b).0

    next_here : (b : ℕ) → next_value new b ≡ option_or (cond (eqb b a) (Some h.zero) None) None
    next_here b = ap (λ (l : List Item). next_value l b) h.is ∙ next_value-after h.before (first_lines a h.sort h.one h.zero h.i h.j) b (early_no_nexts h.before earlier b).1

first_by : (full : List FullLine) (items new : List Item) (any : Bool) (first : ℕ) → AllByRecursion (λ (y : Item). is_early y.body ≡ true) items → PutsFirst any items new first → HasFirst full items new any first
first_by full items new true first early h = has_first full items new first early h
first_by full items new false first early h = no_first full items new first early h.0 h.1

-- ---- the whole

abbrev pub wrote : List Item → List ℕ → List ℕ → ℕ → Writing
wrote items nodes leaves first = record { items = items; nodes = nodes; leaves = leaves; first = first }

still_width : (new more wide : List Item) (a n : ℕ) → wide ≡ new ++ more → node_width new a ≡ Some n → node_width wide a ≡ Some n
still_width new more wide a n e h = width_still new wide more a n e h

input_line : (full : List FullLine) (items new : List Item) (any : Bool) (nodes leaves : List ℕ) (first : ℕ) (source : ℕ → ℕ) (x : FullLine) (leaf a s : ℕ) (minuses : List Bool) → x.says ≡ form (body.Input s) minuses
    → HasFirst full items new any first → InputMade full items source x.id a → LineStands full (wrote new nodes leaves first) x leaf a
input_line full items new any nodes leaves first source x leaf a s minuses e f h =
    let width = width_still items new f.more a (width_of full x.id) f.is h.width in
    record {
      width = width;
      carried = λ p wide g same. carried_input full p wide x g.model (ap (is_form is_input) e) (ap (node_width wide) same ∙ still_width new g.more wide a (width_of full x.id) g.is width);
      other = f.other a h.stands.0 h.stands.1;
      constant = subst (λ (b : Says). IsConstantOf full (wrote new nodes leaves first) x.id b a) (sym e) (λ there. absurd (false≢true there));
      state = λ is. absurd (false≢true (sym (ap (is_form is_state) e) ∙ is));
    }

state_node : (full : List FullLine) (items : List Item) (source : ℕ → ℕ) (id node a : ℕ) → StateMade full items source id node a → IsGiven node → node ≡ a
state_node full items source id node a h given = by (way_cases (way_of full id))
  where
    by : (way_of full id ≡ way.First) ⊎ (way_of full id ≡ way.First → ⊥) → node ≡ a
    by (inl is) = absurd (false≢true (sym given ∙ ap (λ (n : ℕ). nat_eq n 0) (h.first is)))
    by (inr other) = h.other other

state_line_stands : (full : List FullLine) (items new : List Item) (any : Bool) (nodes leaves : List ℕ) (first : ℕ) (source : ℕ → ℕ) (x : FullLine) (leaf a s : ℕ) (minuses : List Bool) → x.says ≡ form (body.State s) minuses
    → HasFirst full items new any first → IsGiven a → StateMade full items source x.id a leaf → LineStands full (wrote new nodes leaves first) x leaf a
state_line_stands full items new any nodes leaves first source x leaf a s minuses e f given h =
    let same_node = state_node full items source x.id a leaf h given in
    let width = ap (node_width new) same_node ∙ width_still items new f.more leaf (width_of full x.id) f.is h.width in
    record {
      width = width;
      carried = λ p wide g same. carried_state full p wide x g.model (ap (is_form is_state) e) (ap (node_width wide) same ∙ still_width new g.more wide a (width_of full x.id) g.is width);
      other = subst (IsOther first) (sym same_node) (f.other leaf h.stands.0 h.stands.1);
      constant = subst (λ (b : Says). IsConstantOf full (wrote new nodes leaves first) x.id b a) (sym e) (λ there. absurd (false≢true there));
      state = λ is. record {
        as_it_is = λ other. same_node;
        by_first = λ is_first o init. absurd (false≢true (sym given ∙ ap (λ (n : ℕ). nat_eq n 0) (h.first is_first)));
      };
    }

line_made_stands : (full : List FullLine) (items new : List Item) (any : Bool) (nodes leaves : List ℕ) (first : ℕ) (source : ℕ → ℕ) (x : FullLine) (leaf a : ℕ) (b : Says) → x.says ≡ b
    → HasFirst full items new any first → IsGiven a → LeafMade full items source x.id a leaf b → LineStands full (wrote new nodes leaves first) x leaf a
line_made_stands full items new any nodes leaves first source x leaf a (form (body.Input s) minuses) e f given h = input_line full items new any nodes leaves first source x leaf a s minuses e f h
line_made_stands full items new any nodes leaves first source x leaf a (form (body.State s) minuses) e f given h = state_line_stands full items new any nodes leaves first source x leaf a s minuses e f given h
line_made_stands full items new any nodes leaves first source x leaf a _ e f given h = absurd (false≢true (sym given ∙ ap (λ (n : ℕ). nat_eq n 0) h))

state_made : (full : List FullLine) (items : List Item) (source : ℕ → ℕ) (id node leaf : ℕ) (b : Says) → is_form is_state b ≡ true → LeafMade full items source id node leaf b → StateMade full items source id node leaf
state_made full items source id node leaf (form (body.State s) minuses) is h = h
state_made full items source id node leaf (form _ minuses) is h = absurd (cc)
state_made full items source id node leaf _ is h = absurd (cc)

input_made : (full : List FullLine) (items : List Item) (source : ℕ → ℕ) (id node leaf : ℕ) (b : Says) → is_form is_input b ≡ true → LeafMade full items source id node leaf b → InputMade full items source id node
input_made full items source id node leaf (form (body.Input s) minuses) is h = h
input_made full items source id node leaf (form _ minuses) is h = absurd (cc)
input_made full items source id node leaf _ is h = absurd (cc)

pub leaves_stand : (full : List FullLine) (items new : List Item) (nodes leaves : List ℕ) (any : Bool) (first : ℕ) → LeavesMade full full items nodes leaves any → PutsFirst any items new first → NodesStand full (wrote new nodes leaves first)
leaves_stand full items new nodes leaves any first h puts = record {
  nodes_length = h.nodes_length;
  leaves_length = h.leaves_length;
  lines = λ k x is given. line_made_stands full items new any nodes leaves first h.source x (at_place leaves k) (at_place nodes k) x.says refl f given (h.each k x is);
  leaves = λ k x is state.
      let own = state_made full items h.source x.id (at_place nodes k) (at_place leaves k) x.says state (h.each k x is) in
      record {
        given = own.given;
        width = width_still items new f.more (at_place leaves k) (width_of full x.id) f.is own.width;
        state = stands_as_state new (at_place leaves k) own.sort (stands_still items new f.more (at_place leaves k) (body.State own.sort) f.is own.stands);
        other = f.other (at_place leaves k) own.stands.0 own.stands.1;
        first = λ is_first. f.given (h.any_first k x is state is_first);
      };
  first = λ given. record { width = f.width given; within = f.within given };
  only = λ given p wide g. f.only given p wide;
}
  where
    f : HasFirst full items new any first
    f = first_by full items new any first h.early puts

made_leaf : (full : List FullLine) (w : Writing) (leaves : List ℕ) (a : ℕ) (b : Body) → w.leaves ≡ leaves → IsStateOf full leaves a b → IsLeaf full w a b
made_leaf full w leaves a (body.State s) same h = inr (h.0, h.1, h.2, h.3, ap (λ (l : List ℕ). at_place l h.0) same ∙ h.4)
made_leaf full w leaves a _ same h = tt

pub leaves_written : (full : List FullLine) (items new : List Item) (nodes leaves : List ℕ) (any : Bool) (first : ℕ) → LeavesMade full full items nodes leaves any → PutsFirst any items new first → LeavesWritten full (wrote new nodes leaves first)
leaves_written full items new nodes leaves any first h puts = record {
  source = h.source;
  inputs = λ k x is input.
      let own = input_made full items h.source x.id (at_place nodes k) (at_place leaves k) x.says input (h.each k x is) in
      record { given = own.given; sort = own.sort; input = stands_still items new f.more (at_place nodes k) (body.Input own.sort) f.is own.stands; own = own.own };
  in_order = h.in_order ∙ ap (map (λ (y : Item). y.id)) (sym (ap (of_kind is_input) f.is ∙ kind_join is_input items f.more ∙ ap (λ (l : List Item). of_kind is_input items ++ l) f.no_inputs ∙ append-nil (of_kind is_input items)));
  states_in_order = ap₂ ◌++◌ h.states_in_order f.its_state ∙ sym (map-append (λ (y : Item). y.id) (of_kind is_state items) (of_kind is_state f.more)) ∙ ap (map (λ (y : Item). y.id)) (sym (ap (of_kind is_state) f.is ∙ kind_join is_state items f.more));
  states = λ k x is state. (state_made full items h.source x.id (at_place nodes k) (at_place leaves k) x.says state (h.each k x is)).own;
  no_others = subst (λ (l : List Item). AllByRecursion (λ (y : Item). IsLeaf full (wrote new nodes leaves first) y.id y.body) l) (sym f.is)
      (all_join (λ (y : Item). IsLeaf full (wrote new nodes leaves first) y.id y.body) items f.more
      (all_with (λ (y : Item). IsStateOf full leaves y.id y.body) (λ (y : Item). IsLeaf full (wrote new nodes leaves first) y.id y.body) items (λ y. made_leaf full (wrote new nodes leaves first) leaves y.id y.body refl) h.no_others)
      (f.states (wrote new nodes leaves first) refl));
  first = λ given. f.written (wrote new nodes leaves first) refl refl given;
}
  where
    f : HasFirst full items new any first
    f = first_by full items new any first h.early puts

none_of : (full : List FullLine) (w : Writing) (kind : Body → Bool) → of_kind kind w.items ≡ [] → PropertiesStand full [] w kind
none_of full w kind e = subst (λ (l : List Item). AllZip (λ o a. Settled full w (λ p wide. HasWord full p wide o a)) (full_nodes kind []) (flat_map (λ (y : Item). operands y.body) l)) (sym e) tt

pub late_at_first : (full : List FullLine) (items new : List Item) (nodes leaves : List ℕ) (any : Bool) (first : ℕ) → LeavesMade full full items nodes leaves any → PutsFirst any items new first → LateWritten full [] (wrote new nodes leaves first)
late_at_first full items new nodes leaves any first h puts = record {
  inits = tt;
  nexts = tt;
  no_init = λ id names none. f.no_init (leaf_at full (wrote new nodes leaves first) id) (other id names);
  no_next = λ id names none. f.no_next (leaf_at full (wrote new nodes leaves first) id) (other id names);
  bads = none_of full (wrote new nodes leaves first) is_bad f.no_bads;
  constraints = none_of full (wrote new nodes leaves first) is_constraint f.no_constraints;
  outputs = none_of full (wrote new nodes leaves first) is_output f.no_outputs;
  forms = f.forms;
}
  where
    f : HasFirst full items new any first
    f = first_by full items new any first h.early puts

    other : (id : ℕ) → names_full_state full id ≡ true → IsOther first (leaf_at full (wrote new nodes leaves first) id)
    other id names =
        let line = state_line full id names in
        let own = state_made full items h.source line.line.id (at_place nodes (place_of full id)) (at_place leaves (place_of full id)) line.line.says line.state (h.each (place_of full id) line.line line.at) in
        f.other (at_place leaves (place_of full id)) own.stands.0 own.stands.1

pub leaf_nodes : (full : List FullLine) (items new : List Item) (nodes leaves : List ℕ) (any : Bool) (first : ℕ) → LeavesMade full full items nodes leaves any → LeafNodes full (wrote new nodes leaves first)
leaf_nodes full items new nodes leaves any first h = record {
  inputs = λ k x is input. (input_made full items h.source x.id (at_place nodes k) (at_place leaves k) x.says input (h.each k x is)).given;
  states = λ k x is state other.
      let own = state_made full items h.source x.id (at_place nodes k) (at_place leaves k) x.says state (h.each k x is) in
      subst IsGiven (sym (own.other other)) own.given;
}
