-- A line that is added as it is.
use Rattle.std.proofs.Common.{◌≡◌, ℕ, Bool, true, false, not, List, [], ◌∷◌, Option, Some, None, IfSome, is_some, is_none, refl, sym, ap, ap₂, subst, ◌∙◌, inl}
use Rattle.std.specs.List.{AllByRecursion}
use Rattle.std.specs.Option.{option_map_or}
use Rattle.btor2.specs.declared.item.Item.{Item}
use Rattle.btor2.specs.declared.item.Body.{Body}
use Rattle.btor2.specs.declared.item.Body.TheVariants as body
use Rattle.btor2.specs.Items.{named_sort, operands, sort_width, node_width, constant_of, names_state, init_value, next_value}
use Rattle.btor2.specs.Check.{sort_is_missing, state_is_none, init_is_not_constant, is_second_init, is_second_next}
use Rattle.btor2.proofs.AppendLemmas.{some_of, none_of}
use Rattle.wide.specs.WideModels.{greatest_width, wide_refusal, IsWideModel}
use Rattle.wide.proofs.GrowLemmas.{tests_false}
use Rattle.full.proofs.ListLemmas.{all_with}
use Rattle.fit.proofs.FrameLemmas.{AreNodes, operands_there}
use Rattle.cells.specs.Lines.{IsAmong}
use Rattle.celled.specs.Spots.{Spots, layout_by, ids_from}
use Rattle.celled.specs.Split.{renamed, GoesOn, IsSplit}
use Rattle.celled.specs.Steps.{IsSingle}
use Rattle.celled.proofs.StandLemmas.{AllStand, goes_same, sort_at, Known, known_at, constant_at, cells_open, cells_loose, cells_named}
use Rattle.celled.proofs.SoundLemmas.{Carried}

-- ---- what the list has of what the line names

sort_there : (front celled : List Item) (t : Spots) (b : Body) → AllStand front t celled → GoesOn front t celled front t celled → sort_is_missing front b ≡ false → IfSome (named_sort b) (λ s. sort_width celled (t.node s) ≡ sort_width front s)
unfolding sort_is_missing
sort_there front celled t b stand g h = by (named_sort b) h
  where
    there : (o : Option ℕ) → is_none o ≡ false → is_some o ≡ true
    there None h = absurd (cc)
    there (Some n) h = refl

    by : (o : Option ℕ) → option_map_or (λ s. is_none (sort_width front s)) o false ≡ false → IfSome o (λ s. sort_width celled (t.node s) ≡ sort_width front s)
    by None h = tt
    by (Some s) h = let width = some_of (sort_width front s) (there (sort_width front s) h) in sort_at front t celled front t celled s width.0 stand g width.1 ∙ sym width.1

nodes_there : (front celled : List Item) (t : Spots) (ids : List ℕ) → AllStand front t celled → GoesOn front t celled front t celled → AreNodes front ids → AllByRecursion (λ a. node_width celled (t.node a) ≡ node_width front a) ids
nodes_there front celled t ids stand g h =
    all_with (λ a. is_some (node_width front a) ≡ true) (λ a. node_width celled (t.node a) ≡ node_width front a) ids (λ a there. let k = known_at front t celled front t celled a stand g there in k.in_celled ∙ sym k.in_front) h

-- a node of one cell is its cell
pub single_layout : (front w : List Item) (u : Spots) (n : List Item) (a : ℕ) → Known front w u n a → u.count a ≡ 1 → layout_by u a ≡ u.node a ∷ []
single_layout front w u n a k one = ap₂ ids_from (k.has.alone one) one

state_not_none : (front : List Item) (s id v : ℕ) → state_is_none front (body.Init s id v) ≡ false → names_state front id ≡ true
unfolding state_is_none
state_not_none front s id v h = by (names_state front id) h
  where
    by : (b : Bool) → not b ≡ false → b ≡ true
    by true h = refl
    by false h = absurd (cc)

next_not_none : (front : List Item) (s id v : ℕ) → state_is_none front (body.Next s id v) ≡ false → names_state front id ≡ true
unfolding state_is_none
next_not_none front s id v h = by (names_state front id) h
  where
    by : (b : Bool) → not b ≡ false → b ≡ true
    by true h = refl
    by false h = absurd (cc)

first_of_state : (front : List Item) (s id v : ℕ) → is_second_init front (body.Init s id v) ≡ false → init_value front id ≡ None
unfolding is_second_init
first_of_state front s id v h = none_of (init_value front id) h

first_next_of : (front : List Item) (s id v : ℕ) → is_second_next front (body.Next s id v) ≡ false → next_value front id ≡ None
unfolding is_second_next
first_next_of front s id v h = none_of (next_value front id) h

constant_there : (front : List Item) (s id v : ℕ) → init_is_not_constant front (body.Init s id v) ≡ false → (c : ℕ) × (constant_of front v ≡ Some c)
unfolding init_is_not_constant
constant_there front s id v h = by (constant_of front v) h
  where
    by : (o : Option ℕ) → is_none o ≡ false → (c : ℕ) × (o ≡ Some c)
    by None h = absurd (cc)
    by (Some c) h = (c, refl)

-- what an init line that is accepted says
pub record InitSaid (front : List Item) (s id v : ℕ) : Type 0 where
  pub state : names_state front id ≡ true
  pub there : is_some (node_width front id) ≡ true
  pub value : is_some (node_width front v) ≡ true
  pub constant : ℕ
  pub word : constant_of front v ≡ Some constant
  pub first : init_value front id ≡ None

pub init_said : (front : List Item) (x : Item) (s id v : ℕ) → wide_refusal greatest_width front x ≡ None → x.body ≡ body.Init s id v → InitSaid front s id v
init_said front x s id v accepted e =
    let rows = tests_false greatest_width front x accepted in
    let nodes = subst (λ (b : Body). AreNodes front (operands b)) e (operands_there front x.body rows.1.1.1.1.0) in
    let constant = constant_there front s id v (subst (λ (b : Body). init_is_not_constant front b ≡ false) e rows.1.1.1.1.1.1.1.1.1.1.0) in
    record {
      state = state_not_none front s id v (subst (λ (b : Body). state_is_none front b ≡ false) e rows.1.1.1.1.1.0);
      there = nodes.0;
      value = nodes.1.0;
      constant = constant.0;
      word = constant.1;
      first = first_of_state front s id v (subst (λ (b : Body). is_second_init front b ≡ false) e rows.1.1.1.1.1.1.1.1.1.1.1.0);
    }

pub record NextSaid (front : List Item) (s id v : ℕ) : Type 0 where
  pub state : names_state front id ≡ true
  pub there : is_some (node_width front id) ≡ true
  pub value : is_some (node_width front v) ≡ true
  pub first : next_value front id ≡ None

pub next_said : (front : List Item) (x : Item) (s id v : ℕ) → wide_refusal greatest_width front x ≡ None → x.body ≡ body.Next s id v → NextSaid front s id v
next_said front x s id v accepted e =
    let rows = tests_false greatest_width front x accepted in
    let nodes = subst (λ (b : Body). AreNodes front (operands b)) e (operands_there front x.body rows.1.1.1.1.0) in
    record {
      state = next_not_none front s id v (subst (λ (b : Body). state_is_none front b ≡ false) e rows.1.1.1.1.1.0);
      there = nodes.0;
      value = nodes.1.0;
      first = first_next_of front s id v (subst (λ (b : Body). is_second_next front b ≡ false) e rows.1.1.1.1.1.1.1.1.1.1.1.1.0);
    }

-- the state of an init line of one cell, and of a next line
pub record SingleState (celled : List Item) (p : ℕ) : Type 0 where
  pub state : names_state celled p ≡ true

single_state : (front celled : List Item) (t : Spots) (id : ℕ) → AllStand front t celled → GoesOn front t celled front t celled → names_state front id ≡ true → is_some (node_width front id) ≡ true → t.count id ≡ 1 → (names_state celled (t.node id) ≡ true) × IsAmong (t.node id) (layout_by t id)
single_state front celled t id stand g state there one =
    let layout = single_layout front front t celled id (known_at front t celled front t celled id stand g there) one in (
      (subst (AllByRecursion (λ p. names_state celled p ≡ true)) layout (cells_named front t celled front t celled id stand g state)).0,
      subst (IsAmong (t.node id)) (sym layout) (inl refl),
    )

pub carried_facts : (front celled : List Item) (t : Spots) (inputs states : List ℕ) (x : Item) (size : ℕ) → IsSplit front t celled inputs states → IsWideModel greatest_width celled → wide_refusal greatest_width front x ≡ None → IsSingle front t size x.body
    → Carried front celled t.node x.body
unfolding state_is_none init_is_not_constant is_second_init is_second_next
carried_facts front celled t inputs states x size h m accepted single =
    let g = goes_same front t celled h.wide_model m in
    let rows = tests_false greatest_width front x accepted in
    record {
      sort = sort_there front celled t x.body h.stand g rows.1.1.1.0;
      nodes = nodes_there front celled t (operands x.body) h.stand g (operands_there front x.body rows.1.1.1.1.0);
      states = states_row x.body refl single;
      init = init_row x.body refl;
      first_init = first_init_row x.body refl single;
      first_next = first_next_row x.body refl single;
    }
  where
    go : GoesOn front t celled front t celled
    go = goes_same front t celled h.wide_model m

    of_init : (s id v : ℕ) → x.body ≡ body.Init s id v → t.count id ≡ 1 → (names_state celled (t.node id) ≡ true) × IsAmong (t.node id) (layout_by t id)
    of_init s id v e one = let said = init_said front x s id v accepted e in single_state front celled t id h.stand go said.state said.there one

    of_next : (s id v : ℕ) → x.body ≡ body.Next s id v → t.count id ≡ 1 → (names_state celled (t.node id) ≡ true) × IsAmong (t.node id) (layout_by t id)
    of_next s id v e one = let said = next_said front x s id v accepted e in single_state front celled t id h.stand go said.state said.there one

    states_row : (b : Body) → x.body ≡ b → IsSingle front t size b → state_is_none celled (renamed t.node b) ≡ false
    states_row (body.Init s id v) e one = ap not (of_init s id v e one).0
    states_row (body.Next s id v) e one = ap not (of_next s id v e one).0
    states_row _ e one = refl

    init_row : (b : Body) → x.body ≡ b → init_is_not_constant celled (renamed t.node b) ≡ false
    init_row (body.Init s id v) e = let said = init_said front x s id v accepted e in ap is_none (constant_at front t celled front t celled v said.constant h.stand go said.word)
    init_row _ e = refl

    first_init_row : (b : Body) → x.body ≡ b → IsSingle front t size b → is_second_init celled (renamed t.node b) ≡ false
    first_init_row (body.Init s id v) e one = let said = init_said front x s id v accepted e in ap is_some (cells_open front t celled inputs states id (t.node id) h m said.state (of_init s id v e one).1 said.first)
    first_init_row _ e one = refl

    first_next_row : (b : Body) → x.body ≡ b → IsSingle front t size b → is_second_next celled (renamed t.node b) ≡ false
    first_next_row (body.Next s id v) e one = let said = next_said front x s id v accepted e in ap is_some (cells_loose front t celled inputs states id (t.node id) h m said.state (of_next s id v e one).1 said.first)
    first_next_row _ e one = refl
