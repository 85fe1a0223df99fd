-- A list that goes on by one line.
use Rattle.std.proofs.Common.{◌≡◌, ℕ, Bool, true, false, cond, List, [], ◌∷◌, ◌++◌, map, filter, flat_map, Option, Some, None, is_some, option_and_then, refl, sym, ap, ap₂, subst, ◌∙◌}
use Rattle.std.specs.List.{AllByRecursion, AllZip}
use Rattle.std.proofs.lemmas.List.{map-append}
use Rattle.std.proofs.lemmas.Grind.{flat_map-append}
use Rattle.btor2.specs.declared.item.Item.{Item}
use Rattle.btor2.specs.declared.item.Body.{Body}
use Rattle.btor2.specs.declared.item.Body.TheVariants as body
use Rattle.btor2.specs.Items.{find_item, node_width, width_of_body, names_state, is_input, is_state, is_bad, is_constraint, init_value, next_value}
use Rattle.btor2.specs.Reachability.{nodes_of}
use Rattle.btor2.proofs.AppendLemmas.{names_state-append, then_parts, some_of, is_some_from}
use Rattle.wide.specs.WideModels.{greatest_width, wide_refusal, IsWideAfter, IsWideModel}
use Rattle.wide.proofs.GrowLemmas.{tests_false, model_push}
use Rattle.full.proofs.ListLemmas.{all_with, all_join}
use Rattle.full.proofs.WideLemmas.{found_by_id}
use Rattle.fit.specs.Fitting.{is_output, ids_of, NamesEarlierAfter}
use Rattle.fit.proofs.FrameLemmas.{all_named, properties_there}
use Rattle.fit.proofs.ListLemmas.{to_ids}
use Rattle.fitting.specs.Fitted.{is_leaf, leaf_ids}
use Rattle.fitting.specs.Models.{input_ids, state_ids}
use Rattle.fitting.specs.Names.{names_of}
use Rattle.fitting.proofs.GrowLemmas.{init_value-append, next_value-append}
use Rattle.fitting.proofs.NameLemmas.{split_names}
use Rattle.writeout.specs.Faults.{is_live_body, NoneIsLiveItem}
use Rattle.writeout.proofs.LateLemmas.{nodes_joined, zip_joined}
use Rattle.cells.specs.Lines.{IsAmong}
use Rattle.celled.specs.Celled.{HasCells}
use Rattle.celled.specs.Spots.{Spots, layout_by}
use Rattle.celled.specs.Split.{Settled, Stands, IsOwned, ShowsAlike, IsSplit}
use Rattle.celled.specs.Steps.{size_by}
use Rattle.celled.proofs.StandLemmas.{Same, goes_back, layout_same}

-- ---- lists in two parts

pub ids_split : (kind : Item → Bool) (xs ys : List Item) → ids_of kind (xs ++ ys) ≡ ids_of kind xs ++ ids_of kind ys
ids_split kind [] ys = refl
ids_split kind (x ∷ xs) ys = by (kind x) (ids_split kind xs ys)
  where
    by : (b : Bool) → ids_of kind (xs ++ ys) ≡ ids_of kind xs ++ ids_of kind ys
        → map (λ y. y.id) (cond b (x ∷ filter kind (xs ++ ys)) (filter kind (xs ++ ys))) ≡ map (λ y. y.id) (cond b (x ∷ filter kind xs) (filter kind xs)) ++ ids_of kind ys
    by true e = ap (λ (l : List ℕ). x.id ∷ l) e
    by false e = e

ordered : (front xs : List Item) → IsWideAfter greatest_width front xs → NamesEarlierAfter front xs
ordered front [] h = tt
ordered front (x ∷ xs) h = ((tests_false greatest_width front x h.0).1.1.1.1.0, ordered (front ++ x ∷ []) xs h.1)

pub names_earlier : (items : List Item) → IsWideModel greatest_width items → NamesEarlierAfter [] items
names_earlier items h = ordered [] items h

node_found : (front : List Item) (a : ℕ) → is_some (node_width front a) ≡ true → is_some (find_item front a) ≡ true
node_found front a h =
    let width = some_of (node_width front a) h in
    let parts = then_parts (λ (x : Item). width_of_body front x.body) (find_item front a) width.0 width.1 in
    is_some_from (find_item front a) parts.0 parts.1

state_found : (front : List Item) (id : ℕ) → names_state front id ≡ true → is_some (find_item front id) ≡ true
state_found front id names = by (find_item front id) names
  where
    by : (o : Option Item) → is_some (option_and_then (λ (x : Item). cond (is_state x.body) (Some x) None) o) ≡ true → is_some o ≡ true
    by None h = h
    by (Some y) h = refl

pub same_map : (f g : ℕ → ℕ) (ids : List ℕ) → AllByRecursion (λ a. f a ≡ g a) ids → map f ids ≡ map g ids
same_map f g [] h = refl
same_map f g (a ∷ more) h = ap₂ ◌∷◌ h.0 (same_map f g more h.1)

same_pieces : (f g : ℕ → List ℕ) (ids : List ℕ) → AllByRecursion (λ a. f a ≡ g a) ids → flat_map f ids ≡ flat_map g ids
same_pieces f g [] h = refl
same_pieces f g (a ∷ more) h = ap₂ ◌++◌ h.0 (same_pieces f g more h.1)

-- ---- one line more

-- the lines of a kind that are added show what the line shows
pub record ShowsMore (kind : Body → Bool) (x : Item) (t' : Spots) (more : List Item) : Type 0 where
  pub nodes : map t'.node (nodes_of kind (x ∷ [])) ≡ nodes_of kind more
  pub names : names_of kind (x ∷ []) ≡ names_of kind more

pub record Step (front : List Item) (t : Spots) (celled : List Item) (x : Item) (size : ℕ) (t' : Spots) (celled' : List Item) : Type 0 where
  pub accepted : wide_refusal greatest_width front x ≡ None
  pub more : List Item
  pub is : celled' ≡ celled ++ more
  pub same : Same front t t'
  pub own : Settled (front ++ x ∷ []) t' celled' (Stands x)
  pub inputs : Settled (front ++ x ∷ []) t' celled' (λ w u n. AllZip (HasCells (layout_by u) n) (input_ids (x ∷ [])) (size_by is_input x size))
  pub states : Settled (front ++ x ∷ []) t' celled' (λ w u n. AllZip (HasCells (layout_by u) n) (state_ids (x ∷ [])) (size_by is_state x size))
  pub leaves : flat_map (layout_by t') (leaf_ids (x ∷ [])) ≡ leaf_ids more
  pub owners : AllByRecursion (λ (y : Item). IsOwned (front ++ x ∷ []) t' y.body) more
  pub bads : ShowsMore is_bad x t' more
  pub constraints : ShowsMore is_constraint x t' more
  pub outputs : ShowsMore is_output x t' more
  pub forms : is_live_body x.body ≡ false → NoneIsLiveItem more

owned_on : (front : List Item) (x : Item) (t t' : Spots) (b : Body) → Same front t t' → IsOwned front t b → IsOwned (front ++ x ∷ []) t' b
owned_on front x t t' (body.Init s p c) same h =
    let found = state_found front h.0 h.1 in
    let value = some_of (init_value front h.0) h.3 in
    (h.0, names_state-append front (x ∷ []) h.0 h.1, subst (IsAmong p) (sym (layout_same t t' h.0 (same.first h.0 found) (same.count h.0 found))) h.2, is_some_from (init_value (front ++ x ∷ []) h.0) value.0 (init_value-append front (x ∷ []) h.0 value.0 value.1))
owned_on front x t t' (body.Next s p c) same h =
    let found = state_found front h.0 h.1 in
    let value = some_of (next_value front h.0) h.3 in
    (h.0, names_state-append front (x ∷ []) h.0 h.1, subst (IsAmong p) (sym (layout_same t t' h.0 (same.first h.0 found) (same.count h.0 found))) h.2, is_some_from (next_value (front ++ x ∷ []) h.0) value.0 (next_value-append front (x ∷ []) h.0 value.0 value.1))
owned_on front x t t' _ same h = tt

shows_on : (kind : Body → Bool) (front celled more : List Item) (x : Item) (t t' : Spots) → IsWideModel greatest_width front → Same front t t' → ShowsAlike kind front t celled → ShowsMore kind x t' more → ShowsAlike kind (front ++ x ∷ []) t' (celled ++ more)
shows_on kind front celled more x t t' w same h m =
    let named = properties_there front kind front (all_named front (names_earlier front w)) in
    let old : map t'.node (nodes_of kind front) ≡ map t.node (nodes_of kind front) =
    same_map t'.node t.node (nodes_of kind front) (all_with (λ a. is_some (node_width front a) ≡ true) (λ a. t'.node a ≡ t.node a) (nodes_of kind front) (λ a there. same.node a (node_found front a there)) named) in
    record {
      nodes = ap (map t'.node) (nodes_joined kind front (x ∷ [])) ∙ map-append t'.node (nodes_of kind front) (nodes_of kind (x ∷ [])) ∙ ap₂ ◌++◌ (old ∙ h.nodes) m.nodes ∙ sym (nodes_joined kind celled more);
      names = split_names kind front (x ∷ []) ∙ ap₂ ◌++◌ h.names m.names ∙ sym (split_names kind celled more);
    }

all_found : (front : List Item) (kind : Item → Bool) → IsWideModel greatest_width front → AllByRecursion (λ id. is_some (find_item front id) ≡ true) (ids_of kind front)
all_found front kind w =
    to_ids (λ id. is_some (find_item front id) ≡ true) kind front
    (all_with (λ (x : Item). find_item front x.id ≡ Some x) (λ (x : Item). kind x ≡ true → is_some (find_item front x.id) ≡ true) front (λ x e is. is_some_from (find_item front x.id) x e) (found_by_id greatest_width front w))

front_live : (xs ys : List Item) → NoneIsLiveItem (xs ++ ys) → NoneIsLiveItem xs × NoneIsLiveItem ys
front_live [] ys h = (tt, h)
front_live (x ∷ xs) ys h = let rest = front_live xs ys h.1 in ((h.0, rest.0), rest.1)

pub split_on : (front : List Item) (t : Spots) (celled : List Item) (inputs states : List ℕ) (x : Item) (size : ℕ) (t' : Spots) (celled' : List Item) → IsSplit front t celled inputs states → Step front t celled x size t' celled'
    → IsSplit (front ++ x ∷ []) t' celled' (inputs ++ size_by is_input x size) (states ++ size_by is_state x size)
split_on front t celled inputs states x size t' celled' h s =
    record {
      wide_model = model_push greatest_width front x h.wide_model s.accepted;
      stand = all_join (λ (y : Item). Settled (front ++ x ∷ []) t' celled' (Stands y)) front (x ∷ [])
          (all_with (λ (y : Item). Settled front t celled (Stands y)) (λ (y : Item). Settled (front ++ x ∷ []) t' celled' (Stands y)) front (λ y own w u n g. own w u n (goes_back front x t t' celled celled' s.more w u n s.is s.same g)) h.stand)
          (s.own, tt);
      input_cells = λ w u n g. subst (λ (l : List ℕ). AllZip (HasCells (layout_by u) n) l (inputs ++ size_by is_input x size)) (sym (ids_split (λ y. is_input y.body) front (x ∷ [])))
          (zip_joined (HasCells (layout_by u) n) (input_ids front) (input_ids (x ∷ [])) inputs (size_by is_input x size) (h.input_cells w u n (goes_back front x t t' celled celled' s.more w u n s.is s.same g)) (s.inputs w u n g));
      state_cells = λ w u n g. subst (λ (l : List ℕ). AllZip (HasCells (layout_by u) n) l (states ++ size_by is_state x size)) (sym (ids_split (λ y. is_state y.body) front (x ∷ [])))
          (zip_joined (HasCells (layout_by u) n) (state_ids front) (state_ids (x ∷ [])) states (size_by is_state x size) (h.state_cells w u n (goes_back front x t t' celled celled' s.more w u n s.is s.same g)) (s.states w u n g));
      leaves = ap (flat_map (layout_by t')) (ids_split is_leaf front (x ∷ [])) ∙ flat_map-append (layout_by t') (leaf_ids front) (leaf_ids (x ∷ []))
          ∙ ap₂ ◌++◌ (same_pieces (layout_by t') (layout_by t) (leaf_ids front)
          (all_with (λ id. is_some (find_item front id) ≡ true) (λ id. layout_by t' id ≡ layout_by t id) (leaf_ids front) (λ id found. layout_same t t' id (s.same.first id found) (s.same.count id found)) (all_found front is_leaf h.wide_model)) ∙ h.leaves) s.leaves
          ∙ sym (ids_split is_leaf celled s.more) ∙ ap leaf_ids (sym s.is);
      owners = subst (AllByRecursion (λ (y : Item). IsOwned (front ++ x ∷ []) t' y.body)) (sym s.is)
          (all_join (λ (y : Item). IsOwned (front ++ x ∷ []) t' y.body) celled s.more (all_with (λ (y : Item). IsOwned front t y.body) (λ (y : Item). IsOwned (front ++ x ∷ []) t' y.body) celled (λ y own. owned_on front x t t' y.body s.same own) h.owners) s.owners);
      bads = subst (ShowsAlike is_bad (front ++ x ∷ []) t') (sym s.is) (shows_on is_bad front celled s.more x t t' h.wide_model s.same h.bads s.bads);
      constraints = subst (ShowsAlike is_constraint (front ++ x ∷ []) t') (sym s.is) (shows_on is_constraint front celled s.more x t t' h.wide_model s.same h.constraints s.constraints);
      outputs = subst (ShowsAlike is_output (front ++ x ∷ []) t') (sym s.is) (shows_on is_output front celled s.more x t t' h.wide_model s.same h.outputs s.outputs);
      forms = λ none. let parts = front_live front (x ∷ []) none in
          subst NoneIsLiveItem (sym s.is) (all_join (λ (y : Item). is_live_body y.body ≡ false) celled s.more (h.forms parts.0) (s.forms parts.1.0));
    }
