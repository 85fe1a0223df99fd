-- The nodes that have the words of a model's states, in the list that it is written out as, have their whole words in the list with cells.
use Rattle.std.proofs.Common.{◌≡◌, ℕ, zero, suc, Bool, true, false, cond, List, [], ◌∷◌, ◌++◌, map, Option, Some, None, is_some, slice_get, option_map, option_and_then, refl, sym, ap, subst, subst₂, ◌∙◌, inl, inr}
use Rattle.std.specs.List.{AllByRecursion, AllZip}
use Rattle.btor2.specs.declared.item.Item.{Item}
use Rattle.btor2.specs.declared.item.Body.{Body}
use Rattle.btor2.specs.declared.item.Body.TheVariants as body
use Rattle.btor2.specs.Items.{find_item, node_sort, sort_width, width_of_body, node_width, names_state, is_input, is_state}
use Rattle.btor2.proofs.AppendLemmas.{sort_width-append, is_some_from}
use Rattle.btor2.proofs.ModelLemmas.{IsIn-from_find}
use Rattle.wide.specs.WideModels.{greatest_width, IsWideModel}
use Rattle.wide.proofs.GrowLemmas.{refusal_at}
use Rattle.full.specs.Lines.{Operand, Says, form, FullLine, is_form, lines_of, full_ids, init_of}
use Rattle.full.specs.WrittenOut.{Places, one_id, StateIsWritten, LeafIsWritten, InitIsWritten, IsWrittenOut}
use Rattle.full.proofs.ListLemmas.{all_with}
use Rattle.full.proofs.FullLookUps.{init_said}
use Rattle.fit.specs.Fitting.{Layout}
use Rattle.celled.specs.Celled.{IsCelledOf}
use Rattle.celled.specs.Spots.{Spots}
use Rattle.celled.specs.Whole.{IsWhole, HasWholes}
use Rattle.celled.specs.Written.{leaf_cells, HasNodes, IsWrittenInCells}
use Rattle.celled.proofs.CopiedLemmas.{sort_of_line}

-- ---- nodes with a value

-- a line with a value has a width
node_there : (items : List Item) (id s : ℕ) (x : Item) → IsWideModel greatest_width items → find_item items id ≡ Some x → node_sort x.body ≡ Some s → is_some (node_width items id) ≡ true
node_there items id s x model found names =
    let w = (IsIn-from_find items id x found).0 in
    let sort = sort_of_line w.before x s (refusal_at greatest_width w.before w.after x (subst (IsWideModel greatest_width) w.splits model)) names in
    is_some_from (node_width items id) sort.0
    (ap (option_and_then (λ (y : Item). width_of_body items y.body)) found ∙ ap (option_and_then (sort_width items)) names ∙ ap (λ (l : List Item). sort_width l s) w.splits ∙ sort_width-append w.before (x ∷ w.after) s sort.0 sort.1)

state_sort : (b : Body) → is_state b ≡ true → (s : ℕ) × (node_sort b ≡ Some s)
state_sort (body.State s) h = (s, refl)
state_sort _ h = absurd (cc)

-- a state has one
state_there : (items : List Item) (id : ℕ) → IsWideModel greatest_width items → names_state items id ≡ true → is_some (node_width items id) ≡ true
state_there items id model names = by (find_item items id) refl names
  where
    at : (x : Item) (b : Bool) → find_item items id ≡ Some x → is_state x.body ≡ b → is_some (cond b (Some x) None) ≡ true → is_some (node_width items id) ≡ true
    at x true found is h = let sort = state_sort x.body is in node_there items id sort.0 x model found sort.1
    at x false found is h = absurd (cc)

    by : (o : Option Item) → find_item items id ≡ o → is_some (option_and_then (λ (y : Item). cond (is_state y.body) (Some y) None) o) ≡ true → is_some (node_width items id) ≡ true
    by None found h = absurd (cc)
    by (Some x) found h = at x (is_state x.body) found refl h

-- ---- the states of a model

-- the state of a state, and the node of its word, have a value
abbrev IsThere : Places → List Item → ℕ → Type 0
IsThere p wide id = (is_some (node_width wide (p.leaf id)) ≡ true) × (is_some (node_width wide (p.node id)) ≡ true)

both_there : (full : List FullLine) (p : Places) (wide : List Item) (id : ℕ) → IsWrittenOut full p wide → StateIsWritten full p wide id → IsThere p wide id
both_there full p wide id h state = (leaf, node (init_of full id) refl)
  where
    leaf : is_some (node_width wide (p.leaf id)) ≡ true
    leaf = state_there wide (p.leaf id) h.well_formed state.state

    begun : (o : Operand) → InitIsWritten full p wide id o → is_some (node_width wide (p.node id)) ≡ true
    begun o (inl same) = ap (λ (a : ℕ). is_some (node_width wide a)) same.same ∙ leaf
    begun o (inr first) = let is = first.chooses in node_there wide (p.node id) first.sort is.0 h.well_formed is.1 (ap node_sort is.2)

    node : (o : Option Operand) → init_of full id ≡ o → is_some (node_width wide (p.node id)) ≡ true
    node None e = ap (λ (a : ℕ). is_some (node_width wide a)) (state.no_init e).0 ∙ leaf
    node (Some o) e = begun o (init_said (InitIsWritten full p wide) full id o h.inits e)

state_written : (full : List FullLine) (p : Places) (wide : List Item) (id : ℕ) (b : Says) → is_form is_state b ≡ true → LeafIsWritten full p wide id b → StateIsWritten full p wide id
state_written full p wide id (form (body.State s) minuses) is h = h
state_written full p wide id (form _ minuses) is h = absurd (cc)
state_written full p wide id _ is h = absurd (cc)

-- of each state, in file order
each_whole : (wide : List Item) (layout : Layout) (celled : List Item) (t : Spots) (place : ℕ → ℕ) (xs : List FullLine) → HasWholes wide layout celled t → AllByRecursion (λ (x : FullLine). is_form is_state x.says ≡ true → is_some (node_width wide (place x.id)) ≡ true) xs
    → AllZip (IsWhole wide layout celled) (map place (full_ids is_state xs)) (map t.node (map place (full_ids is_state xs)))
each_whole wide layout celled t place [] has h = tt
each_whole wide layout celled t place (x ∷ xs) has h = by (is_form is_state x.says) h.0 (each_whole wide layout celled t place xs has h.1)
  where
    ids : Bool → List ℕ
    ids b = map place (map (λ (y : FullLine). y.id) (cond b (x ∷ lines_of is_state xs) (lines_of is_state xs)))

    by : (b : Bool) → (b ≡ true → is_some (node_width wide (place x.id)) ≡ true) → AllZip (IsWhole wide layout celled) (map place (full_ids is_state xs)) (map t.node (map place (full_ids is_state xs)))
        → AllZip (IsWhole wide layout celled) (ids b) (map t.node (ids b))
    by true own rest = (has (place x.id) (own refl), rest)
    by false own rest = rest

got : (f : ℕ → ℕ) (xs : List ℕ) (i : ℕ) → slice_get (map f xs) i ≡ option_map f (slice_get xs i)
got f [] i = refl
got f (x ∷ xs) zero = refl
got f (x ∷ xs) (suc i) = got f xs i

-- where two stand at one place they become one
go_together : (f : ℕ → ℕ) (xs ys us vs : List ℕ) (i : ℕ) → us ≡ map f xs → vs ≡ map f ys → slice_get xs i ≡ slice_get ys i → slice_get us i ≡ slice_get vs i
go_together f xs ys us vs i of_xs of_ys same =
    ap (λ (l : List ℕ). slice_get l i) of_xs ∙ got f xs i ∙ ap (option_map f) same ∙ sym (got f ys i) ∙ sym (ap (λ (l : List ℕ). slice_get l i) of_ys)

module _ (full : List FullLine) (p : Places) (wide : List Item) (h : IsWrittenOut full p wide) where
  each : AllByRecursion (λ (x : FullLine). is_form is_state x.says ≡ true → IsThere p wide x.id) full
  each =
      all_with (λ (x : FullLine). LeafIsWritten full p wide x.id x.says) (λ (x : FullLine). is_form is_state x.says ≡ true → IsThere p wide x.id) full
      (λ x own is. both_there full p wide x.id h (state_written full p wide x.id x.says is own)) h.leaves

  pub leaves_whole : (layout : Layout) (celled : List Item) (t : Spots) → HasWholes wide layout celled t → AllZip (IsWhole wide layout celled) (map p.leaf (full_ids is_state full)) (map t.node (map p.leaf (full_ids is_state full)))
  leaves_whole layout celled t has =
      each_whole wide layout celled t p.leaf full has
      (all_with (λ (x : FullLine). is_form is_state x.says ≡ true → IsThere p wide x.id) (λ (x : FullLine). is_form is_state x.says ≡ true → is_some (node_width wide (p.leaf x.id)) ≡ true) full (λ x own is. (own is).0) each)

  pub nodes_whole : (layout : Layout) (celled : List Item) (t : Spots) → HasWholes wide layout celled t → AllZip (IsWhole wide layout celled) (map p.node (full_ids is_state full)) (map t.node (map p.node (full_ids is_state full)))
  nodes_whole layout celled t has =
      each_whole wide layout celled t p.node full has
      (all_with (λ (x : FullLine). is_form is_state x.says ≡ true → IsThere p wide x.id) (λ (x : FullLine). is_form is_state x.says ≡ true → is_some (node_width wide (p.node x.id)) ≡ true) full (λ x own is. (own is).1) each)

  -- and so the model is written out with the nodes of the words
  pub words_whole : (inputs states : List ℕ) (celled : List Item) (t : Spots) (leaves nodes : List ℕ) → inputs ≡ leaf_cells is_input full → states ≡ leaf_cells is_state full ++ map (λ w. 1) (one_id p.first)
      → (c : IsCelledOf wide inputs states celled) × HasWholes wide c.layout celled t → leaves ≡ map t.node (map p.leaf (full_ids is_state full)) → nodes ≡ map t.node (map p.node (full_ids is_state full))
      → (w : IsWrittenInCells full celled) × HasNodes full celled w leaves nodes
  words_whole inputs states celled t leaves nodes of_inputs of_states has at_leaves at_nodes =
      let own = subst₂ (λ (i s : List ℕ). (c : IsCelledOf wide i s celled) × HasWholes wide c.layout celled t) of_inputs of_states has in (
        record { places = p; wide = wide; written = h; cells = own.0 },
        record {
          leaves = subst (AllZip (IsWhole wide own.0.layout celled) (map p.leaf (full_ids is_state full))) (sym at_leaves) (leaves_whole own.0.layout celled t own.1);
          nodes = subst (AllZip (IsWhole wide own.0.layout celled) (map p.node (full_ids is_state full))) (sym at_nodes) (nodes_whole own.0.layout celled t own.1);
          together = λ i same. go_together t.node (map p.leaf (full_ids is_state full)) (map p.node (full_ids is_state full)) leaves nodes i at_leaves at_nodes same;
        },
      )
