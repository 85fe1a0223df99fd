-- A list goes on by a line that is added as it is.
use Rattle.std.proofs.Common.{◌≡◌, ℕ, Bool, true, false, cond, ◌||◌, List, [], ◌∷◌, ◌++◌, map, flat_map, Option, Some, None, is_some, unwrap_or, append-nil, refl, sym, ap, ap₂, subst, ◌∙◌, inl, eq-eqb}
use Rattle.std.specs.List.{AllByRecursion, AllZip}
use Rattle.std.specs.Option.{option_or}
use Rattle.std.proofs.lemmas.Option.{same_Some}
use Rattle.btor2.specs.declared.item.Item.{Item}
use Rattle.btor2.specs.declared.item.Body.{Body}
use Rattle.btor2.specs.declared.item.Body.TheVariants as body
use Rattle.btor2.specs.Items.{node_sort, operands, node_width, sort_width, is_input, is_state, is_bad, is_constraint, init_value, next_value}
use Rattle.btor2.specs.Reachability.{nodes_of}
use Rattle.btor2.specs.Trace.{bits_of}
use Rattle.btor2.proofs.AppendLemmas.{names_state-append, is_some_from}
use Rattle.wide.specs.WideModels.{greatest_width}
use Rattle.wide.proofs.GrowLemmas.{tests_false}
use Rattle.full.proofs.ListLemmas.{all_with}
use Rattle.fit.specs.Fitting.{is_output}
use Rattle.fit.proofs.FrameLemmas.{operands_there}
use Rattle.fitting.specs.Fitted.{is_leaf, leaf_ids}
use Rattle.fitting.specs.Names.{names_of}
use Rattle.writeout.specs.Faults.{is_live_body}
use Rattle.writeout.proofs.LateLemmas.{inits_joined, nexts_joined}
use Rattle.cells.specs.Lines.{named, IsAmong}
use Rattle.celled.specs.Celled.{HasCells}
use Rattle.celled.specs.Spots.{Spots, layout_by, ids_from}
use Rattle.celled.specs.Split.{renamed, Settled, IsOwned}
use Rattle.celled.specs.Steps.{IsSingle}
use Rattle.celled.proofs.StandLemmas.{goes_same, fresh_in, spotted_same, layout_same}
use Rattle.celled.proofs.SoundLemmas.{renamed_operands}
use Rattle.celled.proofs.CopyLemmas.{init_said, next_said}
use Rattle.celled.proofs.CopiedLemmas.{Copied, Ready, copied_in, width_in, stands_in, single_at, own_spot, renamed_input, renamed_state, node_found}
use Rattle.celled.proofs.OnLemmas.{Step, same_map}

-- ---- kinds of renamed forms

renamed_bad : (to : ℕ → ℕ) (b : Body) → is_bad (renamed to b) ≡ is_bad b
renamed_bad to (body.Bad a) = refl
renamed_bad to _ = refl

renamed_constraint : (to : ℕ → ℕ) (b : Body) → is_constraint (renamed to b) ≡ is_constraint b
renamed_constraint to (body.Constraint a) = refl
renamed_constraint to _ = refl

renamed_output : (to : ℕ → ℕ) (b : Body) → is_output (renamed to b) ≡ is_output b
renamed_output to (body.Output a) = refl
renamed_output to _ = refl

renamed_live : (to : ℕ → ℕ) (b : Body) → is_live_body (renamed to b) ≡ is_live_body b
renamed_live to (body.Fair a) = refl
renamed_live to _ = refl

-- ---- what the line shows

one_kind : (kind : Body → Bool) (x y : Item) (to : ℕ → ℕ) → kind y.body ≡ kind x.body → map to (operands x.body) ≡ operands y.body → map to (nodes_of kind (x ∷ [])) ≡ nodes_of kind (y ∷ [])
one_kind kind x y to e h = by (kind x.body) (kind y.body) e
  where
    by : (b c : Bool) → c ≡ b → map to (flat_map (λ (z : Item). operands z.body) (cond b (x ∷ []) [])) ≡ flat_map (λ (z : Item). operands z.body) (cond c (y ∷ []) [])
    by true true e = ap (map to) (append-nil (operands x.body)) ∙ h ∙ sym (append-nil (operands y.body))
    by false false e = refl
    by true false e = absurd (cc)
    by false true e = absurd (cc)

one_name : (kind : Body → Bool) (x y : Item) → kind y.body ≡ kind x.body → x.symbol ≡ y.symbol → names_of kind (x ∷ []) ≡ names_of kind (y ∷ [])
one_name kind x y e h = by (kind x.body) (kind y.body) e
  where
    by : (b c : Bool) → c ≡ b → map (λ (z : Item). z.symbol) (cond b (x ∷ []) []) ≡ map (λ (z : Item). z.symbol) (cond c (y ∷ []) [])
    by true true e = ap (λ (o : Option (List ℕ)). o ∷ []) h
    by false false e = refl
    by true false e = absurd (cc)
    by false true e = absurd (cc)

-- ---- the cells

single_sort : (front : List Item) (t : Spots) (size : ℕ) (b : Body) → (is_input b || is_state b) ≡ true → IsSingle front t size b → (s : ℕ) × (node_sort b ≡ Some s) × (sort_width front s ≡ Some size)
single_sort front t size (body.Input s) is single = (s, refl, single)
single_sort front t size (body.State s) is single = (s, refl, single)
single_sort front t size _ is single = absurd (cc)

cells_in : (front : List Item) (t : Spots) (celled : List Item) (x : Item) (a : ℕ) (t' : Spots) (celled' : List Item) (place : ℕ) (inputs states : List ℕ) (size : ℕ) → Copied front t celled x a t' celled' place → Ready front t celled inputs states x size
    → is_leaf x ≡ true → Settled (front ++ x ∷ []) t' celled' (λ w u n. HasCells (layout_by u) n x.id size)
cells_in front t celled x a t' celled' place inputs states size c h leaf w u n g =
    let i = copied_in front t celled x a t' celled' place w u n c g in
    let sort = single_sort front t size x.body leaf h.single in
    let width = width_in front t celled x a t' celled' place w u n sort.0 c g i sort.1 in
    let bits : bits_of n a ≡ size = ap (λ (o : Option ℕ). unwrap_or o 0) width.node ∙ same_Some width.bits size (sym width.in_front ∙ sort.2) in
    subst (AllByRecursion (λ p. bits_of n p ≡ size)) (sym i.layout) (bits, tt)

pub one_size : (kind : Item → Bool) (x : Item) (size : ℕ) (P : ℕ → ℕ → Type 0) (b : Bool) → (b ≡ true → P x.id size) → AllZip P (map (λ (y : Item). y.id) (cond b (x ∷ []) [])) (cond b (size ∷ []) [])
one_size kind x size P true h = (h refl, tt)
one_size kind x size P false h = tt

-- ---- whose init and next lines they are

owner_in : (front : List Item) (t : Spots) (celled : List Item) (x : Item) (a : ℕ) (t' : Spots) (celled' : List Item) (place : ℕ) (inputs states : List ℕ) (size : ℕ) → Copied front t celled x a t' celled' place → Ready front t celled inputs states x size
    → IsOwned (front ++ x ∷ []) t' (renamed t.node x.body)
owner_in front t celled x a t' celled' place inputs states size c h = by x.body refl h.single
  where
    at : (id : ℕ) → is_some (node_width front id) ≡ true → t.count id ≡ 1 → IsAmong (t.node id) (layout_by t' id)
    at id there one =
        let same = spotted_same front t t' x.id a a 1 place (fresh_in front x c.accepted) c.spots in
        let found = node_found front id there in
        let layout = single_at front t celled front t celled id c.stand (goes_same front t celled c.wide_model c.model) there one in
        subst (IsAmong (t.node id)) (sym (layout_same t t' id (same.first id found) (same.count id found) ∙ layout)) (inl refl)

    by : (b : Body) → x.body ≡ b → IsSingle front t size b → IsOwned (front ++ x ∷ []) t' (renamed t.node b)
    by (body.Init s id v) e one =
        let said = init_said front x s id v c.accepted e in
        let own : init_value (x ∷ []) id ≡ Some v = ap (λ (b : Body). init_value (record { id = x.id; symbol = x.symbol; body = b } ∷ []) id) e ∙ ap (λ (b : Bool). option_or (cond b (Some v) None) None) (eq-eqb id id refl) in
        let value : init_value (front ++ x ∷ []) id ≡ Some v = inits_joined front (x ∷ []) id ∙ ap₂ option_or said.first own in
        (id, names_state-append front (x ∷ []) id said.state, at id said.there one, is_some_from (init_value (front ++ x ∷ []) id) v value)
    by (body.Next s id v) e one =
        let said = next_said front x s id v c.accepted e in
        let own : next_value (x ∷ []) id ≡ Some v = ap (λ (b : Body). next_value (record { id = x.id; symbol = x.symbol; body = b } ∷ []) id) e ∙ ap (λ (b : Bool). option_or (cond b (Some v) None) None) (eq-eqb id id refl) in
        let value : next_value (front ++ x ∷ []) id ≡ Some v = nexts_joined front (x ∷ []) id ∙ ap₂ option_or said.first own in
        (id, names_state-append front (x ∷ []) id said.state, at id said.there one, is_some_from (next_value (front ++ x ∷ []) id) v value)
    by _ e one = tt

-- ---- the leaves

one_leaf : (t' : Spots) (x y : Item) (a : ℕ) → is_leaf y ≡ is_leaf x → y.id ≡ a → layout_by t' x.id ≡ a ∷ [] → flat_map (layout_by t') (leaf_ids (x ∷ [])) ≡ leaf_ids (y ∷ [])
one_leaf t' x y a e at layout = by (is_leaf x) (is_leaf y) e
  where
    by : (b c : Bool) → c ≡ b → flat_map (layout_by t') (map (λ (z : Item). z.id) (cond b (x ∷ []) [])) ≡ map (λ (z : Item). z.id) (cond c (y ∷ []) [])
    by true true e = append-nil (layout_by t' x.id) ∙ layout ∙ ap (λ (k : ℕ). k ∷ []) (sym at)
    by false false e = refl
    by true false e = absurd (cc)
    by false true e = absurd (cc)

pub copied_step : (front : List Item) (t : Spots) (celled : List Item) (x : Item) (a : ℕ) (t' : Spots) (celled' : List Item) (place : ℕ) (inputs states : List ℕ) (size : ℕ) → Copied front t celled x a t' celled' place → Ready front t celled inputs states x size
    → Step front t celled x size t' celled'
copied_step front t celled x a t' celled' place inputs states size c h =
    let to = t.node in
    let y : Item = named a x.symbol (renamed to x.body) in
    let fresh = fresh_in front x c.accepted in
    let same = spotted_same front t t' x.id a a 1 place fresh c.spots in
    let named_there = operands_there front x.body (tests_false greatest_width front x c.accepted).1.1.1.1.0 in
    let shown : map t'.node (operands x.body) ≡ operands y.body =
    same_map t'.node to (operands x.body) (all_with (λ o. is_some (node_width front o) ≡ true) (λ o. t'.node o ≡ to o) (operands x.body) (λ o there. same.node o (node_found front o there)) named_there) ∙ sym (renamed_operands to x.body) in
    record {
      accepted = c.accepted;
      more = y ∷ [];
      is = c.put.is;
      same = same;
      own = stands_in front t celled x a t' celled' place inputs states size c h;
      inputs = λ w u n g. one_size (λ z. is_input z.body) x size (HasCells (layout_by u) n) (is_input x.body) (λ is. cells_in front t celled x a t' celled' place inputs states size c h (ap (λ (b : Bool). b || is_state x.body) is) w u n g);
      states = λ w u n g. one_size (λ z. is_state z.body) x size (HasCells (layout_by u) n) (is_state x.body) (λ is. cells_in front t celled x a t' celled' place inputs states size c h (ap (λ (b : Bool). is_input x.body || b) is ∙ either (is_input x.body)) w u n g);
      leaves = one_leaf t' x y a (ap₂ ◌||◌ (renamed_input to x.body) (renamed_state to x.body)) refl (ap₂ ids_from (c.spots.first_at x.id ∙ own_spot x.id a (t.first x.id)) (c.spots.count_at x.id ∙ own_spot x.id 1 (t.count x.id)));
      owners = (owner_in front t celled x a t' celled' place inputs states size c h, tt);
      bads = record { nodes = one_kind is_bad x y t'.node (renamed_bad to x.body) shown; names = one_name is_bad x y (renamed_bad to x.body) refl };
      constraints = record { nodes = one_kind is_constraint x y t'.node (renamed_constraint to x.body) shown; names = one_name is_constraint x y (renamed_constraint to x.body) refl };
      outputs = record { nodes = one_kind is_output x y t'.node (renamed_output to x.body) shown; names = one_name is_output x y (renamed_output to x.body) refl };
      forms = λ none. (renamed_live to x.body ∙ none, tt);
    }
  where
    either : (i : Bool) → (i || true) ≡ true
    either true = refl
    either false = refl
