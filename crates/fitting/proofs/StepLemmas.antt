-- A fitted list with one more line.
use Rattle.std.proofs.Common.{◌≡◌, ℕ, Bool, true, false, true≢false, cond, not, ◌&&◌, ◌||◌, nat_eq, eqb-true, List, [], ◌∷◌, ◌++◌, map, filter, flat_map, Option, Some, None, is_some, is_none, append_assoc, append-nil, refl, sym, ap, ap₂, subst, ◌∙◌}
use Rattle.std.specs.List.{AllByRecursion}
use Rattle.std.specs.Option.{option_or}
use Rattle.std.proofs.lemmas.Option.{none-some}
use Rattle.btor2.specs.declared.item.Item.{Item}
use Rattle.btor2.specs.declared.item.Body.{Body}
use Rattle.btor2.specs.declared.item.Body.TheVariants as body
use Rattle.btor2.specs.Items.{find_item, node_width, operands, names_state, is_input, is_state, is_bad, is_constraint, is_free, init_for, init_value, next_for, next_value}
use Rattle.btor2.specs.Check.{operand_is_missing, state_is_none}
use Rattle.btor2.specs.Lists.{of_kind}
use Rattle.btor2.specs.Reachability.{nodes_of}
use Rattle.btor2.proofs.AppendLemmas.{names_state-append, is_some_from}
use Rattle.btor2.proofs.ConstantLemmas.{init_value-after}
use Rattle.fit.specs.Fitting.{Layout, ids_of, is_output, NamesEarlierAfter}
use Rattle.fit.proofs.ListLemmas.{all_with, all_both, all_join, to_ids}
use Rattle.fit.proofs.FrameLemmas.{AreNodes as AreNamed, all_named, properties_there}
use Rattle.pieces.specs.declared.node.Node.{Node}
use Rattle.pieces.specs.Lines.{is_plain, ArePlain}
use Rattle.pieces.specs.Cuts.{widths}
use Rattle.fitting.specs.Names.{shown_names, names_of}
use Rattle.fitting.specs.Fitted.{Table, node_ids, layout_by, GoesOn, IsSoundLine, LineStands, is_leaf, leaf_ids, Lacks, IsFitted}
use Rattle.fitting.proofs.GrowLemmas.{node_found, stands_on, init_value-append, next_value-append}
use Rattle.fitting.proofs.NameLemmas.{split_names, split_shown, shown_alike}

-- ---- lists one behind the other

split_ids : (kind : Item → Bool) (xs ys : List Item) → ids_of kind (xs ++ ys) ≡ ids_of kind xs ++ ids_of kind ys
split_ids kind [] ys = refl
split_ids kind (x ∷ xs) ys = by (kind x) (split_ids kind xs ys)
  where
    by : (b : Bool) → ids_of kind (xs ++ ys) ≡ ids_of kind xs ++ ids_of kind ys
        → map (λ (y : Item). y.id) (cond b (x ∷ filter kind (xs ++ ys)) (filter kind (xs ++ ys))) ≡ map (λ (y : Item). y.id) (cond b (x ∷ filter kind xs) (filter kind xs)) ++ ids_of kind ys
    by true h = ap (λ (l : List ℕ). x.id ∷ l) h
    by false h = h

pub split_leaves : (xs ys : List Item) → leaf_ids (xs ++ ys) ≡ leaf_ids xs ++ leaf_ids ys
split_leaves xs ys = split_ids is_leaf xs ys

pub split_nodes : (kind : Body → Bool) (xs ys : List Item) → nodes_of kind (xs ++ ys) ≡ nodes_of kind xs ++ nodes_of kind ys
split_nodes kind [] ys = refl
split_nodes kind (x ∷ xs) ys = by (kind x.body) (split_nodes kind xs ys)
  where
    by : (b : Bool) → nodes_of kind (xs ++ ys) ≡ nodes_of kind xs ++ nodes_of kind ys
        → flat_map (λ (y : Item). operands y.body) (cond b (x ∷ of_kind kind (xs ++ ys)) (of_kind kind (xs ++ ys))) ≡ flat_map (λ (y : Item). operands y.body) (cond b (x ∷ of_kind kind xs) (of_kind kind xs)) ++ nodes_of kind ys
    by true h = ap (λ (l : List ℕ). operands x.body ++ l) h ∙ sym (append_assoc (operands x.body) (nodes_of kind xs) (nodes_of kind ys))
    by false h = h

pub split_pieces : (layout : Layout) (ws vs : List ℕ) → flat_map layout (ws ++ vs) ≡ flat_map layout ws ++ flat_map layout vs
split_pieces layout [] vs = refl
split_pieces layout (w ∷ ws) vs = ap (λ (l : List ℕ). layout w ++ l) (split_pieces layout ws vs) ∙ sym (append_assoc (layout w) (flat_map layout ws) (flat_map layout vs))

pub split_map : {A B : Type 0} (f : A → B) (ws vs : List A) → map f (ws ++ vs) ≡ map f ws ++ map f vs
split_map f [] vs = refl
split_map f (w ∷ ws) vs = ap (λ l. f w ∷ l) (split_map f ws vs)

same_pieces : (f g : Layout) (ws : List ℕ) → AllByRecursion (λ w. f w ≡ g w) ws → flat_map f ws ≡ flat_map g ws
same_pieces f g [] h = refl
same_pieces f g (w ∷ ws) h = ap₂ (λ (k l : List ℕ). k ++ l) h.0 (same_pieces f g ws h.1)

same_map : (f g : Layout) (ws : List ℕ) → AllByRecursion (λ w. f w ≡ g w) ws → map f ws ≡ map g ws
same_map f g [] h = refl
same_map f g (w ∷ ws) h = ap₂ (λ (k : List ℕ) (l : List (List ℕ)). k ∷ l) h.0 (same_map f g ws h.1)

-- ---- ids

pub next_value-after : (before more : List Item) (id : ℕ) → next_value before id ≡ None → next_value (before ++ more) id ≡ next_value more id
next_value-after [] more id h = refl
next_value-after (x ∷ xs) more id h = by (next_for id x.body) (next_value-after xs more id) h
  where
    by : (o : Option ℕ) → (next_value xs id ≡ None → next_value (xs ++ more) id ≡ next_value more id) → option_or o (next_value xs id) ≡ None → option_or o (next_value (xs ++ more) id) ≡ next_value more id
    by None rest e = rest e
    by (Some v) rest e = absurd (none-some v (sym e))

names_more : (before rest : List Item) (x : Item) → NamesEarlierAfter before rest → operand_is_missing (before ++ rest) x.body ≡ false → NamesEarlierAfter before (rest ++ x ∷ [])
names_more before [] x h own = (subst (λ (l : List Item). operand_is_missing l x.body ≡ false) (append-nil before) own, tt)
names_more before (y ∷ ys) x h own = (h.0, names_more (before ++ y ∷ []) ys x h.1 (subst (λ (l : List Item). operand_is_missing l x.body ≡ false) (sym (append_assoc before (y ∷ []) ys)) own))

-- an init line or a next line is that of a state
not_false : (b : Bool) → not b ≡ false → b ≡ true
not_false true h = refl
not_false false h = absurd (cc)

own_init : (wide : List Item) (id : ℕ) (b : Body) → state_is_none wide b ≡ false → names_state wide id ≡ false → init_for id b ≡ None
unfolding state_is_none
own_init wide id (body.Init s t v) state none = by (nat_eq id t) refl
  where
    by : (c : Bool) → nat_eq id t ≡ c → cond c (Some v) None ≡ None
    by true same = absurd (true≢false (sym (subst (λ (k : ℕ). names_state wide k ≡ true) (sym (eqb-true id t same)) (not_false (names_state wide t) state)) ∙ none))
    by false same = refl
own_init wide id _ state none = refl

own_next : (wide : List Item) (id : ℕ) (b : Body) → state_is_none wide b ≡ false → names_state wide id ≡ false → next_for id b ≡ None
unfolding state_is_none
own_next wide id (body.Next s t v) state none = by (nat_eq id t) refl
  where
    by : (c : Bool) → nat_eq id t ≡ c → cond c (Some v) None ≡ None
    by true same = absurd (true≢false (sym (subst (λ (k : ℕ). names_state wide k ≡ true) (sym (eqb-true id t same)) (not_false (names_state wide t) state)) ∙ none))
    by false same = refl
own_next wide id _ state none = refl

none_from : (o : Option ℕ) → is_none o ≡ true → o ≡ None
none_from None h = refl
none_from (Some v) h = absurd (cc)

both_none : (o p : Option ℕ) → (is_none o && is_none p) ≡ true → (o ≡ None) × (p ≡ None)
both_none None p h = (refl, none_from p h)
both_none (Some v) p h = absurd (cc)

owned_next : (wide : List Item) (x : Item) → state_is_none wide x.body ≡ false → ((id : ℕ) → names_state wide id ≡ false → is_free wide id ≡ true) → (id : ℕ) → names_state (wide ++ x ∷ []) id ≡ false → is_free (wide ++ x ∷ []) id ≡ true
owned_next wide x state owned id none = by (names_state wide id) refl
  where
    by : (b : Bool) → names_state wide id ≡ b → is_free (wide ++ x ∷ []) id ≡ true
    by true is = absurd (true≢false (sym (names_state-append wide (x ∷ []) id is) ∙ none))
    by false is =
        let free = both_none (init_value wide id) (next_value wide id) (owned id is) in
        let init : init_value (wide ++ x ∷ []) id ≡ None = init_value-after wide (x ∷ []) id free.0 ∙ ap (λ (o : Option ℕ). option_or o None) (own_init wide id x.body state is) in
        let next : next_value (wide ++ x ∷ []) id ≡ None = next_value-after wide (x ∷ []) id free.1 ∙ ap (λ (o : Option ℕ). option_or o None) (own_next wide id x.body state is) in
        ap₂ (λ (o p : Option ℕ). is_none o && is_none p) init next

-- ---- leaves of which nothing is said

lacks_on : (says : List Item → ℕ → Option ℕ) → ((before more : List Item) (id v : ℕ) → says before id ≡ Some v → says (before ++ more) id ≡ Some v)
    → ((before more : List Item) (id : ℕ) → says before id ≡ None → says (before ++ more) id ≡ says more id) → (wide more : List Item) (words words' : ℕ → List Node) (narrow lines : List Item) (id : ℕ)
    → words' id ≡ words id → Lacks says wide words narrow id → (says (wide ++ more) id ≡ None → AllByRecursion (λ (p : Node). says lines p.id ≡ None) (words id))
    → Lacks says (wide ++ more) words' (narrow ++ lines) id
lacks_on says keeps after wide more words words' narrow lines id same lacks quiet none =
    subst (AllByRecursion (λ (p : Node). says (narrow ++ lines) p.id ≡ None)) (sym same)
    (all_with (λ (p : Node). (says narrow p.id ≡ None) × (says lines p.id ≡ None)) (λ (p : Node). says (narrow ++ lines) p.id ≡ None) (words id) (λ p both. after narrow lines p.id both.0 ∙ both.1)
    (all_both (λ (p : Node). says narrow p.id ≡ None) (λ (p : Node). says lines p.id ≡ None) (words id) (lacks (front (says wide id) refl)) (quiet none)))
  where
    front : (o : Option ℕ) → says wide id ≡ o → says wide id ≡ None
    front None e = e
    front (Some v) e = absurd (none-some v (sym none ∙ keeps wide more id v e))

-- ---- a line and the lines that it is fitted into

-- the names of outputs, bad properties and constraints
pub record NamesMatch (words : ℕ → List Node) (lines : List Item) (x : Item) : Type 0 where
  pub outputs : flat_map (shown_names (λ a. widths (words a))) (of_kind is_output (x ∷ [])) ≡ names_of is_output lines
  pub bads : names_of is_bad (x ∷ []) ≡ names_of is_bad lines
  pub constraints : names_of is_constraint (x ∷ []) ≡ names_of is_constraint lines

pub none_of_kind : (kind test : Body → Bool) → ((b : Body) → test b ≡ true → kind b ≡ false) → (xs : List Item) → AllByRecursion (λ (y : Item). test y.body ≡ true) xs → of_kind kind xs ≡ []
none_of_kind kind test none [] h = refl
none_of_kind kind test none (x ∷ xs) h = rw (none x.body h.0) (none_of_kind kind test none xs h.1)

-- lines of other kinds have none
pub no_names : (kind test : Body → Bool) → ((b : Body) → test b ≡ true → kind b ≡ false) → (xs : List Item) → AllByRecursion (λ (y : Item). test y.body ≡ true) xs → names_of kind xs ≡ []
no_names kind test none xs h = ap (map (λ (y : Item). y.symbol)) (none_of_kind kind test none xs h)

pub other_names : (test : Body → Bool) → ((b : Body) → test b ≡ true → is_output b ≡ false) → ((b : Body) → test b ≡ true → is_bad b ≡ false) → ((b : Body) → test b ≡ true → is_constraint b ≡ false)
    → (words : ℕ → List Node) (lines : List Item) (x : Item) → test x.body ≡ true → AllByRecursion (λ (y : Item). test y.body ≡ true) lines → NamesMatch words lines x
other_names test no_output no_bad no_constraint words lines x own h =
    record {
      outputs = ap (flat_map (shown_names (λ a. widths (words a)))) (none_of_kind is_output test no_output (x ∷ []) (own, tt)) ∙ sym (no_names is_output test no_output lines h);
      bads = no_names is_bad test no_bad (x ∷ []) (own, tt) ∙ sym (no_names is_bad test no_bad lines h);
      constraints = no_names is_constraint test no_constraint (x ∷ []) (own, tt) ∙ sym (no_names is_constraint test no_constraint lines h);
    }

pub record Matches (wide : List Item) (table table' : Table) (narrow' lines : List Item) (x : Item) : Type 0 where
  pub leaves : flat_map (layout_by table'.words) (leaf_ids (x ∷ [])) ≡ leaf_ids lines
  pub outputs : flat_map (layout_by table'.words) (nodes_of is_output (x ∷ [])) ≡ nodes_of is_output lines
  pub bads : map (layout_by table'.words) (nodes_of is_bad (x ∷ [])) ≡ map (λ p. p ∷ []) (nodes_of is_bad lines)
  pub constraints : map (layout_by table'.words) (nodes_of is_constraint (x ∷ [])) ≡ map (λ p. p ∷ []) (nodes_of is_constraint lines)
  pub names : NamesMatch table'.words lines x
  pub inits : AllByRecursion (λ id. init_value (wide ++ x ∷ []) id ≡ None → AllByRecursion (λ (p : Node). init_value lines p.id ≡ None) (table.words id)) (leaf_ids wide)
  pub nexts : AllByRecursion (λ id. next_value (wide ++ x ∷ []) id ≡ None → AllByRecursion (λ (p : Node). next_value lines p.id ≡ None) (table.words id)) (leaf_ids wide)
  pub own_inits : AllByRecursion (Lacks init_value (wide ++ x ∷ []) table'.words narrow') (leaf_ids (x ∷ []))
  pub own_nexts : AllByRecursion (Lacks next_value (wide ++ x ∷ []) table'.words narrow') (leaf_ids (x ∷ []))

all_lacks : (says : List Item → ℕ → Option ℕ) → ((before more : List Item) (id v : ℕ) → says before id ≡ Some v → says (before ++ more) id ≡ Some v)
    → ((before more : List Item) (id : ℕ) → says before id ≡ None → says (before ++ more) id ≡ says more id) → (wide : List Item) (x : Item) (words words' : ℕ → List Node) (narrow narrow' lines : List Item)
    → narrow' ≡ narrow ++ lines → AllByRecursion (λ id. words' id ≡ words id) (leaf_ids wide) → AllByRecursion (Lacks says wide words narrow) (leaf_ids wide)
    → AllByRecursion (λ id. says (wide ++ x ∷ []) id ≡ None → AllByRecursion (λ (p : Node). says lines p.id ≡ None) (words id)) (leaf_ids wide)
    → AllByRecursion (Lacks says (wide ++ x ∷ []) words' narrow') (leaf_ids (x ∷ [])) → AllByRecursion (Lacks says (wide ++ x ∷ []) words' narrow') (leaf_ids (wide ++ x ∷ []))
all_lacks says keeps after wide x words words' narrow narrow' lines is same lacks quiet own =
    subst (AllByRecursion (Lacks says (wide ++ x ∷ []) words' narrow')) (sym (split_leaves wide (x ∷ [])))
    (all_join (Lacks says (wide ++ x ∷ []) words' narrow') (leaf_ids wide) (leaf_ids (x ∷ []))
    (subst (λ (l : List Item). AllByRecursion (Lacks says (wide ++ x ∷ []) words' l) (leaf_ids wide)) (sym is)
    (all_with (λ id. (words' id ≡ words id) × (Lacks says wide words narrow id × (says (wide ++ x ∷ []) id ≡ None → AllByRecursion (λ (p : Node). says lines p.id ≡ None) (words id))))
    (Lacks says (wide ++ x ∷ []) words' (narrow ++ lines)) (leaf_ids wide) (λ id all. lacks_on says keeps after wide (x ∷ []) words words' narrow lines id all.0 all.1.0 all.1.1)
    (all_both (λ id. words' id ≡ words id) (λ id. Lacks says wide words narrow id × (says (wide ++ x ∷ []) id ≡ None → AllByRecursion (λ (p : Node). says lines p.id ≡ None) (words id))) (leaf_ids wide) same
    (all_both (Lacks says wide words narrow) (λ id. says (wide ++ x ∷ []) id ≡ None → AllByRecursion (λ (p : Node). says lines p.id ≡ None) (words id)) (leaf_ids wide) lacks quiet))))
    own)

one_piece : (kind : Body → Bool) (wide : List Item) (x : Item) (f g : Layout) (narrow lines narrow' : List Item) → narrow' ≡ narrow ++ lines → AllByRecursion (λ a. f a ≡ g a) (nodes_of kind wide)
    → map g (nodes_of kind wide) ≡ map (λ p. p ∷ []) (nodes_of kind narrow) → map f (nodes_of kind (x ∷ [])) ≡ map (λ p. p ∷ []) (nodes_of kind lines)
    → map f (nodes_of kind (wide ++ x ∷ [])) ≡ map (λ p. p ∷ []) (nodes_of kind narrow')
one_piece kind wide x f g narrow lines narrow' is same h own =
    ap (map f) (split_nodes kind wide (x ∷ [])) ∙ split_map f (nodes_of kind wide) (nodes_of kind (x ∷ []))
    ∙ ap₂ (λ (k l : List (List ℕ)). k ++ l) (same_map f g (nodes_of kind wide) same ∙ h) own
    ∙ sym (split_map (λ p. p ∷ []) (nodes_of kind narrow) (nodes_of kind lines)) ∙ ap (map (λ p. p ∷ [])) (sym (split_nodes kind narrow lines)) ∙ ap (λ (l : List Item). map (λ p. p ∷ []) (nodes_of kind l)) (sym is)

names_next : (kind : Body → Bool) (wide : List Item) (x : Item) (narrow lines narrow' : List Item) → narrow' ≡ narrow ++ lines → names_of kind wide ≡ names_of kind narrow → names_of kind (x ∷ []) ≡ names_of kind lines
    → names_of kind (wide ++ x ∷ []) ≡ names_of kind narrow'
names_next kind wide x narrow lines narrow' is h own =
    split_names kind wide (x ∷ []) ∙ ap₂ (λ (k l : List (Option (List ℕ))). k ++ l) h own ∙ sym (split_names kind narrow lines) ∙ ap (names_of kind) (sym is)

pub fitted_next : (wide : List Item) (table table' : Table) (narrow narrow' : List Item) (x : Item) → IsFitted wide table narrow → IsSoundLine wide x → (goes : GoesOn wide table narrow (wide ++ x ∷ []) table' narrow')
    → LineStands (wide ++ x ∷ []) table' narrow' x → Matches wide table table' narrow' goes.lines x → IsFitted (wide ++ x ∷ []) table' narrow'
fitted_next wide table table' narrow narrow' x h sound goes own m =
    let found = to_ids (λ id. is_some (find_item wide id) ≡ true) is_leaf wide (all_with (LineStands wide table narrow) (λ (y : Item). is_leaf y ≡ true → is_some (find_item wide y.id) ≡ true) wide (λ y stands is. is_some_from (find_item wide y.id) y stands.found) h.stand) in
    let words = all_with (λ id. is_some (find_item wide id) ≡ true) (λ id. table'.words id ≡ table.words id) (leaf_ids wide) (λ id there. goes.words id there) found in
    let layouts = all_with (λ id. table'.words id ≡ table.words id) (λ id. layout_by table'.words id ≡ layout_by table.words id) (leaf_ids wide) (λ id e. ap node_ids e) words in
    let named : (kind : Body → Bool) → AllByRecursion (λ a. layout_by table'.words a ≡ layout_by table.words a) (nodes_of kind wide) =
    λ kind. all_with (λ a. is_some (node_width wide a) ≡ true) (λ a. layout_by table'.words a ≡ layout_by table.words a) (nodes_of kind wide) (λ a there. ap node_ids (goes.words a (node_found wide a there))) (properties_there wide kind wide (all_named wide h.ordered)) in
    let shown = all_with (λ (y : Item). AreNamed wide (operands y.body)) (λ (y : Item). AllByRecursion (λ a. widths (table'.words a) ≡ widths (table.words a)) (operands y.body)) wide
    (λ y there. all_with (λ a. is_some (node_width wide a) ≡ true) (λ a. widths (table'.words a) ≡ widths (table.words a)) (operands y.body) (λ a own. ap widths (goes.words a (node_found wide a own))) there) (all_named wide h.ordered) in
    record {
      ordered = names_more [] wide x h.ordered sound.operands;
      stand = all_join (LineStands (wide ++ x ∷ []) table' narrow') wide (x ∷ [])
          (all_with (λ (y : Item). LineStands wide table narrow y × AreNamed wide (operands y.body)) (LineStands (wide ++ x ∷ []) table' narrow') wide
          (λ y both. stands_on wide (wide ++ x ∷ []) table table' narrow narrow' y both.1 goes both.0)
          (all_both (LineStands wide table narrow) (λ (y : Item). AreNamed wide (operands y.body)) wide h.stand (all_named wide h.ordered)))
          (own, tt);
      owned = owned_next wide x sound.state h.owned;
      leaves = ap (flat_map (layout_by table'.words)) (split_leaves wide (x ∷ [])) ∙ split_pieces (layout_by table'.words) (leaf_ids wide) (leaf_ids (x ∷ []))
          ∙ ap₂ (λ (k l : List ℕ). k ++ l) (same_pieces (layout_by table'.words) (layout_by table.words) (leaf_ids wide) layouts ∙ h.leaves) m.leaves ∙ sym (split_leaves narrow goes.lines) ∙ ap leaf_ids (sym goes.narrow_is);
      no_inits = all_lacks init_value init_value-append init_value-after wide x table.words table'.words narrow narrow' goes.lines goes.narrow_is words h.no_inits m.inits m.own_inits;
      no_nexts = all_lacks next_value next_value-append next_value-after wide x table.words table'.words narrow narrow' goes.lines goes.narrow_is words h.no_nexts m.nexts m.own_nexts;
      outputs = ap (flat_map (layout_by table'.words)) (split_nodes is_output wide (x ∷ [])) ∙ split_pieces (layout_by table'.words) (nodes_of is_output wide) (nodes_of is_output (x ∷ []))
          ∙ ap₂ (λ (k l : List ℕ). k ++ l) (same_pieces (layout_by table'.words) (layout_by table.words) (nodes_of is_output wide) (named is_output) ∙ h.outputs) m.outputs
          ∙ sym (split_nodes is_output narrow goes.lines) ∙ ap (nodes_of is_output) (sym goes.narrow_is);
      bads = one_piece is_bad wide x (layout_by table'.words) (layout_by table.words) narrow goes.lines narrow' goes.narrow_is (named is_bad) h.bads m.bads;
      constraints = one_piece is_constraint wide x (layout_by table'.words) (layout_by table.words) narrow goes.lines narrow' goes.narrow_is (named is_constraint) h.constraints m.constraints;
      output_names = split_shown (λ a. widths (table'.words a)) is_output wide (x ∷ [])
          ∙ ap₂ (λ (k l : List (Option (List ℕ))). k ++ l) (shown_alike (λ a. widths (table'.words a)) (λ a. widths (table.words a)) is_output wide shown ∙ h.output_names) m.names.outputs
          ∙ sym (split_names is_output narrow goes.lines) ∙ ap (names_of is_output) (sym goes.narrow_is);
      bad_names = names_next is_bad wide x narrow goes.lines narrow' goes.narrow_is h.bad_names m.names.bads;
      constraint_names = names_next is_constraint wide x narrow goes.lines narrow' goes.narrow_is h.constraint_names m.names.constraints;
    }

-- ---- lines that say nothing but what nodes are

pub plain_leaf : (x : Item) → is_plain x.body ≡ true → is_leaf x ≡ false
plain_leaf x h = by x.body h
  where
    by : (b : Body) → is_plain b ≡ true → (is_input b || is_state b) ≡ false
    by (body.Input s) h = absurd (cc)
    by (body.State s) h = absurd (cc)
    by _ h = refl

pub plain_output : (b : Body) → is_plain b ≡ true → is_output b ≡ false
plain_output (body.Output a) h = absurd (cc)
plain_output _ h = refl

pub plain_bad : (b : Body) → is_plain b ≡ true → is_bad b ≡ false
plain_bad (body.Bad a) h = absurd (cc)
plain_bad _ h = refl

pub plain_constraint : (b : Body) → is_plain b ≡ true → is_constraint b ≡ false
plain_constraint (body.Constraint a) h = absurd (cc)
plain_constraint _ h = refl

plain_init : (id : ℕ) (b : Body) → is_plain b ≡ true → init_for id b ≡ None
plain_init id (body.Init s t v) h = absurd (cc)
plain_init id _ h = refl

plain_next : (id : ℕ) (b : Body) → is_plain b ≡ true → next_for id b ≡ None
plain_next id (body.Next s t v) h = absurd (cc)
plain_next id _ h = refl

pub plain_leaves : (xs : List Item) → ArePlain xs → leaf_ids xs ≡ []
plain_leaves [] h = refl
plain_leaves (x ∷ xs) h = rw (plain_leaf x h.0) (plain_leaves xs h.1)

pub plain_nodes : (kind : Body → Bool) → ((b : Body) → is_plain b ≡ true → kind b ≡ false) → (xs : List Item) → ArePlain xs → nodes_of kind xs ≡ []
plain_nodes kind none [] h = refl
plain_nodes kind none (x ∷ xs) h = rw (none x.body h.0) (plain_nodes kind none xs h.1)

pub plain_inits : (xs : List Item) (id : ℕ) → ArePlain xs → init_value xs id ≡ None
plain_inits [] id h = refl
plain_inits (x ∷ xs) id h = rw (plain_init id x.body h.0) (plain_inits xs id h.1)

pub plain_nexts : (xs : List Item) (id : ℕ) → ArePlain xs → next_value xs id ≡ None
plain_nexts [] id h = refl
plain_nexts (x ∷ xs) id h = rw (plain_next id x.body h.0) (plain_nexts xs id h.1)

pub all_of : {A : Type 0} (P : A → Type 0) (xs : List A) → ((x : A) → P x) → AllByRecursion P xs
all_of P [] h = tt
all_of P (x ∷ xs) h = (h x, all_of P xs h)

pub plain_matches : (wide : List Item) (table table' : Table) (narrow' lines : List Item) (x : Item) → is_plain x.body ≡ true → ArePlain lines → Matches wide table table' narrow' lines x
plain_matches wide table table' narrow' lines x own h =
    let leaves = plain_leaves (x ∷ []) (own, tt) in
    record {
      leaves = ap (flat_map (layout_by table'.words)) leaves ∙ sym (plain_leaves lines h);
      outputs = ap (flat_map (layout_by table'.words)) (plain_nodes is_output plain_output (x ∷ []) (own, tt)) ∙ sym (plain_nodes is_output plain_output lines h);
      bads = ap (map (layout_by table'.words)) (plain_nodes is_bad plain_bad (x ∷ []) (own, tt)) ∙ ap (map (λ p. p ∷ [])) (sym (plain_nodes is_bad plain_bad lines h));
      constraints = ap (map (layout_by table'.words)) (plain_nodes is_constraint plain_constraint (x ∷ []) (own, tt)) ∙ ap (map (λ p. p ∷ [])) (sym (plain_nodes is_constraint plain_constraint lines h));
      names = other_names is_plain plain_output plain_bad plain_constraint table'.words lines x own h;
      inits = all_of (λ id. init_value (wide ++ x ∷ []) id ≡ None → AllByRecursion (λ (p : Node). init_value lines p.id ≡ None) (table.words id)) (leaf_ids wide)
          (λ id none. all_of (λ (p : Node). init_value lines p.id ≡ None) (table.words id) (λ p. plain_inits lines p.id h));
      nexts = all_of (λ id. next_value (wide ++ x ∷ []) id ≡ None → AllByRecursion (λ (p : Node). next_value lines p.id ≡ None) (table.words id)) (leaf_ids wide)
          (λ id none. all_of (λ (p : Node). next_value lines p.id ≡ None) (table.words id) (λ p. plain_nexts lines p.id h));
      own_inits = subst (AllByRecursion (Lacks init_value (wide ++ x ∷ []) table'.words narrow')) (sym leaves) tt;
      own_nexts = subst (AllByRecursion (Lacks next_value (wide ++ x ∷ []) table'.words narrow')) (sym leaves) tt;
    }
