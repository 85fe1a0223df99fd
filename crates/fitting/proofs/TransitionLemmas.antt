-- A fitted list with one more init line or next line.
use Rattle.std.proofs.Common.{◌≡◌, ℕ, Bool, true, false, true≢false, cond, not, ◌&&◌, ◌||◌, ◌==◌, nat_eq, eq-eqb, eqb-true, List, [], ◌∷◌, ◌++◌, map, filter, flat_map, Option, Some, None, IfSome, is_some, is_none, unwrap_or, refl, sym, ap, subst, ◌∙◌}
use Rattle.std.specs.List.{AllByRecursion}
use Rattle.std.specs.Option.{option_or}
use Rattle.std.proofs.lemmas.Option.{none-some, same_Some}
use Rattle.std.proofs.lemmas.Bool.{and_parts}
use Rattle.btor2.specs.declared.item.Item.{Item}
use Rattle.btor2.specs.declared.item.Body.TheVariants as body
use Rattle.btor2.specs.Items.{find_item, node_width, width_of_body, node_sort, sort_width, constant_word, constant_of_body, constant_of, names_state, is_input, is_bad, is_constraint, init_value, next_value}
use Rattle.btor2.specs.Check.{IsWellFormed, state_is_none, init_is_not_constant, is_second_init, is_second_next}
use Rattle.btor2.proofs.AppendLemmas.{constant_of-append, then_parts}
use Rattle.btor2.proofs.ModelLemmas.{IsIn-from_find}
use Rattle.btor2.proofs.IdLemmas.{ids_fresh, state_item}
use Rattle.btor2.proofs.ConstantLemmas.{init_value-after}
use Rattle.fit.specs.Fitting.{Layout, is_output}
use Rattle.fit.proofs.ListLemmas.{all_with, all_join, all_front, all_behind, all_pieces, AreDistinct, distinct_front, distinct_behind, apart, distinct_ids}
use Rattle.fit.proofs.FrameLemmas.{operands_there}
use Rattle.pieces.specs.declared.node.Node.{Node}
use Rattle.pieces.specs.Constants.{AreConstants}
use Rattle.pieces.specs.Lines.{named}
use Rattle.pieces.specs.Nodes.{word_of, bits_in}
use Rattle.pieces.specs.Cuts.{IsWord}
use Rattle.fitting.specs.Fitted.{Table, node_ids, layout_by, constant_words, IsSoundLine, HasWord, AreConstantsOf, LineStands, is_leaf, leaf_ids, Lacks, IsFitted}
use Rattle.fitting.specs.Steps.{adds_init, adds_next, IsOther, AreApart, AddsInits, AddsNexts}
use Rattle.fitting.proofs.GrowLemmas.{all_at, constants_on}
use Rattle.fitting.proofs.StepLemmas.{split_leaves, split_pieces, next_value-after, fitted_next, other_names}
use Rattle.fitting.proofs.ValueLemmas.{last_found, stands_without}
use Rattle.fitting.proofs.SoundLemmas.{operand, agree}
use Rattle.fitting.proofs.FormLemmas.{no_leaves, no_nodes, no_inits, no_nexts, silent, same_table, init_no_leaf, init_no_output, init_no_bad, init_no_constraint, init_no_next, next_no_leaf, next_no_output, next_no_bad, next_no_constraint, next_no_init}

-- ---- the pieces of leaves are other than those of other leaves

nat_eq_swap : (a b : ℕ) → nat_eq a b ≡ false → nat_eq b a ≡ false
nat_eq_swap a b h = by (nat_eq b a) refl
  where
    by : (c : Bool) → nat_eq b a ≡ c → c ≡ false
    by false e = refl
    by true e = absurd (true≢false (sym (eq-eqb a b (sym (eqb-true b a e))) ∙ h))

all_swap : {A B : Type 0} (R : A → B → Type 0) (xs : List A) (ys : List B) → AllByRecursion (λ y. AllByRecursion (λ x. R x y) xs) ys → AllByRecursion (λ x. AllByRecursion (λ y. R x y) ys) xs
all_swap R [] ys h = tt
all_swap R (x ∷ xs) ys h =
    (all_with (λ y. AllByRecursion (λ z. R z y) (x ∷ xs)) (λ y. R x y) ys (λ y own. own.0) h, all_swap R xs ys (all_with (λ y. AllByRecursion (λ z. R z y) (x ∷ xs)) (λ y. AllByRecursion (λ z. R z y) xs) ys (λ y own. own.1) h))

distinct_parts : (layout : Layout) (before after : List ℕ) (t : ℕ) → AreDistinct (flat_map layout (before ++ t ∷ after))
    → AreDistinct (layout t) × (AllByRecursion (λ id. AllByRecursion (λ p. AllByRecursion (λ q. nat_eq p q ≡ false) (layout t)) (layout id)) before
    × AllByRecursion (λ id. AllByRecursion (λ p. AllByRecursion (λ q. nat_eq p q ≡ false) (layout t)) (layout id)) after)
distinct_parts layout before after t h =
    let split = subst AreDistinct (split_pieces layout before (t ∷ after)) h in
    let behind = distinct_behind (flat_map layout before) (layout t ++ flat_map layout after) split in
    let crossed = all_front (λ y. AllByRecursion (λ x. nat_eq y x ≡ false) (flat_map layout before)) (layout t) (flat_map layout after) (apart (flat_map layout before) (layout t ++ flat_map layout after) split) in
    let swapped = all_swap (λ p q. nat_eq p q ≡ false) (flat_map layout before) (layout t)
    (all_with (λ q. AllByRecursion (λ p. nat_eq q p ≡ false) (flat_map layout before)) (λ q. AllByRecursion (λ p. nat_eq p q ≡ false) (flat_map layout before)) (layout t)
    (λ q own. all_with (λ p. nat_eq q p ≡ false) (λ p. nat_eq p q ≡ false) (flat_map layout before) (λ p e. nat_eq_swap q p e) own) crossed) in (
      distinct_front (layout t) (flat_map layout after) behind,
      (
        all_pieces (λ p. AllByRecursion (λ q. nat_eq p q ≡ false) (layout t)) layout before swapped,
        all_pieces (λ p. AllByRecursion (λ q. nat_eq p q ≡ false) (layout t)) layout after (apart (layout t) (flat_map layout after) behind),
      ),
    )

-- the same of nodes
apart_nodes : (ps : List Node) → AreDistinct (node_ids ps) → AreApart ps
apart_nodes [] h = tt
apart_nodes (p ∷ ps) h = (from_ids ps h.0, apart_nodes ps h.1)
  where
    from_ids : (qs : List Node) → AllByRecursion (λ y. nat_eq y p.id ≡ false) (node_ids qs) → AllByRecursion (λ (q : Node). nat_eq q.id p.id ≡ false) qs
    from_ids [] h = tt
    from_ids (q ∷ qs) h = (h.0, from_ids qs h.1)

from_node_ids : (P : ℕ → Type 0) (ps : List Node) → AllByRecursion P (node_ids ps) → AllByRecursion (λ (p : Node). P p.id) ps
from_node_ids P [] h = tt
from_node_ids P (p ∷ ps) h = (h.0, from_node_ids P ps h.1)

others_nodes : (ps qs : List Node) → AllByRecursion (λ p. AllByRecursion (λ q. nat_eq p q ≡ false) (node_ids qs)) (node_ids ps) → AllByRecursion (λ (p : Node). IsOther qs p.id) ps
others_nodes ps qs h =
    all_with (λ (p : Node). AllByRecursion (λ q. nat_eq p.id q ≡ false) (node_ids qs)) (λ (p : Node). IsOther qs p.id) ps (λ p own. from_node_ids (λ q. nat_eq p.id q ≡ false) qs own) (from_node_ids (λ k. AllByRecursion (λ q. nat_eq k q ≡ false) (node_ids qs)) ps h)

-- ---- a state of the list

pub record StateOf (wide : List Item) (table : Table) (narrow : List Item) (t : ℕ) : Type 0 where
  pub states : AllByRecursion (λ (p : Node). names_state narrow p.id ≡ true) (table.words t)
  pub distinct : AreApart (table.words t)
  pub others : AllByRecursion (λ id. (nat_eq id t ≡ false) → AllByRecursion (λ (p : Node). IsOther (table.words t) p.id) (table.words id)) (leaf_ids wide)
  pub no_init : Lacks init_value wide table.words narrow t
  pub no_next : Lacks next_value wide table.words narrow t

pub state_of : (wide : List Item) (table : Table) (narrow : List Item) (t : ℕ) → IsFitted wide table narrow → IsWellFormed narrow → names_state wide t ≡ true → StateOf wide table narrow t
state_of wide table narrow t h w names =
    let item = state_item wide t names in
    let y = item.0 in
    let at = item.1 in
    let leaf : is_leaf y ≡ true = ap (λ (b : Bool). is_input y.body || b) item.3 ∙ either (is_input y.body) in
    let ids : leaf_ids wide ≡ leaf_ids at.before ++ t ∷ leaf_ids at.after =
    ap leaf_ids at.splits ∙ split_leaves at.before (y ∷ at.after)
    ∙ ap (λ (l : List ℕ). leaf_ids at.before ++ l) (ap (λ (b : Bool). map (λ (z : Item). z.id) (cond b (y ∷ filter is_leaf at.after) (filter is_leaf at.after))) leaf ∙ ap (λ (k : ℕ). k ∷ leaf_ids at.after) (sym item.2)) in
    let distinct : AreDistinct (flat_map (layout_by table.words) (leaf_ids at.before ++ t ∷ leaf_ids at.after)) =
    subst (λ (l : List ℕ). AreDistinct (flat_map (layout_by table.words) l)) ids (subst AreDistinct (sym h.leaves) (distinct_ids is_leaf narrow (ids_fresh narrow w))) in
    let parts = distinct_parts (layout_by table.words) (leaf_ids at.before) (leaf_ids at.after) t distinct in
    let own : (ws : List ℕ) → AllByRecursion (λ id. AllByRecursion (λ p. AllByRecursion (λ q. nat_eq p q ≡ false) (node_ids (table.words t))) (node_ids (table.words id))) ws
    → AllByRecursion (λ id. (nat_eq id t ≡ false) → AllByRecursion (λ (p : Node). IsOther (table.words t) p.id) (table.words id)) ws =
    λ ws all. all_with (λ id. AllByRecursion (λ p. AllByRecursion (λ q. nat_eq p q ≡ false) (node_ids (table.words t))) (node_ids (table.words id)))
    (λ id. (nat_eq id t ≡ false) → AllByRecursion (λ (p : Node). IsOther (table.words t) p.id) (table.words id)) ws (λ id here no. others_nodes (table.words id) (table.words t) here) all in
    let lacks : (says : List Item → ℕ → Option ℕ) → AllByRecursion (Lacks says wide table.words narrow) (leaf_ids wide) → Lacks says wide table.words narrow t =
    λ says all. (all_behind (Lacks says wide table.words narrow) (leaf_ids at.before) (t ∷ leaf_ids at.after) (subst (AllByRecursion (Lacks says wide table.words narrow)) ids all)).0 in
    record {
      states = subst (λ (k : ℕ). AllByRecursion (λ (p : Node). names_state narrow p.id ≡ true) (table.words k)) (sym item.2) ((all_at (LineStands wide table narrow) wide y at h.stand).state item.3);
      distinct = apart_nodes (table.words t) parts.0;
      others = subst (AllByRecursion (λ id. (nat_eq id t ≡ false) → AllByRecursion (λ (p : Node). IsOther (table.words t) p.id) (table.words id))) (sym ids)
          (all_join (λ id. (nat_eq id t ≡ false) → AllByRecursion (λ (p : Node). IsOther (table.words t) p.id) (table.words id)) (leaf_ids at.before) (t ∷ leaf_ids at.after) (own (leaf_ids at.before) parts.1.0)
          (λ no. absurd (true≢false (sym (eq-eqb t t refl) ∙ no)), own (leaf_ids at.after) parts.1.1));
      no_init = lacks init_value h.no_inits;
      no_next = lacks next_value h.no_nexts;
    }
  where
    either : (i : Bool) → (i || true) ≡ true
    either true = refl
    either false = refl

-- ---- constants of the list

pub constants_of : (wide : List Item) (table : Table) (narrow : List Item) (v w : ℕ) → IsFitted wide table narrow → constant_of wide v ≡ Some w → AreConstantsOf narrow w (table.words v)
constants_of wide table narrow v w h e =
    let parts = then_parts (λ (x : Item). constant_of_body wide x.body) (find_item wide v) w e in
    let width = then_parts (λ n. constant_word n parts.0.body) (width_of_body wide parts.0.body) w parts.2 in
    let sort = then_parts (sort_width wide) (node_sort parts.0.body) width.0 width.1 in
    let at = IsIn-from_find wide v parts.0 parts.1 in
    let own = all_at (LineStands wide table narrow) wide parts.0 at.0 h.stand in
    let value : HasWord wide table.words narrow parts.0.id sort.0 = subst (λ (o : Option ℕ). IfSome o (HasWord wide table.words narrow parts.0.id)) sort.1 own.value in
    let bits : bits_in (table.words parts.0.id) ≡ width.0 = value.has_bits ∙ same_Some value.bits width.0 (sym value.width ∙ sort.2) in
    subst (λ (k : ℕ). AreConstantsOf narrow w (table.words k)) (sym at.1)
    (subst (λ (o : Option ℕ). IfSome o (λ u. AreConstantsOf narrow u (table.words parts.0.id))) (ap (λ (n : ℕ). constant_word n parts.0.body) bits ∙ width.2) own.constant)

-- ---- init lines and next lines

not_false : (b : Bool) → not b ≡ false → b ≡ true
not_false true h = refl
not_false false h = absurd (cc)

some_from : (o : Option ℕ) → is_none o ≡ false → (v : ℕ) × (o ≡ Some v)
some_from None h = absurd (cc)
some_from (Some v) h = (v, refl)

none_from : (o : Option ℕ) → is_some o ≡ false → o ≡ None
none_from None h = refl
none_from (Some v) h = absurd (cc)

-- what a line of a state asks of the narrow list
pub record Transition (wide : List Item) (table : Table) (narrow : List Item) (t v : ℕ) : Type 0 where
  pub state : IsWord narrow (table.words t)
  pub value : IsWord narrow (table.words v)
  pub same : bits_in (table.words t) ≡ bits_in (table.words v)
  pub of : StateOf wide table narrow t

alike : (wide : List Item) (x : Item) (table : Table) (narrow : List Item) (s t v : ℕ) → IsFitted wide table narrow → IsWellFormed narrow → names_state wide t ≡ true → is_some (node_width wide t) ≡ true → is_some (node_width wide v) ≡ true
    → ((unwrap_or (sort_width wide s) 0 == unwrap_or (node_width wide t) 0) && (unwrap_or (sort_width wide s) 0 == unwrap_or (node_width wide v) 0)) ≡ true → Transition wide table narrow t v
alike wide x table narrow s t v h w names in_t in_v agrees =
    let of_t = operand wide x table narrow t h.stand in_t in
    let of_v = operand wide x table narrow v h.stand in_v in
    let both = and_parts (unwrap_or (sort_width wide s) 0 == unwrap_or (node_width wide t) 0) (unwrap_or (sort_width wide s) 0 == unwrap_or (node_width wide v) 0) agrees in
    record {
      state = of_t.word;
      value = of_v.word;
      same = sym of_t.bits ∙ sym (eqb-true _ _ both.0) ∙ eqb-true _ _ both.1 ∙ of_v.bits;
      of = state_of wide table narrow t h w names;
    }

pub init_ready : (wide : List Item) (table : Table) (narrow : List Item) (id s t v : ℕ) (symbol : Option (List ℕ)) → IsFitted wide table narrow → IsWellFormed narrow → IsSoundLine wide (named id symbol (body.Init s t v))
    → Transition wide table narrow t v × (AreConstants narrow (table.words v) × AllByRecursion (λ (p : Node). init_value narrow p.id ≡ None) (table.words t))
unfolding state_is_none init_is_not_constant is_second_init
init_ready wide table narrow id s t v symbol h w sound =
    let x = named id symbol (body.Init s t v) in
    let there = operands_there wide x.body sound.operands in
    let own = alike wide x table narrow s t v h w (not_false (names_state wide t) sound.state) there.0 there.1.0 (agree wide x.body sound.widths) in
    let constant = some_from (constant_of wide v) sound.init in
    (own, ((constants_of wide table narrow v constant.0 h constant.1).constants, own.of.no_init (none_from (init_value wide t) sound.first_init)))

pub next_ready : (wide : List Item) (table : Table) (narrow : List Item) (id s t v : ℕ) (symbol : Option (List ℕ)) → IsFitted wide table narrow → IsWellFormed narrow → IsSoundLine wide (named id symbol (body.Next s t v))
    → Transition wide table narrow t v × AllByRecursion (λ (p : Node). next_value narrow p.id ≡ None) (table.words t)
unfolding state_is_none is_second_next
next_ready wide table narrow id s t v symbol h w sound =
    let x = named id symbol (body.Next s t v) in
    let there = operands_there wide x.body sound.operands in
    let own = alike wide x table narrow s t v h w (not_false (names_state wide t) sound.state) there.0 there.1.0 (agree wide x.body sound.widths) in
    (own, own.of.no_next (none_from (next_value wide t) sound.first_next))

-- the leaves of which still nothing is said are others than the state
still_others : (says : List Item → ℕ → Option ℕ) (wide' lines : List Item) (words : ℕ → List Node) (t v : ℕ) (ws : List ℕ) → says wide' t ≡ Some v → ((k : ℕ) → IsOther (words t) k → says lines k ≡ None)
    → AllByRecursion (λ id. (nat_eq id t ≡ false) → AllByRecursion (λ (p : Node). IsOther (words t) p.id) (words id)) ws
    → AllByRecursion (λ id. says wide' id ≡ None → AllByRecursion (λ (p : Node). says lines p.id ≡ None) (words id)) ws
still_others says wide' lines words t v ws said quiet others =
    all_with (λ id. (nat_eq id t ≡ false) → AllByRecursion (λ (p : Node). IsOther (words t) p.id) (words id)) (λ id. says wide' id ≡ None → AllByRecursion (λ (p : Node). says lines p.id ≡ None) (words id)) ws
    (λ id other none. all_with (λ (p : Node). IsOther (words t) p.id) (λ (p : Node). says lines p.id ≡ None) (words id) (λ p own. quiet p.id own) (other (differs id none (nat_eq id t) refl))) others
  where
    differs : (id : ℕ) → says wide' id ≡ None → (b : Bool) → nat_eq id t ≡ b → b ≡ false
    differs id none false e = refl
    differs id none true e = absurd (none-some v (sym (ap (says wide') (sym (eqb-true id t e)) ∙ none) ∙ said))

pub init_fitted : (wide : List Item) (table : Table) (narrow narrow' : List Item) (id s t v : ℕ) (symbol : Option (List ℕ)) → IsFitted wide table narrow → IsWellFormed narrow → IsSoundLine wide (named id symbol (body.Init s t v))
    → AddsInits narrow narrow' (table.words t) (table.words v) → IsFitted (wide ++ named id symbol (body.Init s t v) ∷ []) table narrow'
unfolding init_is_not_constant is_second_init
init_fitted wide table narrow narrow' id s t v symbol h w sound adds =
    let x = named id symbol (body.Init s t v) in
    let ready = init_ready wide table narrow id s t v symbol h w sound in
    let constant = some_from (constant_of wide v) sound.init in
    let consts = constants_of wide table narrow v constant.0 h constant.1 in
    let later = constants_on narrow adds.more constant.0 (table.words v) consts in
    let said : init_value (wide ++ x ∷ []) t ≡ Some v = init_value-after wide (x ∷ []) t (none_from (init_value wide t) sound.first_init) ∙ ap (λ (b : Bool). option_or (cond b (Some v) None) None) (eq-eqb t t refl) in
    fitted_next wide table table narrow narrow' x h sound (same_table wide table narrow narrow' adds.more x adds.is)
    (stands_without (wide ++ x ∷ []) table narrow' x refl (last_found wide x sound.fresh) tt
    (adds.begins, constant_of-append wide (x ∷ []) v constant.0 constant.1 ∙ ap (λ (u : ℕ). Some u) (sym (adds.word ∙ ap (λ (l : List Item). word_of (constant_words l) (table.words v)) adds.is ∙ later.word))) tt)
    (record {
      leaves = sym (no_leaves adds_init init_no_leaf adds.more adds.quiet);
      outputs = sym (no_nodes is_output adds_init init_no_output adds.more adds.quiet);
      bads = ap (map (λ p. p ∷ [])) (sym (no_nodes is_bad adds_init init_no_bad adds.more adds.quiet));
      constraints = ap (map (λ p. p ∷ [])) (sym (no_nodes is_constraint adds_init init_no_constraint adds.more adds.quiet));
      names = other_names adds_init init_no_output init_no_bad init_no_constraint table.words adds.more x refl adds.quiet;
      inits = still_others init_value (wide ++ x ∷ []) adds.more table.words t v (leaf_ids wide) said adds.others ready.0.of.others;
      nexts = silent next_value (wide ++ x ∷ []) adds.more table.words (leaf_ids wide) (λ k. no_nexts adds_init init_no_next adds.more k adds.quiet);
      own_inits = tt;
      own_nexts = tt;
    })

pub next_fitted : (wide : List Item) (table : Table) (narrow narrow' : List Item) (id s t v : ℕ) (symbol : Option (List ℕ)) → IsFitted wide table narrow → IsWellFormed narrow → IsSoundLine wide (named id symbol (body.Next s t v))
    → AddsNexts narrow narrow' (table.words t) (table.words v) → IsFitted (wide ++ named id symbol (body.Next s t v) ∷ []) table narrow'
unfolding is_second_next
next_fitted wide table narrow narrow' id s t v symbol h w sound adds =
    let x = named id symbol (body.Next s t v) in
    let ready = next_ready wide table narrow id s t v symbol h w sound in
    let said : next_value (wide ++ x ∷ []) t ≡ Some v = next_value-after wide (x ∷ []) t (none_from (next_value wide t) sound.first_next) ∙ ap (λ (b : Bool). option_or (cond b (Some v) None) None) (eq-eqb t t refl) in
    fitted_next wide table table narrow narrow' x h sound (same_table wide table narrow narrow' adds.more x adds.is)
    (stands_without (wide ++ x ∷ []) table narrow' x refl (last_found wide x sound.fresh) tt tt adds.takes)
    (record {
      leaves = sym (no_leaves adds_next next_no_leaf adds.more adds.quiet);
      outputs = sym (no_nodes is_output adds_next next_no_output adds.more adds.quiet);
      bads = ap (map (λ p. p ∷ [])) (sym (no_nodes is_bad adds_next next_no_bad adds.more adds.quiet));
      constraints = ap (map (λ p. p ∷ [])) (sym (no_nodes is_constraint adds_next next_no_constraint adds.more adds.quiet));
      names = other_names adds_next next_no_output next_no_bad next_no_constraint table.words adds.more x refl adds.quiet;
      inits = silent init_value (wide ++ x ∷ []) adds.more table.words (leaf_ids wide) (λ k. no_inits adds_next next_no_init adds.more k adds.quiet);
      nexts = still_others next_value (wide ++ x ∷ []) adds.more table.words t v (leaf_ids wide) said adds.others ready.0.of.others;
      own_inits = tt;
      own_nexts = tt;
    })
