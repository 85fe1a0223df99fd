-- A fitted list with one more line of each form that is no operator.
use Rattle.std.proofs.Common.{◌≡◌, ℕ, ◌≤◌, Bool, true, false, true≢false, cond, ◌||◌, ◌==◌, List, [], ◌∷◌, ◌++◌, map, flat_map, Option, Some, None, IfSome, is_some, is_none, option_and_then, append-nil, refl, sym, ap, subst, ◌∙◌, arith}
use Rattle.std.specs.List.{AllByRecursion}
use Rattle.std.proofs.lemmas.Bool.{and_parts}
use Rattle.btor2.specs.declared.item.Item.{Item}
use Rattle.btor2.specs.declared.item.Body.{Body}
use Rattle.btor2.specs.declared.item.Body.TheVariants as body
use Rattle.btor2.specs.Items.{find_item, node_sort, sort_bits, sort_width, constant_word, names_state, is_input, is_state, is_bad, is_constraint, is_free, init_for, init_value, next_for, next_value}
use Rattle.btor2.specs.Check.{IsWellFormed}
use Rattle.btor2.specs.Reachability.{nodes_of}
use Rattle.btor2.proofs.AppendLemmas.{sort_width-append, is_some_from}
use Rattle.btor2.proofs.ConstantLemmas.{init_value-after}
use Rattle.fit.specs.Fitting.{is_output, IsInputPiece}
use Rattle.fit.proofs.ListLemmas.{all_with}
use Rattle.fit.proofs.LineLemmas.{carries_input}
use Rattle.pieces.specs.declared.node.Node.{Node}
use Rattle.pieces.specs.Lines.{named}
use Rattle.pieces.specs.Nodes.{bits_in, AreNodes}
use Rattle.pieces.specs.Cuts.{widths, IsCut, IsWord}
use Rattle.fitting.specs.Fitted.{Table, node_ids, layout_by, most_bits, IsSoundLine, GoesOn, IsSettled, HasWord, AreConstantsOf, HaveNames, InitIsMade, NextIsMade, leaf_ids, Lacks, IsFitted}
use Rattle.fitting.specs.Names.{word_names}
use Rattle.fitting.specs.Steps.{leaf_body, IsLeafOf, adds_leaf, adds_init, adds_next, adds_output, AddsLeaves, AddsOutputs}
use Rattle.fitting.proofs.AssemblyLemmas.{all_ids, not_state_free}
use Rattle.fitting.proofs.StepLemmas.{next_value-after, fitted_next, no_names, other_names, all_of}
use Rattle.fitting.proofs.ValueLemmas.{sort_kept, last_found, HasWords, others_same, own_same, stands_without}
use Rattle.fitting.proofs.LineLemmas.{kind_on}

-- ---- what lines do not say

pub no_leaves : (test : Body → Bool) → ((b : Body) → test b ≡ true → (is_input b || is_state b) ≡ false) → (xs : List Item) → AllByRecursion (λ (y : Item). test y.body ≡ true) xs → leaf_ids xs ≡ []
no_leaves test none [] h = refl
no_leaves test none (x ∷ xs) h = rw (none x.body h.0) (no_leaves test none xs h.1)

pub no_nodes : (kind test : Body → Bool) → ((b : Body) → test b ≡ true → kind b ≡ false) → (xs : List Item) → AllByRecursion (λ (y : Item). test y.body ≡ true) xs → nodes_of kind xs ≡ []
no_nodes kind test none [] h = refl
no_nodes kind test none (x ∷ xs) h = rw (none x.body h.0) (no_nodes kind test none xs h.1)

pub no_inits : (test : Body → Bool) → ((id : ℕ) (b : Body) → test b ≡ true → init_for id b ≡ None) → (xs : List Item) (id : ℕ) → AllByRecursion (λ (y : Item). test y.body ≡ true) xs → init_value xs id ≡ None
no_inits test none [] id h = refl
no_inits test none (x ∷ xs) id h = rw (none id x.body h.0) (no_inits test none xs id h.1)

pub no_nexts : (test : Body → Bool) → ((id : ℕ) (b : Body) → test b ≡ true → next_for id b ≡ None) → (xs : List Item) (id : ℕ) → AllByRecursion (λ (y : Item). test y.body ≡ true) xs → next_value xs id ≡ None
no_nexts test none [] id h = refl
no_nexts test none (x ∷ xs) id h = rw (none id x.body h.0) (no_nexts test none xs id h.1)

leaf_no_output : (b : Body) → adds_leaf b ≡ true → is_output b ≡ false
leaf_no_output (body.Output a) h = absurd (cc)
leaf_no_output _ h = refl

leaf_no_bad : (b : Body) → adds_leaf b ≡ true → is_bad b ≡ false
leaf_no_bad (body.Bad a) h = absurd (cc)
leaf_no_bad _ h = refl

leaf_no_constraint : (b : Body) → adds_leaf b ≡ true → is_constraint b ≡ false
leaf_no_constraint (body.Constraint a) h = absurd (cc)
leaf_no_constraint _ h = refl

leaf_no_init : (id : ℕ) (b : Body) → adds_leaf b ≡ true → init_for id b ≡ None
leaf_no_init id (body.Init s t v) h = absurd (cc)
leaf_no_init id _ h = refl

leaf_no_next : (id : ℕ) (b : Body) → adds_leaf b ≡ true → next_for id b ≡ None
leaf_no_next id (body.Next s t v) h = absurd (cc)
leaf_no_next id _ h = refl

pub init_no_leaf : (b : Body) → adds_init b ≡ true → (is_input b || is_state b) ≡ false
init_no_leaf (body.Input s) h = absurd (cc)
init_no_leaf (body.State s) h = absurd (cc)
init_no_leaf _ h = refl

pub init_no_output : (b : Body) → adds_init b ≡ true → is_output b ≡ false
init_no_output (body.Output a) h = absurd (cc)
init_no_output _ h = refl

pub init_no_bad : (b : Body) → adds_init b ≡ true → is_bad b ≡ false
init_no_bad (body.Bad a) h = absurd (cc)
init_no_bad _ h = refl

pub init_no_constraint : (b : Body) → adds_init b ≡ true → is_constraint b ≡ false
init_no_constraint (body.Constraint a) h = absurd (cc)
init_no_constraint _ h = refl

pub init_no_next : (id : ℕ) (b : Body) → adds_init b ≡ true → next_for id b ≡ None
init_no_next id (body.Next s t v) h = absurd (cc)
init_no_next id _ h = refl

pub next_no_leaf : (b : Body) → adds_next b ≡ true → (is_input b || is_state b) ≡ false
next_no_leaf (body.Input s) h = absurd (cc)
next_no_leaf (body.State s) h = absurd (cc)
next_no_leaf _ h = refl

pub next_no_output : (b : Body) → adds_next b ≡ true → is_output b ≡ false
next_no_output (body.Output a) h = absurd (cc)
next_no_output _ h = refl

pub next_no_bad : (b : Body) → adds_next b ≡ true → is_bad b ≡ false
next_no_bad (body.Bad a) h = absurd (cc)
next_no_bad _ h = refl

pub next_no_constraint : (b : Body) → adds_next b ≡ true → is_constraint b ≡ false
next_no_constraint (body.Constraint a) h = absurd (cc)
next_no_constraint _ h = refl

pub next_no_init : (id : ℕ) (b : Body) → adds_next b ≡ true → init_for id b ≡ None
next_no_init id (body.Init s t v) h = absurd (cc)
next_no_init id _ h = refl

output_no_leaf : (b : Body) → adds_output b ≡ true → (is_input b || is_state b) ≡ false
output_no_leaf (body.Input s) h = absurd (cc)
output_no_leaf (body.State s) h = absurd (cc)
output_no_leaf _ h = refl

output_no_bad : (b : Body) → adds_output b ≡ true → is_bad b ≡ false
output_no_bad (body.Bad a) h = absurd (cc)
output_no_bad _ h = refl

output_no_constraint : (b : Body) → adds_output b ≡ true → is_constraint b ≡ false
output_no_constraint (body.Constraint a) h = absurd (cc)
output_no_constraint _ h = refl

output_no_init : (id : ℕ) (b : Body) → adds_output b ≡ true → init_for id b ≡ None
output_no_init id (body.Init s t v) h = absurd (cc)
output_no_init id _ h = refl

output_no_next : (id : ℕ) (b : Body) → adds_output b ≡ true → next_for id b ≡ None
output_no_next id (body.Next s t v) h = absurd (cc)
output_no_next id _ h = refl

-- so no line says of a piece what it is at first, or what it takes next
pub silent : (says : List Item → ℕ → Option ℕ) (wide' lines : List Item) (words : ℕ → List Node) (ws : List ℕ) → ((id : ℕ) → says lines id ≡ None) → AllByRecursion (λ id. says wide' id ≡ None → AllByRecursion (λ (p : Node). says lines p.id ≡ None) (words id)) ws
silent says wide' lines words ws h = all_of (λ id. says wide' id ≡ None → AllByRecursion (λ (p : Node). says lines p.id ≡ None) (words id)) ws (λ id none. all_of (λ (p : Node). says lines p.id ≡ None) (words id) (λ p. h p.id))

-- ---- a sort

abbrev pub goes_by : (wide : List Item) (table table' : Table) (narrow narrow' lines : List Item) (x : Item) → narrow' ≡ narrow ++ lines → ((id : ℕ) → is_some (find_item wide id) ≡ true → table'.sorts id ≡ table.sorts id)
    → ((id : ℕ) → is_some (find_item wide id) ≡ true → table'.words id ≡ table.words id) → GoesOn wide table narrow (wide ++ x ∷ []) table' narrow'
goes_by wide table table' narrow narrow' lines x is sorts words = record { more = x ∷ []; wide_is = refl; lines = lines; narrow_is = is; sorts = sorts; words = words }

pub sort_fitted : (wide : List Item) (table table' : Table) (narrow : List Item) (id n : ℕ) (symbol : Option (List ℕ)) → IsFitted wide table narrow → IsSoundLine wide (named id symbol (body.Sort n))
    → ((k : ℕ) → table'.sorts k ≡ cond (id == k) (Some n) (table.sorts k)) → ((k : ℕ) → table'.words k ≡ table.words k) → IsFitted (wide ++ named id symbol (body.Sort n) ∷ []) table' narrow
sort_fitted wide table table' narrow id n symbol h sound put words =
    let x = named id symbol (body.Sort n) in
    fitted_next wide table table' narrow narrow x h sound
    (goes_by wide table table' narrow narrow [] x (sym (append-nil narrow)) (others_same wide table.sorts table'.sorts id (Some n) sound.fresh put) (λ k there. words k))
    (stands_without (wide ++ x ∷ []) table' narrow x refl (last_found wide x sound.fresh) (own_same table.sorts table'.sorts id (Some n) put, sound.width) tt tt)
    (record {
      leaves = refl;
      outputs = refl;
      bads = refl;
      constraints = refl;
      names = record { outputs = refl; bads = refl; constraints = refl };
      inits = silent init_value (wide ++ x ∷ []) [] table.words (leaf_ids wide) (λ k. refl);
      nexts = silent next_value (wide ++ x ∷ []) [] table.words (leaf_ids wide) (λ k. refl);
      own_inits = tt;
      own_nexts = tt;
    })

-- ---- properties

abbrev pub same_table : (wide : List Item) (table : Table) (narrow narrow' lines : List Item) (x : Item) → narrow' ≡ narrow ++ lines → GoesOn wide table narrow (wide ++ x ∷ []) table narrow'
same_table wide table narrow narrow' lines x is = goes_by wide table table narrow narrow' lines x is (λ id there. refl) (λ id there. refl)

pub bad_fitted : (wide : List Item) (table : Table) (narrow narrow' : List Item) (id a i : ℕ) (symbol name : Option (List ℕ)) (p : Node) → IsFitted wide table narrow → IsSoundLine wide (named id symbol (body.Bad a)) → table.words a ≡ p ∷ [] → symbol ≡ name
    → narrow' ≡ narrow ++ named i name (body.Bad p.id) ∷ [] → IsFitted (wide ++ named id symbol (body.Bad a) ∷ []) table narrow'
bad_fitted wide table narrow narrow' id a i symbol name p h sound one same is =
    let x = named id symbol (body.Bad a) in
    let lines = named i name (body.Bad p.id) ∷ [] in
    fitted_next wide table table narrow narrow' x h sound (same_table wide table narrow narrow' lines x is)
    (stands_without (wide ++ x ∷ []) table narrow' x refl (last_found wide x sound.fresh) tt tt tt)
    (record {
      leaves = refl;
      outputs = refl;
      bads = ap (λ (ps : List Node). node_ids ps ∷ []) one;
      constraints = refl;
      names = record { outputs = refl; bads = ap (λ (s : Option (List ℕ)). s ∷ []) same; constraints = refl };
      inits = silent init_value (wide ++ x ∷ []) lines table.words (leaf_ids wide) (λ k. refl);
      nexts = silent next_value (wide ++ x ∷ []) lines table.words (leaf_ids wide) (λ k. refl);
      own_inits = tt;
      own_nexts = tt;
    })

pub constraint_fitted : (wide : List Item) (table : Table) (narrow narrow' : List Item) (id a i : ℕ) (symbol name : Option (List ℕ)) (p : Node) → IsFitted wide table narrow → IsSoundLine wide (named id symbol (body.Constraint a)) → table.words a ≡ p ∷ [] → symbol ≡ name
    → narrow' ≡ narrow ++ named i name (body.Constraint p.id) ∷ [] → IsFitted (wide ++ named id symbol (body.Constraint a) ∷ []) table narrow'
constraint_fitted wide table narrow narrow' id a i symbol name p h sound one same is =
    let x = named id symbol (body.Constraint a) in
    let lines = named i name (body.Constraint p.id) ∷ [] in
    fitted_next wide table table narrow narrow' x h sound (same_table wide table narrow narrow' lines x is)
    (stands_without (wide ++ x ∷ []) table narrow' x refl (last_found wide x sound.fresh) tt tt tt)
    (record {
      leaves = refl;
      outputs = refl;
      bads = refl;
      constraints = ap (λ (ps : List Node). node_ids ps ∷ []) one;
      names = record { outputs = refl; bads = refl; constraints = ap (λ (s : Option (List ℕ)). s ∷ []) same };
      inits = silent init_value (wide ++ x ∷ []) lines table.words (leaf_ids wide) (λ k. refl);
      nexts = silent next_value (wide ++ x ∷ []) lines table.words (leaf_ids wide) (λ k. refl);
      own_inits = tt;
      own_nexts = tt;
    })

pub output_fitted : (wide : List Item) (table : Table) (narrow narrow' : List Item) (id a : ℕ) (symbol : Option (List ℕ)) → IsFitted wide table narrow → IsSoundLine wide (named id symbol (body.Output a)) → AddsOutputs narrow narrow' (table.words a) (word_names symbol (widths (table.words a)))
    → IsFitted (wide ++ named id symbol (body.Output a) ∷ []) table narrow'
output_fitted wide table narrow narrow' id a symbol h sound adds =
    let x = named id symbol (body.Output a) in
    fitted_next wide table table narrow narrow' x h sound (same_table wide table narrow narrow' adds.more x adds.is)
    (stands_without (wide ++ x ∷ []) table narrow' x refl (last_found wide x sound.fresh) tt tt tt)
    (record {
      leaves = sym (no_leaves adds_output output_no_leaf adds.more adds.quiet);
      outputs = append-nil (layout_by table.words a) ∙ sym adds.nodes;
      bads = ap (map (λ p. p ∷ [])) (sym (no_nodes is_bad adds_output output_no_bad adds.more adds.quiet));
      constraints = ap (map (λ p. p ∷ [])) (sym (no_nodes is_constraint adds_output output_no_constraint adds.more adds.quiet));
      names = record {
        outputs = append-nil (word_names symbol (widths (table.words a)) ++ []) ∙ append-nil (word_names symbol (widths (table.words a))) ∙ sym adds.named;
        bads = sym (no_names is_bad adds_output output_no_bad adds.more adds.quiet);
        constraints = sym (no_names is_constraint adds_output output_no_constraint adds.more adds.quiet);
      };
      inits = silent init_value (wide ++ x ∷ []) adds.more table.words (leaf_ids wide) (λ k. no_inits adds_output output_no_init adds.more k adds.quiet);
      nexts = silent next_value (wide ++ x ∷ []) adds.more table.words (leaf_ids wide) (λ k. no_nexts adds_output output_no_next adds.more k adds.quiet);
      own_inits = tt;
      own_nexts = tt;
    })

-- ---- leaves

leaf_names : (input : Bool) (s : ℕ) → node_sort (leaf_body input s) ≡ Some s
leaf_names true s = refl
leaf_names false s = refl

leaf_no_sort : (input : Bool) (s : ℕ) → sort_bits (leaf_body input s) ≡ None
leaf_no_sort true s = refl
leaf_no_sort false s = refl

leaf_no_constant : (input : Bool) (n s : ℕ) → constant_word n (leaf_body input s) ≡ None
leaf_no_constant true n s = refl
leaf_no_constant false n s = refl

leaf_is : (input : Bool) (s : ℕ) → (is_input (leaf_body input s) || is_state (leaf_body input s)) ≡ true
leaf_is true s = refl
leaf_is false s = refl

leaf_adds : (input : Bool) (s : ℕ) → adds_leaf (leaf_body input s) ≡ true
leaf_adds true s = refl
leaf_adds false s = refl

leaf_init_made : (wide : List Item) (words : ℕ → List Node) (narrow : List Item) (input : Bool) (s : ℕ) → InitIsMade wide words narrow (leaf_body input s)
leaf_init_made wide words narrow true s = tt
leaf_init_made wide words narrow false s = tt

leaf_next_made : (words : ℕ → List Node) (narrow : List Item) (input : Bool) (s : ℕ) → NextIsMade words narrow (leaf_body input s)
leaf_next_made words narrow true s = tt
leaf_next_made words narrow false s = tt

state_named : (items : List Item) (id : ℕ) → IsLeafOf false items id → names_state items id ≡ true
state_named items id h =
    ap (λ (o : Option Item). is_some (option_and_then (λ (y : Item). cond (is_state y.body) (Some y) None) o)) h.1 ∙ ap (λ (b : Bool). is_some (cond b (Some h.0) None)) h.2

not_named : (items : List Item) (id : ℕ) → find_item items id ≡ None → names_state items id ≡ false
not_named items id h = ap (λ (o : Option Item). is_some (option_and_then (λ (y : Item). cond (is_state y.body) (Some y) None) o)) h

none_from : (o : Option ℕ) → is_none o ≡ true → o ≡ None
none_from None h = refl
none_from (Some v) h = absurd (cc)

free_parts : (items : List Item) (id : ℕ) → is_free items id ≡ true → (init_value items id ≡ None) × (next_value items id ≡ None)
free_parts items id h =
    let both = and_parts (is_none (init_value items id)) (is_none (next_value items id)) h in
    (none_from (init_value items id) both.0, none_from (next_value items id) both.1)

leaf_settled : (input : Bool) (wide : List Item) (table : Table) (narrow : List Item) (x : Item) (s : ℕ) (rs : List Node) → x.body ≡ leaf_body input s → find_item wide x.id ≡ Some x → table.words x.id ≡ rs → AllByRecursion (λ (p : Node). IsLeafOf input narrow p.id) rs
    → IsSettled wide table narrow x
leaf_settled false wide table narrow x s rs is found own kinds wide' table' narrow' on w no_state = absurd (true≢false (sym (ap is_state is) ∙ no_state))
leaf_settled true wide table narrow x s rs is found own kinds wide' table' narrow' on w no_state =
    carries_input wide' narrow' (layout_by table'.words) x (ap is_input is)
    (subst (λ (ps : List Node). AllByRecursion (IsInputPiece narrow') (node_ids ps)) (sym (on.words x.id (is_some_from (find_item wide x.id) x found) ∙ own))
    (all_ids (IsInputPiece narrow') rs (subst (λ (l : List Item). AllByRecursion (λ (p : Node). IsInputPiece l p.id) rs) (sym on.narrow_is)
    (all_with (λ (p : Node). IsLeafOf true narrow p.id) (λ (p : Node). IsInputPiece (narrow ++ on.lines) p.id) rs (λ p kind. kind_on true narrow on.lines p.id kind) kinds))))

pub leaf_fitted : (input : Bool) (wide : List Item) (table table' : Table) (narrow narrow' : List Item) (id s : ℕ) (symbol : Option (List ℕ)) (n : ℕ) (rs : List Node) → IsFitted wide table narrow → IsWellFormed narrow → IsSoundLine wide (named id symbol (leaf_body input s))
    → sort_width wide s ≡ Some n → AreNodes narrow' rs → bits_in rs ≡ n → IsCut 64 (widths rs) → AddsLeaves input narrow narrow' rs (word_names symbol (widths rs)) → ((k : ℕ) → table'.sorts k ≡ table.sorts k) → HasWords table.words table'.words id rs
    → IsFitted (wide ++ named id symbol (leaf_body input s) ∷ []) table' narrow'
leaf_fitted input wide table table' narrow narrow' id s symbol n rs h w sound sort nodes bits cut adds sorts put =
    let x = named id symbol (leaf_body input s) in
    let own : table'.words id ≡ rs = own_same table.words table'.words id rs put in
    let bounds = sort_kept wide table narrow s n h.stand sort in
    let found = last_found wide x sound.fresh in
    let leaves : leaf_ids (x ∷ []) ≡ id ∷ [] = ap (λ (b : Bool). map (λ (y : Item). y.id) (cond b (x ∷ []) [])) (leaf_is input s) in
    let x_adds : AllByRecursion (λ (y : Item). adds_leaf y.body ≡ true) (x ∷ []) = (leaf_adds input s, tt) in
    let free = all_with (λ (p : Node). find_item narrow p.id ≡ None) (λ (p : Node). (init_value narrow p.id ≡ None) × (next_value narrow p.id ≡ None)) rs
    (λ p none. free_parts narrow p.id (not_state_free narrow p.id w (not_named narrow p.id none))) adds.fresh in
    let inits : AllByRecursion (λ (p : Node). init_value narrow' p.id ≡ None) rs =
    all_with (λ (p : Node). (init_value narrow p.id ≡ None) × (next_value narrow p.id ≡ None)) (λ (p : Node). init_value narrow' p.id ≡ None) rs
    (λ p none. ap (λ (l : List Item). init_value l p.id) adds.is ∙ init_value-after narrow adds.more p.id none.0 ∙ no_inits adds_leaf leaf_no_init adds.more p.id adds.quiet) free in
    let nexts : AllByRecursion (λ (p : Node). next_value narrow' p.id ≡ None) rs =
    all_with (λ (p : Node). (init_value narrow p.id ≡ None) × (next_value narrow p.id ≡ None)) (λ (p : Node). next_value narrow' p.id ≡ None) rs
    (λ p none. ap (λ (l : List Item). next_value l p.id) adds.is ∙ next_value-after narrow adds.more p.id none.1 ∙ no_nexts adds_leaf leaf_no_next adds.more p.id adds.quiet) free in
    fitted_next wide table table' narrow narrow' x h sound
    (goes_by wide table table' narrow narrow' adds.more x adds.is (λ k there. sorts k) (others_same wide table.words table'.words id rs sound.fresh put))
    (record {
      found = found;
      sort = subst (λ (o : Option ℕ). IfSome o (λ m. (table'.sorts id ≡ Some m) × ((1 ≤ m) × (m ≤ most_bits)))) (sym (leaf_no_sort input s)) tt;
      value = subst (λ (o : Option ℕ). IfSome o (HasWord (wide ++ x ∷ []) table'.words narrow' id)) (sym (leaf_names input s))
          (record {
            bits = n;
            width = sort_width-append wide (x ∷ []) s n sort;
            word = subst (IsWord narrow') (sym own) (record { nodes = nodes; cut = cut; some = omega (arith, bounds.1.0, bits); few = omega (arith, bounds.1.1, bits) });
            has_bits = ap bits_in own ∙ bits;
          });
      constant = subst (λ (o : Option ℕ). IfSome o (λ v. AreConstantsOf narrow' v (table'.words id))) (sym (leaf_no_constant input (bits_in (table'.words id)) s)) tt;
      state = by_state input adds.kinds own;
      input = by_input input adds.kinds own;
      names = λ is. subst (λ (ps : List Node). HaveNames narrow' ps (word_names symbol (widths ps))) (sym own) adds.named;
      init = leaf_init_made (wide ++ x ∷ []) table'.words narrow' input s;
      next = leaf_next_made table'.words narrow' input s;
      settled = leaf_settled input (wide ++ x ∷ []) table' narrow' x s rs refl found own adds.kinds;
    })
    (record {
      leaves = ap (flat_map (layout_by table'.words)) leaves ∙ append-nil (layout_by table'.words id) ∙ ap node_ids own ∙ sym adds.ids;
      outputs = ap (flat_map (layout_by table'.words)) (no_nodes is_output adds_leaf leaf_no_output (x ∷ []) x_adds) ∙ sym (no_nodes is_output adds_leaf leaf_no_output adds.more adds.quiet);
      bads = ap (map (layout_by table'.words)) (no_nodes is_bad adds_leaf leaf_no_bad (x ∷ []) x_adds) ∙ ap (map (λ p. p ∷ [])) (sym (no_nodes is_bad adds_leaf leaf_no_bad adds.more adds.quiet));
      constraints = ap (map (layout_by table'.words)) (no_nodes is_constraint adds_leaf leaf_no_constraint (x ∷ []) x_adds) ∙ ap (map (λ p. p ∷ [])) (sym (no_nodes is_constraint adds_leaf leaf_no_constraint adds.more adds.quiet));
      names = other_names adds_leaf leaf_no_output leaf_no_bad leaf_no_constraint table'.words adds.more x x_adds.0 adds.quiet;
      inits = silent init_value (wide ++ x ∷ []) adds.more table.words (leaf_ids wide) (λ k. no_inits adds_leaf leaf_no_init adds.more k adds.quiet);
      nexts = silent next_value (wide ++ x ∷ []) adds.more table.words (leaf_ids wide) (λ k. no_nexts adds_leaf leaf_no_next adds.more k adds.quiet);
      own_inits = subst (AllByRecursion (Lacks init_value (wide ++ x ∷ []) table'.words narrow')) (sym leaves) (λ none. subst (AllByRecursion (λ (p : Node). init_value narrow' p.id ≡ None)) (sym own) inits, tt);
      own_nexts = subst (AllByRecursion (Lacks next_value (wide ++ x ∷ []) table'.words narrow')) (sym leaves) (λ none. subst (AllByRecursion (λ (p : Node). next_value narrow' p.id ≡ None)) (sym own) nexts, tt);
    })
  where
    by_input : (b : Bool) → AllByRecursion (λ (p : Node). IsLeafOf b narrow' p.id) rs → table'.words id ≡ rs → is_input (leaf_body b s) ≡ true → AllByRecursion (λ (p : Node). IsInputPiece narrow' p.id) (table'.words id)
    by_input false kinds own is = absurd (cc)
    by_input true kinds own is = subst (AllByRecursion (λ (p : Node). IsInputPiece narrow' p.id)) (sym own) kinds

    by_state : (b : Bool) → AllByRecursion (λ (p : Node). IsLeafOf b narrow' p.id) rs → table'.words id ≡ rs → is_state (leaf_body b s) ≡ true → AllByRecursion (λ (p : Node). names_state narrow' p.id ≡ true) (table'.words id)
    by_state true kinds own is = absurd (cc)
    by_state false kinds own is =
        subst (AllByRecursion (λ (p : Node). names_state narrow' p.id ≡ true)) (sym own) (all_with (λ (p : Node). IsLeafOf false narrow' p.id) (λ (p : Node). names_state narrow' p.id ≡ true) rs (λ p kind. state_named narrow' p.id kind) kinds)
