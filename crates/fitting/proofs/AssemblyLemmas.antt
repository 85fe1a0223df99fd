-- A list all of whose lines stand is fitted.
use Rattle.std.proofs.Common.{◌≡◌, ℕ, ◌+◌, Bool, true, false, cond, not, ◌&&◌, ◌||◌, nat_eq, eqb-true, List, [], ◌∷◌, ◌++◌, map, filter, flat_map, Option, Some, None, IfSome, is_some, is_none, unwrap_or, option_and_then, append-nil, refl, sym, ap, ap₂, subst, ◌∙◌}
use Rattle.std.specs.List.{AllByRecursion, AllZip}
use Rattle.std.specs.Option.{option_or}
use Rattle.std.proofs.lemmas.Option.{none-some, same_Some}
use Rattle.base.specs.Operator.{concat_value}
use Rattle.btor2.specs.declared.item.Item.{Item}
use Rattle.btor2.specs.declared.item.Body.{Body}
use Rattle.btor2.specs.declared.item.Body.TheVariants as body
use Rattle.btor2.specs.Items.{find_item, node_sort, node_width, width_of_body, sort_width, operands, constant_of, names_state, is_input, is_state, is_free, is_carried_state, init_for, init_value, init_word, next_for, next_value}
use Rattle.btor2.specs.Check.{IsWellFormed}
use Rattle.btor2.specs.Trace.{Frame, bits_of}
use Rattle.btor2.proofs.AppendLemmas.{then_parts, some_of}
use Rattle.btor2.proofs.ModelLemmas.{IsIn-from_find, IsInitOf-from_value, IsNextOf-from_value}
use Rattle.btor2.proofs.IdLemmas.{ids_named, input_is_no_state}
use Rattle.full.proofs.PlainLaw.{profile_is_wide}
use Rattle.fit.specs.Fitting.{Layout, is_output, pieces_word, pieces_width, is_given, ids_of, carried_ids, HasWidthOfPieces, Carries, init_words, InitIsCarried, AbsenceIsCarried, next_pieces, NextIsByPieces, NextIsCarried, IsFittingOf}
use Rattle.fit.proofs.ListLemmas.{all_with, all_both, of_ids, to_ids}
use Rattle.fit.proofs.FrameLemmas.{AreNodes as AreNamed, all_named}
use Rattle.fit.proofs.LineLemmas.{next_by_pieces, outputs_by_pieces, carries_state}
use Rattle.pieces.specs.declared.node.Node.{Node}
use Rattle.pieces.specs.Nodes.{word_of, bits_in, IsNode, AreNodes}
use Rattle.pieces.specs.Cuts.{widths, IsWord}
use Rattle.fitting.specs.Names.{word_names, IsNamed, piece_widths, LeafIsNamed, HasNames}
use Rattle.fitting.specs.Fitted.{Table, node_ids, layout_by, GoesOn, HasWord, HaveNames, InitIsMade, TakesNode, NextIsMade, LineStands, is_leaf, leaf_ids, Lacks, IsFitted}
use Rattle.fitting.proofs.GrowLemmas.{all_at}
use Rattle.fitting.proofs.NameLemmas.{widths_known, shown_alike}

-- ---- nodes and their ids

pub all_ids : (P : ℕ → Type 0) (ps : List Node) → AllByRecursion (λ (p : Node). P p.id) ps → AllByRecursion P (node_ids ps)
all_ids P [] h = tt
all_ids P (p ∷ ps) h = (h.0, all_ids P ps h.1)

own_bits : (items : List Item) (p : Node) → IsNode items p → bits_of items p.id ≡ p.width
own_bits items p h = ap (λ (o : Option ℕ). unwrap_or o 0) h

pub pieces_bits : (items : List Item) (ps : List Node) → AreNodes items ps → pieces_width (bits_of items) (node_ids ps) ≡ bits_in ps
pieces_bits items [] h = refl
pieces_bits items (p ∷ ps) h = ap₂ (λ (i j : ℕ). i + j) (pieces_bits items ps h.1) (own_bits items p h.0)

pub pieces_make : (items : List Item) (g : Frame) (ps : List Node) → AreNodes items ps → pieces_word (bits_of items) g (node_ids ps) ≡ word_of g ps
pieces_make items g [] h = refl
pieces_make items g (p ∷ ps) h = ap₂ (λ (i j : ℕ). concat_value i j (g p.id)) (pieces_make items g ps h.1) (own_bits items p h.0)

-- the nodes of a word by its id
pub nodes_of_word : (wide : List Item) (table : Table) (narrow : List Item) (a n : ℕ) → AllByRecursion (LineStands wide table narrow) wide → node_width wide a ≡ Some n
    → IsWord narrow (table.words a) × (bits_in (table.words a) ≡ n)
nodes_of_word wide table narrow a n stand h =
    let parts = then_parts (λ (x : Item). width_of_body wide x.body) (find_item wide a) n h in
    let sort = then_parts (sort_width wide) (node_sort parts.0.body) n parts.2 in
    let at = IsIn-from_find wide a parts.0 parts.1 in
    let own = all_at (LineStands wide table narrow) wide parts.0 at.0 stand in
    let value : HasWord wide table.words narrow parts.0.id sort.0 = subst (λ (o : Option ℕ). IfSome o (HasWord wide table.words narrow parts.0.id)) sort.1 own.value in
    subst (λ (k : ℕ). IsWord narrow (table.words k) × (bits_in (table.words k) ≡ n)) (sym at.1) (value.word, value.has_bits ∙ same_Some value.bits n (sym value.width ∙ sort.2))

pub named_word : (wide : List Item) (table : Table) (narrow : List Item) (a : ℕ) → AllByRecursion (LineStands wide table narrow) wide → is_some (node_width wide a) ≡ true → IsWord narrow (table.words a)
named_word wide table narrow a stand h = let width = some_of (node_width wide a) h in (nodes_of_word wide table narrow a width.0 stand width.1).0

-- ---- init lines and next lines by the ids of states

init_among : (wide narrow : List Item) (words : ℕ → List Node) (xs : List Item) (id v : ℕ) (b : Body) → InitIsMade wide words narrow b → (init_value xs id ≡ Some v → AllByRecursion (λ (p : Node). is_some (init_word narrow p.id) ≡ true) (words id))
    → option_or (init_for id b) (init_value xs id) ≡ Some v → AllByRecursion (λ (p : Node). is_some (init_word narrow p.id) ≡ true) (words id)
init_among wide narrow words xs id v (body.Init s t u) own rest e = by (nat_eq id t) refl e
  where
    by : (b : Bool) → nat_eq id t ≡ b → option_or (cond b (Some u) None) (init_value xs id) ≡ Some v → AllByRecursion (λ (p : Node). is_some (init_word narrow p.id) ≡ true) (words id)
    by true same e = subst (λ (k : ℕ). AllByRecursion (λ (p : Node). is_some (init_word narrow p.id) ≡ true) (words k)) (sym (eqb-true id t same)) own.0
    by false same e = rest e
init_among wide narrow words xs id v _ own rest e = rest e

pub init_at : (wide narrow : List Item) (words : ℕ → List Node) (xs : List Item) (id v : ℕ) → AllByRecursion (λ (x : Item). InitIsMade wide words narrow x.body) xs → init_value xs id ≡ Some v
    → AllByRecursion (λ (p : Node). is_some (init_word narrow p.id) ≡ true) (words id)
init_at wide narrow words [] id v h e = absurd (none-some v e)
init_at wide narrow words (x ∷ xs) id v h e = init_among wide narrow words xs id v x.body h.0 (init_at wide narrow words xs id v h.1) e

next_among : (narrow : List Item) (words : ℕ → List Node) (xs : List Item) (id v : ℕ) (b : Body) → NextIsMade words narrow b → (next_value xs id ≡ Some v → AllZip (TakesNode narrow) (words id) (words v))
    → option_or (next_for id b) (next_value xs id) ≡ Some v → AllZip (TakesNode narrow) (words id) (words v)
next_among narrow words xs id v (body.Next s t u) own rest e = by (nat_eq id t) refl e
  where
    by : (b : Bool) → nat_eq id t ≡ b → option_or (cond b (Some u) None) (next_value xs id) ≡ Some v → AllZip (TakesNode narrow) (words id) (words v)
    by true same e =
        subst (λ (k : ℕ). AllZip (TakesNode narrow) (words k) (words v)) (sym (eqb-true id t same)) (subst (λ (k : ℕ). AllZip (TakesNode narrow) (words t) (words k)) (same_Some u v e) own)
    by false same e = rest e
next_among narrow words xs id v _ own rest e = rest e

pub next_at : (narrow : List Item) (words : ℕ → List Node) (xs : List Item) (id v : ℕ) → AllByRecursion (λ (x : Item). NextIsMade words narrow x.body) xs → next_value xs id ≡ Some v → AllZip (TakesNode narrow) (words id) (words v)
next_at narrow words [] id v h e = absurd (none-some v e)
next_at narrow words (x ∷ xs) id v h e = next_among narrow words xs id v x.body h.0 (next_at narrow words xs id v h.1) e

-- ---- pieces are free where the leaf is

has_init : (narrow : List Item) (p : ℕ) → is_some (init_word narrow p) ≡ true → is_none (init_value narrow p) ≡ false
has_init narrow p h = by (init_value narrow p) h
  where
    by : (o : Option ℕ) → is_some (option_and_then (constant_of narrow) o) ≡ true → is_none o ≡ false
    by None h = absurd (cc)
    by (Some v) h = refl

take_nexts : (narrow : List Item) (ps qs : List Node) → AllZip (TakesNode narrow) ps qs → AllByRecursion (λ (p : Node). is_none (next_value narrow p.id) ≡ false) ps
take_nexts narrow [] qs h = tt
take_nexts narrow (p ∷ ps) [] h = absurd h
take_nexts narrow (p ∷ ps) (q ∷ qs) h = (ap is_none h.0, take_nexts narrow ps qs h.1)

inits_alike : (wide narrow : List Item) (words : ℕ → List Node) (id : ℕ) → AllByRecursion (λ (x : Item). InitIsMade wide words narrow x.body) wide → Lacks init_value wide words narrow id
    → AllByRecursion (λ (p : Node). is_none (init_value narrow p.id) ≡ is_none (init_value wide id)) (words id)
inits_alike wide narrow words id made lacks = by (init_value wide id) refl
  where
    by : (o : Option ℕ) → init_value wide id ≡ o → AllByRecursion (λ (p : Node). is_none (init_value narrow p.id) ≡ is_none o) (words id)
    by None e = all_with (λ (p : Node). init_value narrow p.id ≡ None) (λ (p : Node). is_none (init_value narrow p.id) ≡ true) (words id) (λ p h. ap is_none h) (lacks e)
    by (Some v) e = all_with (λ (p : Node). is_some (init_word narrow p.id) ≡ true) (λ (p : Node). is_none (init_value narrow p.id) ≡ false) (words id) (λ p h. has_init narrow p.id h) (init_at wide narrow words wide id v made e)

nexts_alike : (wide narrow : List Item) (words : ℕ → List Node) (id : ℕ) → AllByRecursion (λ (x : Item). NextIsMade words narrow x.body) wide → Lacks next_value wide words narrow id
    → AllByRecursion (λ (p : Node). is_none (next_value narrow p.id) ≡ is_none (next_value wide id)) (words id)
nexts_alike wide narrow words id made lacks = by (next_value wide id) refl
  where
    by : (o : Option ℕ) → next_value wide id ≡ o → AllByRecursion (λ (p : Node). is_none (next_value narrow p.id) ≡ is_none o) (words id)
    by None e = all_with (λ (p : Node). next_value narrow p.id ≡ None) (λ (p : Node). is_none (next_value narrow p.id) ≡ true) (words id) (λ p h. ap is_none h) (lacks e)
    by (Some v) e = take_nexts narrow (words id) (words v) (next_at narrow words wide id v made e)

free_alike : (wide : List Item) (table : Table) (narrow : List Item) (id : ℕ) → AllByRecursion (LineStands wide table narrow) wide → Lacks init_value wide table.words narrow id → Lacks next_value wide table.words narrow id
    → AllByRecursion (λ p. is_free narrow p ≡ is_free wide id) (layout_by table.words id)
free_alike wide table narrow id stand no_init no_next =
    let inits = inits_alike wide narrow table.words id (all_with (LineStands wide table narrow) (λ (x : Item). InitIsMade wide table.words narrow x.body) wide (λ x h. h.init) stand) no_init in
    let nexts = nexts_alike wide narrow table.words id (all_with (LineStands wide table narrow) (λ (x : Item). NextIsMade table.words narrow x.body) wide (λ x h. h.next) stand) no_next in
    all_ids (λ p. is_free narrow p ≡ is_free wide id) (table.words id)
    (all_with (λ (p : Node). (is_none (init_value narrow p.id) ≡ is_none (init_value wide id)) × (is_none (next_value narrow p.id) ≡ is_none (next_value wide id))) (λ (p : Node). is_free narrow p.id ≡ is_free wide id) (table.words id)
    (λ p both. ap₂ (λ (b c : Bool). b && c) both.0 both.1)
    (all_both (λ (p : Node). is_none (init_value narrow p.id) ≡ is_none (init_value wide id)) (λ (p : Node). is_none (next_value narrow p.id) ≡ is_none (next_value wide id)) (table.words id) inits nexts))

-- ---- leaves by whether they are free

pub not_state_free : (items : List Item) (id : ℕ) → IsWellFormed items → names_state items id ≡ false → is_free items id ≡ true
not_state_free items id w none = ap₂ (λ (b c : Bool). b && c) (by (init_value items id) refl) (next_by (next_value items id) refl)
  where
    by : (o : Option ℕ) → init_value items id ≡ o → is_none o ≡ true
    by None e = refl
    by (Some v) e = let is = (IsInitOf-from_value items id v w e).state in absurd (cc)

    next_by : (o : Option ℕ) → next_value items id ≡ o → is_none o ≡ true
    next_by None e = refl
    next_by (Some v) e = let is = (IsNextOf-from_value items id v w e).state in absurd (cc)

pub given_by : (items xs : List Item) → AllByRecursion (λ (x : Item). is_input x.body ≡ true → is_free items x.id ≡ true) xs → ids_of (is_given items) xs ≡ filter (is_free items) (ids_of is_leaf xs)
given_by items [] h = refl
given_by items (x ∷ xs) h = by (is_input x.body) (is_state x.body) (is_free items x.id) refl h.0 (given_by items xs h.1)
  where
    by : (i s f : Bool) → is_free items x.id ≡ f → (i ≡ true → f ≡ true) → ids_of (is_given items) xs ≡ filter (is_free items) (ids_of is_leaf xs)
        → map (λ (y : Item). y.id) (cond (i || (s && f)) (x ∷ filter (is_given items) xs) (filter (is_given items) xs)) ≡ filter (is_free items) (map (λ (y : Item). y.id) (cond (i || s) (x ∷ filter is_leaf xs) (filter is_leaf xs)))
    by true s true e own rest = rw e (ap (λ (l : List ℕ). x.id ∷ l) rest)
    by true s false e own rest = absurd (let no = own refl in cc)
    by false true true e own rest = rw e (ap (λ (l : List ℕ). x.id ∷ l) rest)
    by false true false e own rest = rw e rest
    by false false f e own rest = rest

pub carried_by : (items xs : List Item) → AllByRecursion (λ (x : Item). is_input x.body ≡ true → is_free items x.id ≡ true) xs → ids_of (is_carried_state items) xs ≡ filter (λ id. not (is_free items id)) (ids_of is_leaf xs)
carried_by items [] h = refl
carried_by items (x ∷ xs) h = by (is_input x.body) (is_state x.body) (is_free items x.id) refl (input_is_no_state x.body) h.0 (carried_by items xs h.1)
  where
    by : (i s f : Bool) → is_free items x.id ≡ f → (i ≡ true → s ≡ false) → (i ≡ true → f ≡ true) → ids_of (is_carried_state items) xs ≡ filter (λ id. not (is_free items id)) (ids_of is_leaf xs)
        → map (λ (y : Item). y.id) (cond (s && not f) (x ∷ filter (is_carried_state items) xs) (filter (is_carried_state items) xs)) ≡ filter (λ id. not (is_free items id)) (map (λ (y : Item). y.id) (cond (i || s) (x ∷ filter is_leaf xs) (filter is_leaf xs)))
    by true true f e none own rest = absurd (let no = none refl in cc)
    by true false true e none own rest = rw e rest
    by true false false e none own rest = absurd (let no = own refl in cc)
    by false true true e none own rest = rw e rest
    by false true false e none own rest = rw e (ap (λ (l : List ℕ). x.id ∷ l) rest)
    by false false f e none own rest = rest

filter_append : (u : ℕ → Bool) (xs ys : List ℕ) → filter u (xs ++ ys) ≡ filter u xs ++ filter u ys
filter_append u [] ys = refl
filter_append u (x ∷ xs) ys = by (u x) (filter_append u xs ys)
  where
    by : (b : Bool) → filter u (xs ++ ys) ≡ filter u xs ++ filter u ys → cond b (x ∷ filter u (xs ++ ys)) (filter u (xs ++ ys)) ≡ cond b (x ∷ filter u xs) (filter u xs) ++ filter u ys
    by true h = ap (λ (l : List ℕ). x ∷ l) h
    by false h = h

filter_all : (u : ℕ → Bool) (xs : List ℕ) → AllByRecursion (λ x. u x ≡ true) xs → filter u xs ≡ xs
filter_all u [] h = refl
filter_all u (x ∷ xs) h = rw h.0 (ap (λ (l : List ℕ). x ∷ l) (filter_all u xs h.1))

filter_none : (u : ℕ → Bool) (xs : List ℕ) → AllByRecursion (λ x. u x ≡ false) xs → filter u xs ≡ []
filter_none u [] h = refl
filter_none u (x ∷ xs) h = rw h.0 (filter_none u xs h.1)

-- the pieces of those that pass a test, where each passes it as its pieces do
pub pieces_filtered : (t u : ℕ → Bool) (layout : Layout) (ws : List ℕ) → AllByRecursion (λ w. AllByRecursion (λ p. u p ≡ t w) (layout w)) ws → flat_map layout (filter t ws) ≡ filter u (flat_map layout ws)
pieces_filtered t u layout [] h = refl
pieces_filtered t u layout (w ∷ ws) h = by (t w) h.0 (pieces_filtered t u layout ws h.1) ∙ sym (filter_append u (layout w) (flat_map layout ws))
  where
    by : (b : Bool) → AllByRecursion (λ p. u p ≡ b) (layout w) → flat_map layout (filter t ws) ≡ filter u (flat_map layout ws)
        → flat_map layout (cond b (w ∷ filter t ws) (filter t ws)) ≡ filter u (layout w) ++ filter u (flat_map layout ws)
    by true own rest = ap₂ (λ (k l : List ℕ). k ++ l) (sym (filter_all u (layout w) own)) rest
    by false own rest = rest ∙ ap (λ (l : List ℕ). l ++ filter u (flat_map layout ws)) (sym (filter_none u (layout w) own))

-- ---- each part

zip_map : (narrow : List Item) (ps qs : List Node) → AllZip (TakesNode narrow) ps qs → map (next_value narrow) (node_ids ps) ≡ map (λ q. Some q) (node_ids qs)
zip_map narrow [] [] h = refl
zip_map narrow [] (q ∷ qs) h = absurd h
zip_map narrow (p ∷ ps) [] h = absurd h
zip_map narrow (p ∷ ps) (q ∷ qs) h = ap₂ (λ (o : Option ℕ) (l : List (Option ℕ)). o ∷ l) h.0 (zip_map narrow ps qs h.1)

none_map : (narrow : List Item) (ps : List Node) → AllByRecursion (λ (p : Node). next_value narrow p.id ≡ None) ps → map (next_value narrow) (node_ids ps) ≡ map (λ p. None) (node_ids ps)
none_map narrow [] h = refl
none_map narrow (p ∷ ps) h = ap₂ (λ (o : Option ℕ) (l : List (Option ℕ)). o ∷ l) h.0 (none_map narrow ps h.1)

pub next_carried : (wide : List Item) (table : Table) (narrow : List Item) (id : ℕ) → AllByRecursion (LineStands wide table narrow) wide → Lacks next_value wide table.words narrow id → NextIsByPieces wide (layout_by table.words) narrow id
next_carried wide table narrow id stand lacks = by (next_value wide id) refl
  where
    by : (o : Option ℕ) → next_value wide id ≡ o → map (next_value narrow) (layout_by table.words id) ≡ next_pieces (layout_by table.words) o (layout_by table.words id)
    by None e = none_map narrow (table.words id) (lacks e)
    by (Some v) e =
        zip_map narrow (table.words id) (table.words v)
        (next_at narrow table.words wide id v (all_with (LineStands wide table narrow) (λ (x : Item). NextIsMade table.words narrow x.body) wide (λ x h. h.next) stand) e)

init_carried : (wide : List Item) (table : Table) (narrow : List Item) (b : Body) → AllByRecursion (LineStands wide table narrow) wide → AreNamed wide (operands b) → InitIsMade wide table.words narrow b → InitIsCarried wide (layout_by table.words) narrow b
init_carried wide table narrow (body.Init s t v) stand named h = (
  all_ids (λ p. is_some (init_word narrow p) ≡ true) (table.words t) h.0,
  h.1 ∙ ap (λ (w : ℕ). Some w) (sym (pieces_make narrow (init_words narrow) (table.words t) (named_word wide table narrow t stand named.0).nodes)),
)
init_carried wide table narrow _ stand named h = tt

goes_same : (wide : List Item) (table : Table) (narrow : List Item) → GoesOn wide table narrow wide table narrow
goes_same wide table narrow = record { more = []; wide_is = sym (append-nil wide); lines = []; narrow_is = sym (append-nil narrow); sorts = λ id there. refl; words = λ id there. refl }

line_carried : (wide : List Item) (table : Table) (narrow : List Item) (x : Item) → IsWellFormed narrow → LineStands wide table narrow x → (is_leaf x ≡ true → AllByRecursion (λ p. is_free narrow p ≡ is_free wide x.id) (layout_by table.words x.id))
    → Carries wide (layout_by table.words) narrow x
line_carried wide table narrow x w stands free = by (is_state x.body) refl
  where
    either : (i : Bool) → (i || true) ≡ true
    either true = refl
    either false = refl

    by : (b : Bool) → is_state x.body ≡ b → Carries wide (layout_by table.words) narrow x
    by true is =
        carries_state wide narrow (layout_by table.words) x is
        (all_both (λ p. names_state narrow p ≡ true) (λ p. is_free narrow p ≡ is_free wide x.id) (layout_by table.words x.id) (all_ids (λ p. names_state narrow p ≡ true) (table.words x.id) (stands.state is))
        (free (ap (λ (b : Bool). is_input x.body || b) is ∙ either (is_input x.body))))
    by false is = stands.settled wide table narrow (goes_same wide table narrow) w is

-- an input's id names no state
input_named : (wide : List Item) (x : Item) → find_item wide x.id ≡ Some x → is_input x.body ≡ true → names_state wide x.id ≡ false
input_named wide x found is =
    ap (λ (o : Option Item). is_some (option_and_then (λ (y : Item). cond (is_state y.body) (Some y) None) o)) found ∙ ap (λ (b : Bool). is_some (cond b (Some x) None)) (input_is_no_state x.body is)

leaf_width : (wide : List Item) (table : Table) (narrow : List Item) (x : Item) → LineStands wide table narrow x → is_leaf x ≡ true → HasWidthOfPieces wide (layout_by table.words) narrow x.id
leaf_width wide table narrow x stands is = by x.body refl is stands.value
  where
    same : (s : ℕ) → node_sort x.body ≡ Some s → HasWord wide table.words narrow x.id s → bits_of wide x.id ≡ pieces_width (bits_of narrow) (layout_by table.words x.id)
    same s names value =
        ap (λ (o : Option Item). unwrap_or (option_and_then (λ (y : Item). width_of_body wide y.body) o) 0) stands.found ∙ ap (λ (o : Option ℕ). unwrap_or (option_and_then (sort_width wide) o) 0) names
        ∙ ap (λ (o : Option ℕ). unwrap_or o 0) value.width ∙ sym value.has_bits ∙ sym (pieces_bits narrow (table.words x.id) value.word.nodes)

    by : (b : Body) → x.body ≡ b → (is_input b || is_state b) ≡ true → IfSome (node_sort b) (HasWord wide table.words narrow x.id) → bits_of wide x.id ≡ pieces_width (bits_of narrow) (layout_by table.words x.id)
    by (body.Input s) e is value = same s (ap node_sort e) value
    by (body.State s) e is value = same s (ap node_sort e) value
    by _ e is value = absurd (cc)

-- the ids of a kind of leaves
pub among_leaves : (P : ℕ → Type 0) (kind : Item → Bool) (xs : List Item) → ((x : Item) → kind x ≡ true → is_leaf x ≡ true) → AllByRecursion P (leaf_ids xs) → AllByRecursion P (ids_of kind xs)
among_leaves P kind xs sub h = to_ids P kind xs (all_with (λ (x : Item). is_leaf x ≡ true → P x.id) (λ (x : Item). kind x ≡ true → P x.id) xs (λ x own is. own (sub x is)) (of_ids P is_leaf xs h))

pub given_leaf : (items : List Item) (x : Item) → is_given items x ≡ true → is_leaf x ≡ true
given_leaf items x is = by (is_input x.body) (is_state x.body) (is_free items x.id) is
  where
    by : (i s f : Bool) → (i || (s && f)) ≡ true → (i || s) ≡ true
    by true s f is = refl
    by false true f is = refl
    by false false f is = is

pub carried_leaf : (items : List Item) (x : Item) → is_carried_state items x ≡ true → is_leaf x ≡ true
carried_leaf items x is = by (is_input x.body) (is_state x.body) (is_free items x.id) is
  where
    by : (i s f : Bool) → (s && not f) ≡ true → (i || s) ≡ true
    by true s f is = refl
    by false true f is = refl
    by false false f is = is

pub fitting : (wide : List Item) (table : Table) (narrow : List Item) → IsFitted wide table narrow → IsWellFormed narrow → IsFittingOf wide (layout_by table.words) narrow
fitting wide table narrow h w =
    let layout = layout_by table.words in
    let free = all_with (λ id. Lacks init_value wide table.words narrow id × Lacks next_value wide table.words narrow id) (λ id. AllByRecursion (λ p. is_free narrow p ≡ is_free wide id) (layout id)) (leaf_ids wide)
    (λ id both. free_alike wide table narrow id h.stand both.0 both.1) (all_both (Lacks init_value wide table.words narrow) (Lacks next_value wide table.words narrow) (leaf_ids wide) h.no_inits h.no_nexts) in
    let wide_inputs = all_with (LineStands wide table narrow) (λ (x : Item). is_input x.body ≡ true → is_free wide x.id ≡ true) wide (λ x stands is. h.owned x.id (input_named wide x stands.found is)) h.stand in
    let narrow_inputs = all_with (λ (x : Item). is_input x.body ≡ true → names_state narrow x.id ≡ false) (λ (x : Item). is_input x.body ≡ true → is_free narrow x.id ≡ true) narrow
    (λ x none is. not_state_free narrow x.id w (none is)) (ids_named narrow (λ (x : Item). is_input x.body) false w (λ x is. input_is_no_state x.body is)) in
    let widths = to_ids (HasWidthOfPieces wide layout narrow) is_leaf wide (all_with (LineStands wide table narrow) (λ (x : Item). is_leaf x ≡ true → HasWidthOfPieces wide layout narrow x.id) wide (λ x stands is. leaf_width wide table narrow x stands is) h.stand) in
    record {
      ordered = h.ordered;
      well_formed = profile_is_wide narrow w;
      given = ap (flat_map layout) (given_by wide wide wide_inputs) ∙ pieces_filtered (is_free wide) (is_free narrow) layout (leaf_ids wide) free ∙ ap (filter (is_free narrow)) h.leaves ∙ sym (given_by narrow narrow narrow_inputs);
      carried = ap (flat_map layout) (carried_by wide wide wide_inputs)
          ∙ pieces_filtered (λ id. not (is_free wide id)) (λ id. not (is_free narrow id)) layout (leaf_ids wide)
          (all_with (λ id. AllByRecursion (λ p. is_free narrow p ≡ is_free wide id) (layout id)) (λ id. AllByRecursion (λ p. not (is_free narrow p) ≡ not (is_free wide id)) (layout id)) (leaf_ids wide)
          (λ id own. all_with (λ p. is_free narrow p ≡ is_free wide id) (λ p. not (is_free narrow p) ≡ not (is_free wide id)) (layout id) (λ p e. ap not e) own) free)
          ∙ ap (filter (λ id. not (is_free narrow id))) h.leaves ∙ sym (carried_by narrow narrow narrow_inputs);
      given_widths = among_leaves (HasWidthOfPieces wide layout narrow) (is_given wide) wide (given_leaf wide) widths;
      carried_widths = among_leaves (HasWidthOfPieces wide layout narrow) (is_carried_state wide) wide (carried_leaf wide) widths;
      lines = all_with (λ (x : Item). LineStands wide table narrow x × (is_leaf x ≡ true → AllByRecursion (λ p. is_free narrow p ≡ is_free wide x.id) (layout x.id))) (Carries wide layout narrow) wide
          (λ x both. line_carried wide table narrow x w both.0 both.1)
          (all_both (LineStands wide table narrow) (λ (x : Item). is_leaf x ≡ true → AllByRecursion (λ p. is_free narrow p ≡ is_free wide x.id) (layout x.id)) wide h.stand (of_ids (λ id. AllByRecursion (λ p. is_free narrow p ≡ is_free wide id) (layout id)) is_leaf wide free));
      inits = all_with (λ (x : Item). LineStands wide table narrow x × AreNamed wide (operands x.body)) (λ (x : Item). InitIsCarried wide layout narrow x.body) wide
          (λ x both. init_carried wide table narrow x.body h.stand both.1 both.0.init) (all_both (LineStands wide table narrow) (λ (x : Item). AreNamed wide (operands x.body)) wide h.stand (all_named wide h.ordered));
      no_other_inits = all_with (Lacks init_value wide table.words narrow) (AbsenceIsCarried wide layout narrow) (carried_ids wide) (λ id lacks none. all_ids (λ p. init_value narrow p ≡ None) (table.words id) (lacks none))
          (among_leaves (Lacks init_value wide table.words narrow) (is_carried_state wide) wide (carried_leaf wide) h.no_inits);
      nexts = all_with (Lacks next_value wide table.words narrow) (NextIsCarried wide layout narrow) (carried_ids wide) (λ id lacks. next_by_pieces wide narrow layout id (next_carried wide table narrow id h.stand lacks))
          (among_leaves (Lacks next_value wide table.words narrow) (is_carried_state wide) wide (carried_leaf wide) h.no_nexts);
      outputs = outputs_by_pieces wide narrow layout h.outputs;
      bads = h.bads;
      constraints = h.constraints;
    }

-- ---- names

zip_ids : (narrow : List Item) (ps : List Node) (names : List (Option (List ℕ))) → HaveNames narrow ps names → AllZip (IsNamed narrow) (node_ids ps) names
zip_ids narrow [] [] h = h
zip_ids narrow [] (n ∷ ns) h = absurd h
zip_ids narrow (p ∷ ps) [] h = absurd h
zip_ids narrow (p ∷ ps) (n ∷ ns) h = (h.0, zip_ids narrow ps ns h.1)

leaf_nodes : (wide : List Item) (table : Table) (narrow : List Item) (x : Item) → LineStands wide table narrow x → is_leaf x ≡ true → AreNodes narrow (table.words x.id)
leaf_nodes wide table narrow x stands is = by x.body is stands.value
  where
    by : (b : Body) → (is_input b || is_state b) ≡ true → IfSome (node_sort b) (HasWord wide table.words narrow x.id) → AreNodes narrow (table.words x.id)
    by (body.Input s) is value = value.word.nodes
    by (body.State s) is value = value.word.nodes
    by _ is value = absurd (cc)

pub has_names : (wide : List Item) (table : Table) (narrow : List Item) → IsFitted wide table narrow → HasNames wide (layout_by table.words) narrow
has_names wide table narrow h =
    record {
      leaves = all_with (LineStands wide table narrow) (LeafIsNamed (layout_by table.words) narrow) wide
          (λ x stands is.
          subst (λ (ws : List ℕ). AllZip (IsNamed narrow) (node_ids (table.words x.id)) (word_names x.symbol ws)) (sym (widths_known narrow (table.words x.id) (leaf_nodes wide table narrow x stands is)))
          (zip_ids narrow (table.words x.id) (word_names x.symbol (widths (table.words x.id))) (stands.names is))) h.stand;
      outputs = shown_alike (piece_widths (layout_by table.words) narrow) (λ a. widths (table.words a)) is_output wide
          (all_with (λ (y : Item). AreNamed wide (operands y.body)) (λ (y : Item). AllByRecursion (λ a. piece_widths (layout_by table.words) narrow a ≡ widths (table.words a)) (operands y.body)) wide
          (λ y there.
          all_with (λ a. is_some (node_width wide a) ≡ true) (λ a. piece_widths (layout_by table.words) narrow a ≡ widths (table.words a)) (operands y.body)
          (λ a own. widths_known narrow (table.words a) (named_word wide table narrow a h.stand own).nodes) there) (all_named wide h.ordered)) ∙ h.output_names;
      bads = h.bad_names;
      constraints = h.constraint_names;
    }
