-- The leaves of a fitted list, kind by kind: their pieces are those of the other list, in file order, and have 64 bits each, but for the last.
use Rattle.std.proofs.Common.{◌≡◌, ℕ, Bool, true, false, cond, not, ◌||◌, List, [], ◌∷◌, map, filter, flat_map, Option, Some, None, IfSome, is_some, option_and_then, refl, sym, ap, subst, ◌∙◌}
use Rattle.std.specs.List.{AllByRecursion}
use Rattle.btor2.specs.declared.item.Item.{Item}
use Rattle.btor2.specs.declared.item.Body.{Body}
use Rattle.btor2.specs.declared.item.Body.TheVariants as body
use Rattle.btor2.specs.Items.{find_item, node_sort, names_state, is_input, is_state, is_carried_state, next_value}
use Rattle.btor2.specs.Check.{IsWellFormed}
use Rattle.btor2.proofs.IdLemmas.{ids_named, input_is_no_state}
use Rattle.fit.specs.Fitting.{carried_ids, NextIsByPieces, IsInputPiece}
use Rattle.fit.proofs.ListLemmas.{all_with, all_both, to_ids}
use Rattle.pieces.specs.declared.node.Node.{Node}
use Rattle.pieces.specs.Cuts.{IsCut, IsWord}
use Rattle.fitting.specs.Models.{input_ids, state_ids, IsCutBy, IsFit}
use Rattle.fitting.specs.Fitted.{Table, layout_by, HasWord, Lacks, LineStands, is_leaf, leaf_ids, IsFitted}
use Rattle.fitting.proofs.NameLemmas.{widths_known}
use Rattle.fitting.proofs.AssemblyLemmas.{all_ids, pieces_filtered, among_leaves, carried_leaf, next_carried, fitting, has_names}

-- ---- the ids of a kind of leaves

-- of the leaves that are there, the states are those that are named as states, and the inputs the others
pub states_by : (items xs : List Item) → AllByRecursion (λ (x : Item). is_leaf x ≡ true → names_state items x.id ≡ is_state x.body) xs → state_ids xs ≡ filter (names_state items) (leaf_ids xs)
states_by items [] h = refl
states_by items (x ∷ xs) h = by (is_input x.body) (is_state x.body) (input_is_no_state x.body) h.0 (states_by items xs h.1)
  where
    by : (i s : Bool) → (i ≡ true → s ≡ false) → ((i || s) ≡ true → names_state items x.id ≡ s) → state_ids xs ≡ filter (names_state items) (leaf_ids xs)
        → map (λ (y : Item). y.id) (cond s (x ∷ filter (λ (y : Item). is_state y.body) xs) (filter (λ (y : Item). is_state y.body) xs))
        ≡ filter (names_state items) (map (λ (y : Item). y.id) (cond (i || s) (x ∷ filter is_leaf xs) (filter is_leaf xs)))
    by true true none own rest = absurd (let no = none refl in cc)
    by true false none own rest = rw (own refl) rest
    by false true none own rest = rw (own refl) (ap (λ (l : List ℕ). x.id ∷ l) rest)
    by false false none own rest = rest

pub inputs_by : (items xs : List Item) → AllByRecursion (λ (x : Item). is_leaf x ≡ true → names_state items x.id ≡ is_state x.body) xs → input_ids xs ≡ filter (λ id. not (names_state items id)) (leaf_ids xs)
inputs_by items [] h = refl
inputs_by items (x ∷ xs) h = by (is_input x.body) (is_state x.body) (input_is_no_state x.body) h.0 (inputs_by items xs h.1)
  where
    by : (i s : Bool) → (i ≡ true → s ≡ false) → ((i || s) ≡ true → names_state items x.id ≡ s) → input_ids xs ≡ filter (λ id. not (names_state items id)) (leaf_ids xs)
        → map (λ (y : Item). y.id) (cond i (x ∷ filter (λ (y : Item). is_input y.body) xs) (filter (λ (y : Item). is_input y.body) xs))
        ≡ filter (λ id. not (names_state items id)) (map (λ (y : Item). y.id) (cond (i || s) (x ∷ filter is_leaf xs) (filter is_leaf xs)))
    by true true none own rest = absurd (let no = none refl in cc)
    by true false none own rest = rw (own refl) (ap (λ (l : List ℕ). x.id ∷ l) rest)
    by false true none own rest = rw (own refl) rest
    by false false none own rest = rest

-- ---- which ids name states

named_by : (items : List Item) (x : Item) → find_item items x.id ≡ Some x → names_state items x.id ≡ is_state x.body
named_by items x found = ap (λ (o : Option Item). is_some (option_and_then (λ (y : Item). cond (is_state y.body) (Some y) None) o)) found ∙ by (is_state x.body)
  where
    by : (b : Bool) → is_some (cond b (Some x) None) ≡ b
    by true = refl
    by false = refl

input_piece : (items : List Item) (p : ℕ) → IsInputPiece items p → names_state items p ≡ false
input_piece items p h =
    ap (λ (o : Option Item). is_some (option_and_then (λ (y : Item). cond (is_state y.body) (Some y) None) o)) h.1 ∙ ap (λ (b : Bool). is_some (cond b (Some h.0) None)) (input_is_no_state h.0.body h.2)

-- the pieces of a leaf name states where the leaf is one
pieces_named : (wide : List Item) (table : Table) (narrow : List Item) (x : Item) → LineStands wide table narrow x → is_leaf x ≡ true → AllByRecursion (λ p. names_state narrow p ≡ names_state wide x.id) (layout_by table.words x.id)
pieces_named wide table narrow x stands leaf =
    subst (λ (b : Bool). AllByRecursion (λ p. names_state narrow p ≡ b) (layout_by table.words x.id)) (sym (named_by wide x stands.found)) (by (is_input x.body) (is_state x.body) refl refl leaf)
  where
    by : (i s : Bool) → is_input x.body ≡ i → is_state x.body ≡ s → (i || s) ≡ true → AllByRecursion (λ p. names_state narrow p ≡ s) (layout_by table.words x.id)
    by i true in_i in_s is = all_ids (λ p. names_state narrow p ≡ true) (table.words x.id) (stands.state in_s)
    by true false in_i in_s is =
        all_ids (λ p. names_state narrow p ≡ false) (table.words x.id)
        (all_with (λ (p : Node). IsInputPiece narrow p.id) (λ (p : Node). names_state narrow p.id ≡ false) (table.words x.id) (λ p own. input_piece narrow p.id own) (stands.input in_i))
    by false false in_i in_s is = absurd (cc)

-- ---- the parts

cut_of : (wide : List Item) (table : Table) (narrow : List Item) (x : Item) → LineStands wide table narrow x → is_leaf x ≡ true → IsCutBy (layout_by table.words) narrow x.id
cut_of wide table narrow x stands leaf = by x.body leaf stands.value
  where
    cut : IsWord narrow (table.words x.id) → IsCutBy (layout_by table.words) narrow x.id
    cut word = subst (IsCut 64) (sym (widths_known narrow (table.words x.id) word.nodes)) word.cut

    by : (b : Body) → (is_input b || is_state b) ≡ true → IfSome (node_sort b) (HasWord wide table.words narrow x.id) → IsCutBy (layout_by table.words) narrow x.id
    by (body.Input s) is value = cut value.word
    by (body.State s) is value = cut value.word
    by _ is value = absurd (cc)

input_leaf : (x : Item) → is_input x.body ≡ true → is_leaf x ≡ true
input_leaf x is = ap (λ (b : Bool). b || is_state x.body) is

state_leaf : (x : Item) → is_state x.body ≡ true → is_leaf x ≡ true
state_leaf x is = ap (λ (b : Bool). is_input x.body || b) is ∙ by (is_input x.body)
  where
    by : (b : Bool) → (b || true) ≡ true
    by true = refl
    by false = refl

-- a list all of whose lines stand is fitted, with the names of its pieces
pub is_fit : (wide : List Item) (table : Table) (narrow : List Item) → IsFitted wide table narrow → IsWellFormed narrow → (fit : IsFit wide narrow) × (fit.layout ≡ layout_by table.words)
is_fit wide table narrow h w =
    let layout = layout_by table.words in
    let of_leaves = λ (P : ℕ → Type 0) (own : (x : Item) → LineStands wide table narrow x → is_leaf x ≡ true → P x.id).
    to_ids P is_leaf wide (all_with (LineStands wide table narrow) (λ (x : Item). is_leaf x ≡ true → P x.id) wide own h.stand) in
    let alike = of_leaves (λ id. AllByRecursion (λ p. names_state narrow p ≡ names_state wide id) (layout id)) (pieces_named wide table narrow) in
    let cuts = of_leaves (IsCutBy layout narrow) (cut_of wide table narrow) in
    let wide_named = all_with (LineStands wide table narrow) (λ (x : Item). is_leaf x ≡ true → names_state wide x.id ≡ is_state x.body) wide (λ x stands is. named_by wide x stands.found) h.stand in
    let narrow_named =
    all_with (λ (x : Item). (is_input x.body ≡ true → names_state narrow x.id ≡ false) × (is_state x.body ≡ true → names_state narrow x.id ≡ true)) (λ (x : Item). is_leaf x ≡ true → names_state narrow x.id ≡ is_state x.body) narrow
    (λ x both is. own narrow x (is_input x.body) (is_state x.body) refl refl both.0 both.1 is)
    (all_both (λ (x : Item). is_input x.body ≡ true → names_state narrow x.id ≡ false) (λ (x : Item). is_state x.body ≡ true → names_state narrow x.id ≡ true) narrow
    (ids_named narrow (λ (x : Item). is_input x.body) false w (λ x is. input_is_no_state x.body is)) (ids_named narrow (λ (x : Item). is_state x.body) true w (λ x is. is))) in (
      record {
        layout = layout;
        fits = fitting wide table narrow h w;
        well_formed = w;
        names = has_names wide table narrow h;
        found = all_with (LineStands wide table narrow) (λ (x : Item). find_item wide x.id ≡ Some x) wide (λ x stands. stands.found) h.stand;
        inputs = ap (flat_map layout) (inputs_by wide wide wide_named)
            ∙ pieces_filtered (λ id. not (names_state wide id)) (λ id. not (names_state narrow id)) layout (leaf_ids wide)
            (all_with (λ id. AllByRecursion (λ p. names_state narrow p ≡ names_state wide id) (layout id)) (λ id. AllByRecursion (λ p. not (names_state narrow p) ≡ not (names_state wide id)) (layout id)) (leaf_ids wide)
            (λ id own. all_with (λ p. names_state narrow p ≡ names_state wide id) (λ p. not (names_state narrow p) ≡ not (names_state wide id)) (layout id) (λ p e. ap not e) own) alike)
            ∙ ap (filter (λ id. not (names_state narrow id))) h.leaves ∙ sym (inputs_by narrow narrow narrow_named);
        states = ap (flat_map layout) (states_by wide wide wide_named) ∙ pieces_filtered (names_state wide) (names_state narrow) layout (leaf_ids wide) alike
            ∙ ap (filter (names_state narrow)) h.leaves ∙ sym (states_by narrow narrow narrow_named);
        nexts = all_with (Lacks next_value wide table.words narrow) (NextIsByPieces wide layout narrow) (carried_ids wide) (λ id lacks. next_carried wide table narrow id h.stand lacks)
            (among_leaves (Lacks next_value wide table.words narrow) (is_carried_state wide) wide (carried_leaf wide) h.no_nexts);
        outputs = h.outputs;
        input_cuts = among_leaves (IsCutBy layout narrow) (λ x. is_input x.body) wide input_leaf cuts;
        state_cuts = among_leaves (IsCutBy layout narrow) (λ x. is_state x.body) wide state_leaf cuts;
      },
      refl,
    )
  where
    own : (items : List Item) (x : Item) (i s : Bool) → is_input x.body ≡ i → is_state x.body ≡ s → (is_input x.body ≡ true → names_state items x.id ≡ false) → (is_state x.body ≡ true → names_state items x.id ≡ true) → is_leaf x ≡ true
        → names_state items x.id ≡ is_state x.body
    own items x i true in_i in_s h k is = k in_s ∙ sym in_s
    own items x true false in_i in_s h k is = h in_i ∙ sym in_s
    own items x false false in_i in_s h k is = absurd (let no : is_leaf x ≡ false = ap (λ (b : Bool). b || is_state x.body) in_i ∙ in_s in cc)
