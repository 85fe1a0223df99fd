-- Rows of nodes: that they are there, and what they read as.
use Rattle.std.proofs.Common.{◌≡◌, ℕ, zero, suc, ◌<◌, Bool, true, false, List, [], ◌∷◌, length, Option, Some, None, is_some, unwrap_or, option_and_then, MatchOption, slice_get, get_or, ◌&&◌, not, refl, sym, ap, subst, ◌∙◌, arith, if◌then◌else◌}
use Rattle.std.proofs.lemmas.Option.{slice_get_within, none-some}
use Rattle.std.proofs.lemmas.Bool.{and_parts, not-true}
use Rattle.btor2.specs.declared.item.Item.{Item}
use Rattle.btor2.specs.declared.leaves.Leaves.TheVariants as leaves
use Rattle.btor2.specs.Items.{find_item, position_of, width_of_body, node_width, is_state, init_value, next_value, is_free, is_free_state, is_carried_state, init_word}
use Rattle.btor2.specs.Check.{IsWellFormed}
use Rattle.btor2.specs.Lists.{places, init_place, next_place, is_free_at, has_init_without_next, first_init_without_next, constant_at}
use Rattle.btor2.proofs.LookUps.{found, init_some, init_none}
use Rattle.btor2.proofs.AppendLemmas.{then_parts, some_of}
use Rattle.btor2.proofs.ModelLemmas.{IsIn-from_find, IsNextOf-from_value, IsIn-from_place}
use Rattle.btor2.proofs.LeafLemmas.{leaf_at, state_there}
use Rattle.btor2.proofs.NextLemmas.{has_next}
use Rattle.aiger.specs.Net.{Net}
use Rattle.blast.specs.Reads.{ReadsWord, RowReads, RowsRead}
use Rattle.blast.specs.Rows.{row_at}

-- a found item has a place
place_of : (items : List Item) (id : ℕ) (x : Item) (o : Option ℕ) → MatchOption o (find_item items id ≡ None) (λ k. slice_get items k ≡ find_item items id) → find_item items id ≡ Some x
    → (k : ℕ) × (o ≡ Some k) × (slice_get items k ≡ Some x)
place_of items id x None h e = absurd (none-some x (sym h ∙ e))
place_of items id x (Some k) h e = (k, refl, h ∙ e)

-- a node's place
pub node_place : (items : List Item) (id n : ℕ) → node_width items id ≡ Some n
    → (k : ℕ) × (x : Item) × (position_of items id ≡ Some k) × (slice_get items k ≡ Some x) × (x.id ≡ id) × (width_of_body items x.body ≡ Some n)
node_place items id n h =
    let parts = then_parts (λ (x : Item). width_of_body items x.body) (find_item items id) n h in
    let there = place_of items id parts.0 (position_of items id) (found id items) parts.1 in
    let own = (IsIn-from_find items id parts.0 parts.1).1 in
    (there.0, parts.0, there.1, there.2, sym own, parts.2)

-- an entry of a list that is long enough
pub entry : {A : Type 0} (list : List A) (k : ℕ) → k < length list → (x : A) × (slice_get list k ≡ Some x)
entry [] k h = absurd (omega arith)
entry (x ∷ list) zero h = (x, refl)
entry (x ∷ list) (suc k) h = entry list k (omega arith)

reads_from : (items : List Item) (n : Net) (x : Item) (id width : ℕ) (row : List ℕ) → x.id ≡ id → width_of_body items x.body ≡ Some width → RowReads items n x row → ReadsWord items n id width row
reads_from items n x id width row e w h = subst (λ (i : ℕ). ReadsWord items n i width row) e (rw w at h)

-- the row of a node with a value reads as its word
pub row_at-reads : (items : List Item) (n : Net) (rows : List (List ℕ)) (id width : ℕ) → RowsRead items n rows → length rows ≡ length items → node_width items id ≡ Some width
    → ReadsWord items n id width (row_at items rows (Some id))
unfolding row_at
row_at-reads items n rows id width reads all h =
    let node = node_place items id width h in
    let k = node.0 in
    let x = node.1 in
    let within : k < length rows = omega (arith, slice_get_within items k x node.3) in
    let row = entry rows k within in
    let same : row_at items rows (Some id) ≡ row.0 =
    ap (λ (o : Option ℕ). unwrap_or (option_and_then (slice_get rows) o) []) node.2 ∙ ap (λ (o : Option (List ℕ)). unwrap_or o []) row.1 in
    subst (ReadsWord items n id width) (sym same) (reads_from items n x id width row.0 node.4 node.5 (reads k x row.0 node.3 row.1))

-- the row at the place that was found
pub row_at-found : (items : List Item) (rows : List (List ℕ)) (o : Option ℕ) (place : ℕ) (row : List ℕ) → Some place ≡ option_and_then (position_of items) o → slice_get rows place ≡ Some row
    → row ≡ row_at items rows o
unfolding row_at
row_at-found items rows o place row e at =
    sym (ap (λ (p : Option ℕ). unwrap_or (option_and_then (slice_get rows) p) []) (sym e) ∙ ap (λ (r : Option (List ℕ)). unwrap_or r []) at)

-- the state at a place: its lines' places
pub next_place-at : (items : List Item) (place : ℕ) (x : Item) → slice_get items place ≡ Some x → next_place items place ≡ option_and_then (position_of items) (next_value items x.id)
next_place-at items place x at = ap (λ (o : Option Item). option_and_then (position_of items) (option_and_then (next_value items) (option_and_then (λ (y : Item). Some y.id) o))) at

pub init_place-at : (items : List Item) (place : ℕ) (x : Item) → slice_get items place ≡ Some x → init_place items place ≡ option_and_then (position_of items) (init_value items x.id)
init_place-at items place x at = ap (λ (o : Option Item). option_and_then (position_of items) (option_and_then (init_value items) (option_and_then (λ (y : Item). Some y.id) o))) at

-- a next line's node has a place
pub next_there : (items : List Item) (id : ℕ) → IsWellFormed items → is_some (next_value items id) ≡ true
    → (place : ℕ) × (option_and_then (position_of items) (next_value items id) ≡ Some place) × (place < length items)
next_there items id h some =
    let next = some_of (next_value items id) some in
    let line = IsNextOf-from_value items id next.0 h next.1 in
    let node = node_place items next.0 line.width line.of_value in
    (node.0, ap (option_and_then (position_of items)) next.1 ∙ node.2, slice_get_within items node.0 node.1 node.3)

-- what an init line says, by its place
pub init_word-at : (items : List Item) (id place : ℕ) → Some place ≡ option_and_then (position_of items) (init_value items id) → constant_at items place ≡ init_word items id
init_word-at items id place e = (init_some items (init_value items id) place (sym e)).0

pub init_word-within : (items : List Item) (id place : ℕ) → Some place ≡ option_and_then (position_of items) (init_value items id) → place < length items
init_word-within items id place e = (init_some items (init_value items id) place (sym e)).1

pub init_word-none : (items : List Item) (id : ℕ) → None ≡ option_and_then (position_of items) (init_value items id) → None ≡ init_word items id
init_word-none items id e = sym (init_none items (init_value items id) (sym e))

-- whether the state with a number is free, and whether it is carried
pub state_by_number : (items : List Item) (k : ℕ) (x : Item) (b : Bool) → k < length (places is_state 0 items) → slice_get items (get_or (places is_state 0 items) k 0) ≡ Some x → b ≡ is_free_at items (get_or (places is_state 0 items) k 0)
    → (b ≡ is_free_state items x) × (not b ≡ is_carried_state items x)
state_by_number items k x b low at e =
    let place : ℕ = get_or (places is_state 0 items) k 0 in
    let there = state_there items k b low e in
    (there.0 ∙ leaf_at items leaves.Free place x at, there.1 ∙ leaf_at items leaves.Carried place x at)

-- what a state is that is carried
pub carried_parts : (items : List Item) (x : Item) → is_carried_state items x ≡ true → (is_state x.body ≡ true) × (is_free items x.id ≡ false)
carried_parts items x h =
    let parts = and_parts (is_state x.body) (not (is_free items x.id)) h in
    (parts.0, not-true (is_free items x.id) parts.1)

-- where no state has an init line alone, a state that is carried has a next line
pub head_next : (items : List Item) (y : Item) (ys : List Item) → first_init_without_next items (y ∷ ys) ≡ None → is_carried_state items y ≡ true → is_some (next_value items y.id) ≡ true
head_next items y ys h carried =
    let parts = carried_parts items y carried in
    has_next items [] ys y h parts.0 parts.1

later_next : (items ys : List Item) (id : ℕ) (b : Bool) → (if b then Some id else first_init_without_next items ys) ≡ None → first_init_without_next items ys ≡ None
later_next items ys id true h = absurd (none-some id (sym h))
later_next items ys id false h = h

pub tail_next : (items : List Item) (y : Item) (ys : List Item) → first_init_without_next items (y ∷ ys) ≡ None → first_init_without_next items ys ≡ None
tail_next items y ys h = later_next items ys y.id (is_state y.body && has_init_without_next items y.id) h

pub next-given : (items xs : List Item) (k : ℕ) (x : Item) → first_init_without_next items xs ≡ None → slice_get xs k ≡ Some x → is_carried_state items x ≡ true → is_some (next_value items x.id) ≡ true
next-given items xs k x h at carried =
    let there = (IsIn-from_place xs k x at).0 in
    let parts = carried_parts items x carried in
    has_next items there.before there.after x (subst (λ (l : List Item). first_init_without_next items l ≡ None) there.splits h) parts.0 parts.1
