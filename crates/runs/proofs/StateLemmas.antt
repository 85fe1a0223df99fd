-- The k-th item of a kind, and what a run begins with for the k-th state.
use Rattle.std.proofs.Common.{◌≡◌, ℕ, zero, suc, ◌+◌, ◌<◌, ◌≤◌, Bool, true, false, cond, List, [], ◌∷◌, ◌++◌, length, map, take, get_or, slice_get, Option, Some, None, option_and_then, unwrap_or, refl, sym, ap, ap₂, ◌∙◌, length-append, arith}
use Rattle.std.proofs.lemmas.List.{append-nil, map_more, map-append, take_more}
use Rattle.std.proofs.lemmas.Option.{slice_get_read}
use Rattle.std.proofs.lemmas.List.Elements.{filter-append}
use Rattle.std.proofs.Math.Seq.{take-append_seam}
use Rattle.btor2.specs.declared.item.Item.{Item}
use Rattle.btor2.specs.declared.item.Body.{Body}
use Rattle.btor2.specs.Items.{position_of, node_width, is_state, init_value, next_value}
use Rattle.btor2.specs.Check.{IsWellFormed}
use Rattle.btor2.specs.Lists.{places, id_at, init_place, next_place, constant_at, of_kind}
use Rattle.btor2.proofs.AppendLemmas.{then_parts, is_some_from}
use Rattle.btor2.proofs.ModelLemmas.{IsIn-from_place, IsAccepted-at, IsNextOf-from_value}
use Rattle.runs.specs.Frames.{has_value, ids_of}
use Rattle.runs.specs.declared.nodes.Node.{Node}
use Rattle.runs.specs.declared.nodes.Operator.{Operator}
use Rattle.runs.specs.Nodes.{slot, operator_of, with_node, run_nodes}
use Rattle.runs.specs.Run.{first_word}
use Rattle.runs.proofs.RankLemmas.{IsNth, nth, length-ids, rank-own}
use Rattle.runs.proofs.PlaceLemmas.{NodePlace, node_place, no_place}
use Rattle.btor2.proofs.LookUps.{init_some, init_none}

behind : (front : List Item) (x : Item) (xs : List Item) → slice_get (front ++ x ∷ xs) (length front) ≡ Some x
behind [] x xs = refl
behind (y ∷ ys) x xs = behind ys x xs

-- the k-th of a kind stands at the k-th of its places
pub nth-get : (test : Body → Bool) (items : List Item) (k : ℕ) (x : Item) → IsNth test items k x → slice_get items (get_or (places test 0 items) k 0) ≡ Some x
nth-get test items k x n =
    let place : get_or (places test 0 items) k 0 ≡ length n.before = n.place 0 ∙ omega arith in
    ap (slice_get items) place ∙ ap (λ (l : List Item). slice_get l (length n.before)) n.splits ∙ behind n.before x n.after

-- and has the k-th of the ids
pub id_at-place : (test : Body → Bool) (items : List Item) (k : ℕ) → k < length (ids_of test items) → id_at items (get_or (places test 0 items) k 0) ≡ Some (get_or (ids_of test items) k 0)
id_at-place test items k h =
    let there = nth test items k (omega (arith, length-ids test items)) in
    ap (option_and_then (λ (y : Item). Some y.id)) (nth-get test items k there.0 there.1) ∙ ap (λ (i : ℕ). Some i) (sym there.1.id)

-- The slots of all items.

-- the next item stands behind the nodes before it
pub slot-next : (items : List Item) (k : ℕ) (x : Item) → IsWellFormed items → slice_get items k ≡ Some x → slot items x.id ≡ length (of_kind has_value (take k items))
slot-next items k x w at =
    let there = IsIn-from_place items k x at in
    let front : take k items ≡ there.0.before = ap (take k) there.0.splits ∙ ap (λ (j : ℕ). take j (there.0.before ++ x ∷ there.0.after)) (sym there.1) ∙ take-append_seam there.0.before (x ∷ there.0.after) in
    ap (λ (l : List Item). slot l x.id) there.0.splits ∙ rank-own has_value there.0.before there.0.after x (IsAccepted-at items x w there.0).fresh ∙ ap (λ (l : List Item). length (of_kind has_value l)) (sym front)

-- the nodes with one item more: it, where it has a value, and else the same
more_nodes : (items : List Item) (k : ℕ) (x d : Item) → k < length items → x ≡ get_or items k d → of_kind has_value (take (k + 1) items) ≡ of_kind has_value (take k items) ++ of_kind has_value (x ∷ [])
more_nodes items k x d h e =
    ap (of_kind has_value) (take_more items k d h) ∙ filter-append (λ (y : Item). has_value y.body) (take k items) (get_or items k d ∷ []) ∙ ap (λ (y : Item). of_kind has_value (take k items) ++ of_kind has_value (y ∷ [])) (sym e)

pub node_more : (items : List Item) (k : ℕ) (x d : Item) → k < length items → x ≡ get_or items k d → has_value x.body ≡ true → of_kind has_value (take (k + 1) items) ≡ of_kind has_value (take k items) ++ x ∷ []
node_more items k x d h e has = more_nodes items k x d h e ∙ ap (λ (b : Bool). of_kind has_value (take k items) ++ cond b (x ∷ []) []) has

pub node_same : (items : List Item) (k : ℕ) (x d : Item) → k < length items → x ≡ get_or items k d → has_value x.body ≡ false → of_kind has_value (take (k + 1) items) ≡ of_kind has_value (take k items)
node_same items k x d h e has = more_nodes items k x d h e ∙ ap (λ (b : Bool). of_kind has_value (take k items) ++ cond b (x ∷ []) []) has ∙ append-nil (of_kind has_value (take k items))

-- how many they are
pub count_more : (items : List Item) (k count : ℕ) (x d : Item) → k < length items → x ≡ get_or items k d → has_value x.body ≡ true → count ≡ length (of_kind has_value (take k items))
    → count + 1 ≡ length (of_kind has_value (take (k + 1) items))
count_more items k count x d h e has many = omega (arith, ap length (node_more items k x d h e has), length-append (of_kind has_value (take k items)) (x ∷ []))

pub count_same : (items : List Item) (k count : ℕ) (x d : Item) → k < length items → x ≡ get_or items k d → has_value x.body ≡ false → count ≡ length (of_kind has_value (take k items))
    → count ≡ length (of_kind has_value (take (k + 1) items))
count_same items k count x d h e has many = many ∙ sym (ap length (node_same items k x d h e has))

-- what is made of them
pub made_more : {B : Type 0} (f : Item → B) (items : List Item) (front longer : List B) (k : ℕ) (x d : Item) (made : B) → k < length items → x ≡ get_or items k d → has_value x.body ≡ true → front ≡ map f (of_kind has_value (take k items)) → made ≡ f x
    → longer ≡ front ++ made ∷ [] → longer ≡ map f (of_kind has_value (take (k + 1) items))
made_more {B = B} f items front longer k x d made h e has so_far is more =
    more ∙ ap₂ (λ (l : List B) (m : B). l ++ m ∷ []) so_far is ∙ sym (ap (map f) (node_more items k x d h e has) ∙ map-append f (of_kind has_value (take k items)) (x ∷ []))

pub made_same : {B : Type 0} (f : Item → B) (items : List Item) (front : List B) (k : ℕ) (x d : Item) → k < length items → x ≡ get_or items k d → has_value x.body ≡ false → front ≡ map f (of_kind has_value (take k items))
    → front ≡ map f (of_kind has_value (take (k + 1) items))
made_same f items front k x d h e has so_far = so_far ∙ sym (ap (map f) (node_same items k x d h e has))

-- the nodes among them that are operators
nodes_of-append : (items before : List Item) (x : Item) → run_nodes items (before ++ x ∷ []) ≡ run_nodes items before ++ with_node (slot items x.id) (operator_of items x.body) []
nodes_of-append items [] x = refl
nodes_of-append items (y ∷ ys) x = by (operator_of items y.body) (nodes_of-append items ys x)
  where
    by : (o : Option Operator) → run_nodes items (ys ++ x ∷ []) ≡ run_nodes items ys ++ with_node (slot items x.id) (operator_of items x.body) []
        → with_node (slot items y.id) o (run_nodes items (ys ++ x ∷ [])) ≡ with_node (slot items y.id) o (run_nodes items ys) ++ with_node (slot items x.id) (operator_of items x.body) []
    by None e = e
    by (Some o) e = ap (λ (l : List Node). record { place = slot items y.id; operator = o } ∷ l) e

pub nodes_of-more : (items list : List Item) (k : ℕ) (x d : Item) → k < length list → x ≡ get_or list k d → run_nodes items (take (k + 1) list) ≡ run_nodes items (take k list) ++ with_node (slot items x.id) (operator_of items x.body) []
nodes_of-more items list k x d h e =
    ap (run_nodes items) (take_more list k d h) ∙ nodes_of-append items (take k list) (get_or list k d)
    ∙ ap (λ (y : Item). run_nodes items (take k list) ++ with_node (slot items y.id) (operator_of items y.body) []) (sym e)

-- the item that a loop over all items is at
pub item_at : (items list : List Item) (k : ℕ) (x : Item) → list ≡ items → k < length list → x ≡ get_or list k x → slice_get items k ≡ Some x
item_at items list k x same h e = ap (λ (l : List Item). slice_get l k) (sym same) ∙ slice_get_read list (length list) k x refl h e

pub count_below : (k : ℕ) (items : List Item) → length (of_kind has_value (take k items)) ≤ k
count_below zero items = omega arith
count_below (suc k) [] = omega arith
count_below (suc k) (x ∷ xs) = by (count_below k xs) (has_value x.body)
  where
    by : length (of_kind has_value (take k xs)) ≤ k → (b : Bool) → length (cond b (x ∷ of_kind has_value (take k xs)) (of_kind has_value (take k xs))) ≤ suc k
    by h true = omega arith
    by h false = omega arith

-- The next node of the k-th state.

next_at : (items : List Item) (k : ℕ) → k < length (ids_of is_state items)
    → next_place items (get_or (places is_state 0 items) k 0) ≡ option_and_then (position_of items) (next_value items (get_or (ids_of is_state items) k 0))
next_at items k h = ap (λ (o : Option ℕ). option_and_then (position_of items) (option_and_then (next_value items) o)) (id_at-place is_state items k h)

-- where it has a place
pub next_found : (items : List Item) (k place : ℕ) → IsWellFormed items → k < length (ids_of is_state items) → Some place ≡ next_place items (get_or (places is_state 0 items) k 0)
    → (value : ℕ) × (next_value items (get_or (ids_of is_state items) k 0) ≡ Some value) × NodePlace items value place
next_found items k place w h e =
    let id = get_or (ids_of is_state items) k 0 in
    let parts = then_parts (position_of items) (next_value items id) place (sym (next_at items k h) ∙ sym e) in
    let line = IsNextOf-from_value items id parts.0 w parts.1 in
    (parts.0, parts.1, node_place items parts.0 place (is_some_from (node_width items parts.0) line.width line.of_value) parts.2)

-- and where it has none
pub next_missing : (items : List Item) (k : ℕ) → IsWellFormed items → k < length (ids_of is_state items) → None ≡ next_place items (get_or (places is_state 0 items) k 0)
    → next_value items (get_or (ids_of is_state items) k 0) ≡ None
next_missing items k w h e = by (next_value items id) refl (sym (next_at items k h) ∙ sym e)
  where
    id : ℕ
    id = get_or (ids_of is_state items) k 0

    by : (o : Option ℕ) → next_value items id ≡ o → option_and_then (position_of items) o ≡ None → o ≡ None
    by None e none = refl
    by (Some v) e none =
        let line = IsNextOf-from_value items id v w e in
        absurd (no_place items v (is_some_from (node_width items v) line.width line.of_value) none)

-- The first word of the k-th state.

pub init_at : (items : List Item) (k : ℕ) → k < length (ids_of is_state items)
    → init_place items (get_or (places is_state 0 items) k 0) ≡ option_and_then (position_of items) (init_value items (get_or (ids_of is_state items) k 0))
init_at items k h = ap (λ (o : Option ℕ). option_and_then (position_of items) (option_and_then (init_value items) o)) (id_at-place is_state items k h)

-- where the init line's value has a place
pub init_inside : (items : List Item) (k place : ℕ) → k < length (ids_of is_state items) → Some place ≡ init_place items (get_or (places is_state 0 items) k 0) → place < length items
init_inside items k place h e = (init_some items (init_value items (get_or (ids_of is_state items) k 0)) place (sym (init_at items k h) ∙ sym e)).1

pub first_word-some : (items : List Item) (k place : ℕ) → k < length (ids_of is_state items) → Some place ≡ init_place items (get_or (places is_state 0 items) k 0)
    → unwrap_or (constant_at items place) 0 ≡ first_word items (get_or (ids_of is_state items) k 0)
first_word-some items k place h e =
    ap (λ (o : Option ℕ). unwrap_or o 0) (init_some items (init_value items (get_or (ids_of is_state items) k 0)) place (sym (init_at items k h) ∙ sym e)).0

pub first_word-none : (items : List Item) (k : ℕ) → k < length (ids_of is_state items) → None ≡ init_place items (get_or (places is_state 0 items) k 0)
    → 0 ≡ first_word items (get_or (ids_of is_state items) k 0)
first_word-none items k h e =
    sym (ap (λ (o : Option ℕ). unwrap_or o 0) (init_none items (init_value items (get_or (ids_of is_state items) k 0)) (sym (init_at items k h) ∙ sym e)))

-- One more of a list that is made of another.

pub map_push : {A B : Type 0} (f : A → B) (list : List A) (front longer : List B) (k : ℕ) (x d : A) (word : B) → k < length list → front ≡ map f (take k list) → x ≡ get_or list k d → word ≡ f x → longer ≡ front ++ word ∷ []
    → longer ≡ map f (take (k + 1) list)
map_push {B = B} f list front longer k x d word h m e w m' =
    m' ∙ ap₂ (λ (l : List B) (n : B). l ++ n ∷ []) m (w ∙ ap f e) ∙ sym (map_more f list k d h)
