-- The leaves of a model by their places: which item stands at a place, whether it is one, and how many bits they have.
use Rattle.std.proofs.Common.{◌≡◌, ℕ, zero, suc, ◌+◌, ◌^◌, ◌<◌, ◌≤◌, ◌&&◌, not, Bool, true, false, cond, List, [], ◌∷◌, ◌++◌, length, get_or, take, Option, Some, None, option_and_then, option_map, unwrap_or, slice_get, sum_by, refl, sym, ap, ap₂, subst, ◌∙◌, append_assoc, length-append, arith}
use Rattle.std.proofs.lemmas.Bool.{and_parts}
use Rattle.std.proofs.lemmas.Option.{slice_get_within, same_Some}
use Rattle.std.proofs.lemmas.List.{take_all}
use Rattle.std.proofs.lemmas.List.Sums.{sum_by-le, sum_by-cons, sum_by_more, sum_by_more_le}
use Rattle.btor2.specs.declared.item.Item.{Item}
use Rattle.btor2.specs.declared.item.Body.{Body}
use Rattle.btor2.specs.declared.leaves.Leaves.{Leaves}
use Rattle.btor2.specs.declared.leaves.Leaves.TheVariants as leaves
use Rattle.btor2.specs.Items.{width_of_body, node_width, is_input, is_state, is_free}
use Rattle.btor2.specs.Lists.{places, width_at, is_free_at}
use Rattle.btor2.specs.Check.{IsWellFormed}
use Rattle.btor2.specs.Trace.{bits_of}
use Rattle.btor2.specs.Leaves.{list_of, kind_of, is_leaf_at, leaf_width, kind_width}
use Rattle.btor2.proofs.ModelLemmas.{node_width-at, node_width-range, few_items}

-- ---- places

-- the item behind some others
pub item_behind : (before xs : List Item) (x : Item) (n : ℕ) → length before ≡ n → slice_get (before ++ x ∷ xs) n ≡ Some x
item_behind [] xs x zero e = refl
item_behind [] xs x (suc n) e = absurd (omega arith)
item_behind (y ∷ ys) xs x zero e = absurd (omega arith)
item_behind (y ∷ ys) xs x (suc n) e = item_behind ys xs x n (omega arith)

-- the item at a place of those of a kind is one of them
pub record IsPlaced (items : List Item) (kind : Body → Bool) (place : ℕ) : Type 0 where
  pub item : Item
  pub at : slice_get items place ≡ Some item
  pub own : kind item.body ≡ true

placed_from : (kind : Body → Bool) (items before xs : List Item) (n k : ℕ) → items ≡ before ++ xs → length before ≡ n → k < length (places kind n xs) → IsPlaced items kind (get_or (places kind n xs) k 0)
placed_from kind items before [] n k is e low = absurd (omega arith)
placed_from kind items before (x ∷ xs) n k is e low =
    by (kind x.body) refl k
    (λ j. placed_from kind items (before ++ x ∷ []) xs (suc n) j (is ∙ sym (append_assoc before (x ∷ []) xs)) (omega (arith, e, length-append before (x ∷ [])))) low
  where
    by : (b : Bool) → kind x.body ≡ b → (k : ℕ) → ((j : ℕ) → j < length (places kind (suc n) xs) → IsPlaced items kind (get_or (places kind (suc n) xs) j 0))
        → k < length (cond b (n ∷ places kind (suc n) xs) (places kind (suc n) xs)) → IsPlaced items kind (get_or (cond b (n ∷ places kind (suc n) xs) (places kind (suc n) xs)) k 0)
    by true own zero rest low = record { item = x; at = ap (λ (l : List Item). slice_get l n) is ∙ item_behind before xs x n e; own = own }
    by true own (suc k) rest low = rest k (omega arith)
    by false own k rest low = rest k low

pub placed_at : (kind : Body → Bool) (items : List Item) (ps : List ℕ) (k : ℕ) → ps ≡ places kind 0 items → k < length ps → IsPlaced items kind (get_or ps k 0)
placed_at kind items ps k e low =
    subst (λ (l : List ℕ). k < length l → IsPlaced items kind (get_or l k 0)) (sym e) (placed_from kind items [] items 0 k refl refl) low

pub place_within : (kind : Body → Bool) (items : List Item) (ps : List ℕ) (k : ℕ) → ps ≡ places kind 0 items → k < length ps → get_or ps k 0 < length items
place_within kind items ps k e low = let p = placed_at kind items ps k e low in slice_get_within items (get_or ps k 0) p.item p.at

pub place_kind : (kind : Body → Bool) (items : List Item) (ps : List ℕ) (k : ℕ) (x : Item) → ps ≡ places kind 0 items → k < length ps → slice_get items (get_or ps k 0) ≡ Some x → kind x.body ≡ true
place_kind kind items ps k x e low at =
    let p = placed_at kind items ps k e low in
    ap (λ (y : Item). kind y.body) (same_Some x p.item (sym at ∙ p.at)) ∙ p.own

-- whether the state at a place is free, and how many bits the node there has
pub free_at : (items : List Item) (place : ℕ) (x : Item) → slice_get items place ≡ Some x → is_free_at items place ≡ is_free items x.id
free_at items place x at = ap (λ (o : Option Item). unwrap_or (option_map (is_free items) (option_and_then (λ (y : Item). Some y.id) o)) false) at

pub bits_of-at : (items : List Item) (place : ℕ) (x : Item) → IsWellFormed items → slice_get items place ≡ Some x → unwrap_or (width_at items place) 0 ≡ bits_of items x.id
bits_of-at items place x w at =
    ap (λ (o : Option ℕ). unwrap_or o 0) (ap (option_and_then (λ (y : Item). width_of_body items y.body)) at ∙ sym (node_width-at items place x w at))

-- a node has at most 64 bits
pub bits_of-most : (items : List Item) (id : ℕ) → IsWellFormed items → bits_of items id ≤ 64
bits_of-most items id w = by (node_width items id) refl
  where
    by : (o : Option ℕ) → node_width items id ≡ o → unwrap_or o 0 ≤ 64
    by None e = omega arith
    by (Some n) e = (node_width-range items id n w e).1

-- ---- leaves

pub leaf_at : (items : List Item) (l : Leaves) (place : ℕ) (x : Item) → slice_get items place ≡ Some x → is_leaf_at items l place ≡ kind_of items l x
leaf_at items l place x at = ap (λ (o : Option Item). unwrap_or (option_map (kind_of items l) o) false) at

pub leaf_width-at : (items : List Item) (l : Leaves) (place : ℕ) (x : Item) → IsWellFormed items → slice_get items place ≡ Some x → leaf_width items l place ≡ cond (kind_of items l x) (bits_of items x.id) 0
leaf_width-at items l place x w at = ap₂ (λ (b : Bool) (n : ℕ). cond b n 0) (leaf_at items l place x at) (bits_of-at items place x w at)

-- they are in their list
pub leaf_in_list : (items : List Item) (l : Leaves) (x : Item) → kind_of items l x ≡ true → list_of l x.body ≡ true
leaf_in_list items leaves.Inputs x h = h
leaf_in_list items leaves.Free x h = (and_parts (is_state x.body) (is_free items x.id) h).0
leaf_in_list items leaves.Carried x h = (and_parts (is_state x.body) (not (is_free items x.id)) h).0

pub input_there : (items : List Item) (k : ℕ) → k < length (places is_input 0 items) → true ≡ is_leaf_at items leaves.Inputs (get_or (places is_input 0 items) k 0)
input_there items k low =
    let p = placed_at is_input items (places is_input 0 items) k refl low in
    sym (leaf_at items leaves.Inputs (get_or (places is_input 0 items) k 0) p.item p.at ∙ p.own)

-- a state is free, or it is carried
pub state_there : (items : List Item) (k : ℕ) (b : Bool) → k < length (places is_state 0 items) → b ≡ is_free_at items (get_or (places is_state 0 items) k 0)
    → (b ≡ is_leaf_at items leaves.Free (get_or (places is_state 0 items) k 0)) × (not b ≡ is_leaf_at items leaves.Carried (get_or (places is_state 0 items) k 0))
state_there items k b low e =
    let place : ℕ = get_or (places is_state 0 items) k 0 in
    let p = placed_at is_state items (places is_state 0 items) k refl low in
    let free : b ≡ is_free items p.item.id = e ∙ free_at items place p.item p.at in (
      free ∙ ap (λ (s : Bool). s && is_free items p.item.id) (sym p.own) ∙ sym (leaf_at items leaves.Free place p.item p.at),
      ap not free ∙ ap (λ (s : Bool). s && not (is_free items p.item.id)) (sym p.own) ∙ sym (leaf_at items leaves.Carried place p.item p.at),
    )

-- ---- how many bits they have

widths_from : (items before xs : List Item) (l : Leaves) (n : ℕ) → items ≡ before ++ xs → length before ≡ n → IsWellFormed items → sum_by (leaf_width items l) (places (list_of l) n xs) ≡ kind_width items (kind_of items l) xs
widths_from items before [] l n is e w = refl
widths_from items before (x ∷ xs) l n is e w =
    by (list_of l x.body) (kind_of items l x) (leaf_in_list items l x) (leaf_width-at items l n x w (ap (λ (l : List Item). slice_get l n) is ∙ item_behind before xs x n e))
    (widths_from items (before ++ x ∷ []) xs l (suc n) (is ∙ sym (append_assoc before (x ∷ []) xs)) (omega (arith, e, length-append before (x ∷ []))) w)
    ∙ sym (sum_by-cons (λ (y : Item). cond (kind_of items l y) (bits_of items y.id) 0) x xs)
  where
    by : (b k : Bool) → (k ≡ true → b ≡ true) → leaf_width items l n ≡ cond k (bits_of items x.id) 0 → sum_by (leaf_width items l) (places (list_of l) (suc n) xs) ≡ kind_width items (kind_of items l) xs
        → sum_by (leaf_width items l) (cond b (n ∷ places (list_of l) (suc n) xs) (places (list_of l) (suc n) xs)) ≡ cond k (bits_of items x.id) 0 + kind_width items (kind_of items l) xs
    by true k within own rest = sum_by-cons (leaf_width items l) n (places (list_of l) (suc n) xs) ∙ ap₂ ◌+◌ own rest
    by false true within own rest = let e : false ≡ true = within refl in absurd (cc)
    by false false within own rest = rest ∙ omega arith

-- the bits at their places are those of the leaves
pub leaves_width : (items : List Item) (l : Leaves) → IsWellFormed items → sum_by (leaf_width items l) (places (list_of l) 0 items) ≡ kind_width items (kind_of items l) items
leaves_width items l w = widths_from items [] items l 0 refl refl w

few_bits : (b : Bool) (n : ℕ) → n ≤ 64 → cond b n 0 ≤ 64
few_bits true n h = h
few_bits false n h = omega arith

-- the items of a model have few bits together
pub kind_width-small : (items : List Item) (kind : Item → Bool) → IsWellFormed items → kind_width items kind items < 2 ^ 39
kind_width-small items kind w =
    omega (arith, few_items items w, sum_by-le (λ (x : Item). cond (kind x) (bits_of items x.id) 0) 64 items (λ k d below. few_bits (kind (get_or items k d)) (bits_of items (get_or items k d).id) (bits_of-most items (get_or items k d).id w)))

-- the bits so far, with those at the next place
pub width_step : (items : List Item) (l : Leaves) (k total width : ℕ) → IsWellFormed items → k < length (places (list_of l) 0 items) → total ≡ sum_by (leaf_width items l) (take k (places (list_of l) 0 items))
    → width ≡ leaf_width items l (get_or (places (list_of l) 0 items) k 0) → (total + width ≡ sum_by (leaf_width items l) (take (k + 1) (places (list_of l) 0 items))) × (total + width < 2 ^ 39)
width_step items l k total width w low so_far own =
    let ps : List ℕ = places (list_of l) 0 items in (
      omega (arith, so_far, own, sum_by_more (leaf_width items l) ps k 0 low),
      omega (arith, so_far, own, sum_by_more_le (leaf_width items l) ps k 0 low, leaves_width items l w, kind_width-small items (kind_of items l) w),
    )

pub width_whole : (items : List Item) (l : Leaves) (k total : ℕ) → IsWellFormed items → length (places (list_of l) 0 items) ≤ k → total ≡ sum_by (leaf_width items l) (take k (places (list_of l) 0 items)) → total ≡ kind_width items (kind_of items l) items
width_whole items l k total w end so_far = so_far ∙ ap (sum_by (leaf_width items l)) (take_all k (places (list_of l) 0 items) end) ∙ leaves_width items l w
