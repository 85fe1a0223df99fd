-- Where an item is found by its id.
use Rattle.std.proofs.Common.{◌≡◌, ℕ, suc, ◌+◌, ◌-◌, ◌%◌, ◌^◌, ◌<◌, ◌≤◌, Bool, true, false, cond, nat_eq, eqb-true, List, [], ◌∷◌, Option, Some, None, MatchOption, length, slice_get, option_and_then, refl, sym, ap, subst, ◌∙◌, arith, zero}
use Rattle.std.specs.List.{position_from}
use Rattle.std.specs.Option.{option_map_or}
use Rattle.std.proofs.lemmas.Option.{none-some, same_Some}
use Rattle.btor2.specs.declared.item.Item.{Item}
use Rattle.btor2.specs.Items.{find_item, position_of, constant_of_body, constant_of}
use Rattle.btor2.specs.Check.{IsWellFormed}
use Rattle.btor2.specs.Index.{is_in_place}
use Rattle.btor2.specs.Lists.{constant_at}
use Rattle.btor2.proofs.ModelLemmas.{few_items, IsIn-from_find, position_of-at}

-- an answer among the items behind one
place_behind : (x : Item) (xs : List Item) (id n : ℕ) (o : Option ℕ) → MatchOption o (find_item xs id ≡ None) (λ k. (n + 1 ≤ k) × (slice_get xs (k - (n + 1)) ≡ find_item xs id)) → MatchOption o (find_item xs id ≡ None) (λ k. (n ≤ k) × (slice_get (x ∷ xs) (k - n) ≡ find_item xs id))
place_behind x xs id n None h = h
place_behind x xs id n (Some k) h =
    let e : k - n ≡ suc (k - (n + 1)) = omega arith in
    (omega arith, rw e h.1)

-- the item at the place of an id is the one that it finds
pub found_from : (id n : ℕ) (items : List Item) → MatchOption (position_from (λ (x : Item). nat_eq id x.id) n items) (find_item items id ≡ None) (λ k. (n ≤ k) × (slice_get items (k - n) ≡ find_item items id))
found_from id n [] = refl
found_from id n (x ∷ xs) =
    let first : n - n ≡ zero = omega arith in
    elim (nat_eq id x.id) as (λ b. MatchOption (cond b (Some n) (position_from (λ (y : Item). nat_eq id y.id) (n + 1) xs)) (cond b (Some x) (find_item xs id) ≡ None) (λ k. (n ≤ k) × (slice_get (x ∷ xs) (k - n) ≡ cond b (Some x) (find_item xs id)))) [
      | true ↦ (omega arith, rw first refl)
      | false ↦ place_behind x xs id n _ (found_from id (n + 1) xs)
    ]

at_zero : (items : List Item) (f : Option Item) (o : Option ℕ) → MatchOption o (f ≡ None) (λ k. (0 ≤ k) × (slice_get items (k - 0) ≡ f)) → MatchOption o (f ≡ None) (λ k. slice_get items k ≡ f)
at_zero items f None h = h
at_zero items f (Some k) h = let e : k - 0 ≡ k = omega arith in rw e at h.1

pub found : (id : ℕ) (items : List Item) → MatchOption (position_of items id) (find_item items id ≡ None) (λ k. slice_get items k ≡ find_item items id)
found id items = at_zero items (find_item items id) (position_of items id) (found_from id 0 items)

-- the item at the position of an id is the one that it finds
pub item_at : (items : List Item) (id k : ℕ) → Some k ≡ position_of items id → slice_get items k ≡ find_item items id
item_at items id k at = rw (← at) at (found id items)

-- there is none where the id has no position
pub no_item : (items : List Item) (id : ℕ) → position_of items id ≡ None → find_item items id ≡ None
no_item items id at = rw at at (found id items)

in_place_at : (items : List Item) (id : ℕ) (o : Option Item) → IsWellFormed items → slice_get items (id - 1) ≡ o → option_map_or (λ (x : Item). nat_eq id x.id) o false ≡ true → position_of items id ≡ Some (id - 1)
in_place_at items id None h at test = absurd (cc)
in_place_at items id (Some x) h at test = ap (position_of items) (eqb-true id x.id test) ∙ position_of-at items (id - 1) x h at

-- an item in place is the one with its id
pub position-in_place : (items : List Item) (id : ℕ) → IsWellFormed items → is_in_place items id ≡ true → position_of items id ≡ Some (id - 1)
position-in_place items id h test = in_place_at items id (slice_get items (id - 1)) h refl test

-- the item at a place that an id has is the one that it finds
pub position_found : (items : List Item) (id place : ℕ) → position_of items id ≡ Some place → slice_get items place ≡ find_item items id
position_found items id place e = item_at items id place (sym e)

-- the place of an item is within the list
pub position_below : (test : Item → Bool) (n : ℕ) (items : List Item) (k : ℕ) → position_from test n items ≡ Some k → k < n + length items
position_below test n [] k h = absurd (none-some k h)
position_below test n (x ∷ xs) k h =
    elim (test x) as (λ b. cond b (Some n) (position_from test (n + 1) xs) ≡ Some k → k < n + suc (length xs)) [
      | true ↦ λ e. omega (arith, same_Some n k e)
      | false ↦ λ e. omega (arith, position_below test (n + 1) xs k e)
    ] h

pub place_below : (items : List Item) (id place : ℕ) → position_of items id ≡ Some place → place < length items
place_below items id place e = omega (arith, position_below (λ (x : Item). nat_eq id x.id) 0 items place e)

-- an id that may be there, as that of an init line's value, has a place: the constant there is that of the id
pub init_some : (items : List Item) (o : Option ℕ) (place : ℕ) → option_and_then (position_of items) o ≡ Some place → (constant_at items place ≡ option_and_then (constant_of items) o) × (place < length items)
init_some items None place e = absurd (none-some place e)
init_some items (Some v) place e = (
  ap (option_and_then (λ (x : Item). constant_of_body items x.body)) (position_found items v place e),
  place_below items v place e,
)

-- it has none: no constant has the id
pub init_none : (items : List Item) (o : Option ℕ) → option_and_then (position_of items) o ≡ None → option_and_then (constant_of items) o ≡ None
init_none items None e = refl
init_none items (Some v) e = ap (option_and_then (λ (x : Item). constant_of_body items x.body)) (no_item items v e)

-- ---- the first items, which are in place

-- the id of one of them is one more than its place
in_turn : (items : List Item) (id k : ℕ) (o : Option Item) → slice_get items k ≡ o → find_item items id ≡ o → option_map_or (λ (x : Item). nat_eq (k + 1) x.id) o false ≡ true → id ≡ k + 1
in_turn items id k None at found placed = absurd cc
in_turn items id k (Some x) at found placed = (IsIn-from_find items id x found).1 ∙ sym (eqb-true (k + 1) x.id placed)

-- so many of the items come first
module _ (items : List Item) (id count : ℕ) (h : IsWellFormed items) (few : count ≤ length items) (front : (j : ℕ) → 1 ≤ j → j ≤ count → is_in_place items j ≡ true) (fits : id < 2 ^ 64) where
  pub position_in_front : (id + 18446744073709551615) % 18446744073709551616 < count → Some ((id + 18446744073709551615) % 18446744073709551616) ≡ position_of items id
  position_in_front lt =
      let most = few_items items h in
      let least : 1 ≤ id = omega (arith, lt, few, most) in
      let same : (id + 18446744073709551615) % 18446744073709551616 ≡ id - 1 = omega (arith, least, fits) in
      ap (λ (k : ℕ). Some k) same ∙ sym (position-in_place items id h (front id least (omega (arith, least, same, lt))))

  -- where they are all, no other id has a position
  pub position_behind : count ≤ (id + 18446744073709551615) % 18446744073709551616 → count ≡ length items → position_of items id ≡ None
  position_behind ge all = by (position_of items id) refl
    where
      by : (o : Option ℕ) → position_of items id ≡ o → o ≡ None
      by None e = refl
      by (Some k) e =
          let below = place_below items id k e in
          let next : k + 1 - 1 ≡ k = omega arith in
          let placed = subst (λ (j : ℕ). option_map_or (λ (x : Item). nat_eq (k + 1) x.id) (slice_get items j) false ≡ true) next (front (k + 1) (omega arith) (omega (arith, below, all))) in
          let is = in_turn items id k (slice_get items k) refl (sym (position_found items id k e)) placed in
          absurd (omega (arith, is, ge, below, all, fits))
