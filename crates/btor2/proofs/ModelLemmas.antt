-- What well-formed lists of items say, for this crate and those above.
use Rattle.std.proofs.Common.{◌≡◌, ℕ, zero, suc, ◌+◌, ◌≤◌, true, false, Bool, cond, nat_eq, eq-eqb, eqb-true, List, [], ◌∷◌, ◌++◌, length, length-append, Option, Some, None, option_and_then, slice_get, ◌⊎◌, inl, inr, ⊎_elim, refl, sym, ap, ap₂, subst, ◌∙◌, append_assoc, append-nil, arith}
use Rattle.std.specs.List.{position_from}
use Rattle.std.specs.Option.{option_or}
use Rattle.std.proofs.lemmas.Option.{none-some, same_Some, cond_some}
use Rattle.btor2.specs.declared.item.Item.{Item}
use Rattle.btor2.specs.declared.item.Body.{Body}
use Rattle.btor2.specs.declared.item.Body.TheVariants as body
use Rattle.btor2.specs.Items.{find_item, position_of, sort_bits, sort_width, width_of_body, node_width, constant_of, names_state, init_for, next_for, init_value, next_value}
use Rattle.btor2.specs.Check.{refusal, IsWellFormed, IsWellFormedAfter}
use Rattle.btor2.proofs.AppendLemmas.{find_item-after, node_width-append, constant_of-append, names_state-append, then_parts}
use Rattle.btor2.proofs.AcceptedLemmas.{BodyIsAccepted, IsAccepted, IsAccepted-from_refusal}

-- an item that stands in a list, with those before and after it
pub record IsIn (items : List Item) (x : Item) : Type 0 where
  pub before : List Item
  pub after : List Item
  pub splits : items ≡ before ++ x ∷ after

IsWellFormedAfter-at : (front before after : List Item) (x : Item) → IsWellFormedAfter front (before ++ x ∷ after) → refusal (front ++ before) x ≡ None
IsWellFormedAfter-at front [] after x h = rw append-nil h.0
IsWellFormedAfter-at front (y ∷ ys) after x h = rw append_assoc at (IsWellFormedAfter-at (front ++ y ∷ []) ys after x h.1)

-- each item of a well-formed list is accepted after those before it
pub refusal-at : (before after : List Item) (x : Item) → IsWellFormed (before ++ x ∷ after) → refusal before x ≡ None
refusal-at before after x h = IsWellFormedAfter-at [] before after x h

pub IsAccepted-at : (items : List Item) (x : Item) → IsWellFormed items → (w : IsIn items x) → IsAccepted w.before x
IsAccepted-at items x h w = IsAccepted-from_refusal w.before x (refusal-at w.before w.after x (subst IsWellFormed w.splits h))

IsWellFormedAfter-front : (front xs ys : List Item) → IsWellFormedAfter front (xs ++ ys) → IsWellFormedAfter front xs
IsWellFormedAfter-front front [] ys h = tt
IsWellFormedAfter-front front (x ∷ xs) ys h = (h.0, IsWellFormedAfter-front (front ++ x ∷ []) xs ys h.1)

-- the items before an item are a well-formed list
pub IsWellFormed-front : (xs ys : List Item) → IsWellFormed (xs ++ ys) → IsWellFormed xs
IsWellFormed-front xs ys h = IsWellFormedAfter-front [] xs ys h

IsWellFormedAfter-push : (front xs : List Item) (x : Item) → IsWellFormedAfter front xs → refusal (front ++ xs) x ≡ None → IsWellFormedAfter front (xs ++ x ∷ [])
IsWellFormedAfter-push front [] x h r = (rw append-nil at r, tt)
IsWellFormedAfter-push front (y ∷ ys) x h r = (h.0, IsWellFormedAfter-push (front ++ y ∷ []) ys x h.1 (rw append_assoc r))

-- a well-formed list is no longer than a model may be
few_after : (before xs : List Item) → IsWellFormedAfter before xs → length before ≤ 1048576 → length before + length xs ≤ 1048576
few_after before [] w h = omega arith
few_after before (x ∷ xs) w h =
    let accepted = IsAccepted-from_refusal before x w.0 in
    let longer = length-append before (x ∷ []) in
    omega (arith, accepted.few, few_after (before ++ x ∷ []) xs w.1 (omega (arith, accepted.few)))

pub few_items : (items : List Item) → IsWellFormed items → length items ≤ 1048576
few_items items w = omega (arith, few_after [] items w (omega arith))

-- an item that is not refused may follow
pub IsWellFormed-push : (xs : List Item) (x : Item) → IsWellFormed xs → refusal xs x ≡ None → IsWellFormed (xs ++ x ∷ [])
IsWellFormed-push xs x h r = IsWellFormedAfter-push [] xs x h r

-- the item that an id finds stands in the list and has the id
found_in : (b : Bool) (y : Item) (ys : List Item) (id : ℕ) (x : Item) → nat_eq id y.id ≡ b → (find_item ys id ≡ Some x → IsIn ys x × (id ≡ x.id)) → cond b (Some y) (find_item ys id) ≡ Some x → IsIn (y ∷ ys) x × (id ≡ x.id)
found_in true y ys id x test rest h =
    subst (λ (z : Item). IsIn (y ∷ ys) z × (id ≡ z.id)) (same_Some y x h) (record { before = []; after = ys; splits = refl }, eqb-true id y.id test)
found_in false y ys id x test rest h =
    let there = rest h in
    (record { before = y ∷ there.0.before; after = there.0.after; splits = ap (λ (l : List Item). y ∷ l) there.0.splits }, there.1)

pub IsIn-from_find : (items : List Item) (id : ℕ) (x : Item) → find_item items id ≡ Some x → IsIn items x × (id ≡ x.id)
IsIn-from_find [] id x h = absurd (none-some x h)
IsIn-from_find (y ∷ ys) id x h = found_in (nat_eq id y.id) y ys id x refl (IsIn-from_find ys id x) h

-- the item at a place stands in the list after as many as the place counts
pub IsIn-from_place : (items : List Item) (k : ℕ) (x : Item) → slice_get items k ≡ Some x → (w : IsIn items x) × (length w.before ≡ k)
IsIn-from_place [] k x h = absurd (none-some x h)
IsIn-from_place (y ∷ ys) zero x h = (record { before = []; after = ys; splits = ap (λ (z : Item). z ∷ ys) (same_Some y x h) }, refl)
IsIn-from_place (y ∷ ys) (suc k) x h =
    let there = IsIn-from_place ys k x h in
    (record { before = y ∷ there.0.before; after = there.0.after; splits = ap (λ (l : List Item). y ∷ l) there.0.splits }, ap suc there.1)

-- an item that stands in a well-formed list is found by its id
pub find_item-own : (x : Item) (xs : List Item) → find_item (x ∷ xs) x.id ≡ Some x
find_item-own x xs = rw (eq-eqb x.id x.id refl) refl

pub find_item-in : (items : List Item) (x : Item) → IsWellFormed items → IsIn items x → find_item items x.id ≡ Some x
find_item-in items x h w =
    ap (λ (l : List Item). find_item l x.id) w.splits ∙ find_item-after w.before (x ∷ w.after) x.id (IsAccepted-at items x h w).fresh ∙ find_item-own x w.after

-- the item at a place of a well-formed list is found by its id
pub find_item-at : (items : List Item) (k : ℕ) (x : Item) → IsWellFormed items → slice_get items k ≡ Some x → find_item items x.id ≡ Some x
find_item-at items k x h at = find_item-in items x h (IsIn-from_place items k x at).0

-- an id that is not found is placed in the rest
pub position-after : (id n : ℕ) (before more : List Item) → find_item before id ≡ None → position_from (λ (x : Item). nat_eq id x.id) n (before ++ more) ≡ position_from (λ (x : Item). nat_eq id x.id) (n + length before) more
position-after id n [] more h = ap (λ (k : ℕ). position_from (λ (x : Item). nat_eq id x.id) k more) (omega arith)
position-after id n (y ∷ ys) more h =
    elim (nat_eq id y.id) as (λ b. cond b (Some y) (find_item ys id) ≡ None → cond b (Some n) (position_from (λ (x : Item). nat_eq id x.id) (n + 1) (ys ++ more)) ≡ position_from (λ (x : Item). nat_eq id x.id) (n + suc (length ys)) more) [
      | true ↦ λ e. absurd (none-some y (sym e))
      | false ↦ λ e. position-after id (n + 1) ys more e ∙ ap (λ (k : ℕ). position_from (λ (x : Item). nat_eq id x.id) k more) (omega arith)
    ] h

position-own : (x : Item) (n : ℕ) (xs : List Item) → position_from (λ (y : Item). nat_eq x.id y.id) n (x ∷ xs) ≡ Some n
position-own x n xs = rw (eq-eqb x.id x.id refl) refl

-- and its place is the place of its id
pub position_of-at : (items : List Item) (k : ℕ) (x : Item) → IsWellFormed items → slice_get items k ≡ Some x → position_of items x.id ≡ Some k
position_of-at items k x h at =
    let there = IsIn-from_place items k x at in
    let w = there.0 in
    let e : 0 + length w.before ≡ k = omega (arith, there.1) in
    ap (λ (l : List Item). position_of l x.id) w.splits ∙ position-after x.id 0 w.before (x ∷ w.after) (IsAccepted-at items x h w).fresh
    ∙ position-own x (0 + length w.before) w.after ∙ ap (λ (j : ℕ). Some j) e

-- the width of a node is that of its body
pub node_width-at : (items : List Item) (k : ℕ) (x : Item) → IsWellFormed items → slice_get items k ≡ Some x → node_width items x.id ≡ width_of_body items x.body
node_width-at items k x h at = ap (option_and_then (λ (y : Item). width_of_body items y.body)) (find_item-at items k x h at)

sort_bits-range : (items : List Item) (b : Body) (n : ℕ) → BodyIsAccepted items b → sort_bits b ≡ Some n → (1 ≤ n) × (n ≤ 64)
sort_bits-range items (body.Sort w) n h e = subst (λ (k : ℕ). (1 ≤ k) × (k ≤ 64)) (same_Some w n e) h
sort_bits-range items _ n h e = absurd (none-some n e)

-- the width of a sort of a well-formed list is 1 to 64
pub sort_width-range : (items : List Item) (id n : ℕ) → IsWellFormed items → sort_width items id ≡ Some n → (1 ≤ n) × (n ≤ 64)
sort_width-range items id n h e =
    let parts = then_parts (λ (x : Item). sort_bits x.body) (find_item items id) n e in
    let w = (IsIn-from_find items id parts.0 parts.1).0 in
    sort_bits-range w.before parts.0.body n (IsAccepted-at items parts.0 h w).says parts.2

-- the width of what a body says the value of is 1 to 64
pub width_of_body-range : (items : List Item) (b : Body) (n : ℕ) → IsWellFormed items → width_of_body items b ≡ Some n → (1 ≤ n) × (n ≤ 64)
width_of_body-range items b n h e =
    let parts = then_parts (sort_width items) _ n e in
    sort_width-range items parts.0 n h parts.2

-- the width of a node of a well-formed list is 1 to 64
pub node_width-range : (items : List Item) (id n : ℕ) → IsWellFormed items → node_width items id ≡ Some n → (1 ≤ n) × (n ≤ 64)
node_width-range items id n h e =
    let parts = then_parts (λ (x : Item). width_of_body items x.body) (find_item items id) n e in
    width_of_body-range items parts.0.body n h parts.2

-- The lines of a state.

one_or_other : {A : Type 0} (o p : Option A) (v : A) → option_or o p ≡ Some v → (o ≡ Some v) ⊎ (p ≡ Some v)
one_or_other None p v h = inr h
one_or_other (Some x) p v h = inl h

init_for_some : (b : Body) (t v : ℕ) → init_for t b ≡ Some v → (s : ℕ) × (b ≡ body.Init s t v)
init_for_some (body.Init s u w) t v h =
    let parts = cond_some (nat_eq t u) w v h in
    (s, ap₂ (λ (p q : ℕ). body.Init s p q) (sym (eqb-true t u parts.0)) parts.1)
init_for_some _ t v h = absurd (none-some v h)

next_for_some : (b : Body) (t v : ℕ) → next_for t b ≡ Some v → (s : ℕ) × (b ≡ body.Next s t v)
next_for_some (body.Next s u w) t v h =
    let parts = cond_some (nat_eq t u) w v h in
    (s, ap₂ (λ (p q : ℕ). body.Next s p q) (sym (eqb-true t u parts.0)) parts.1)
next_for_some _ t v h = absurd (none-some v h)

-- a line that stands in a list: its item, and its sort
abbrev LineIn : List Item → (ℕ → Body) → Type 0
LineIn items line = (x : Item) × (s : ℕ) × IsIn items x × (x.body ≡ line s)

line_behind : (y : Item) (ys : List Item) (line : ℕ → Body) → LineIn ys line → LineIn (y ∷ ys) line
line_behind y ys line h =
    (h.0, h.1, record { before = y ∷ h.2.before; after = h.2.after; splits = ap (λ (l : List Item). y ∷ l) h.2.splits }, h.3)

init_line : (items : List Item) (t v : ℕ) → init_value items t ≡ Some v → LineIn items (λ s. body.Init s t v)
init_line [] t v h = absurd (none-some v h)
init_line (y ∷ ys) t v h =
    ⊎_elim
    (λ e. let line = init_for_some y.body t v e in (y, line.0, record { before = []; after = ys; splits = refl }, line.1))
    (λ e. line_behind y ys (λ s. body.Init s t v) (init_line ys t v e))
    (one_or_other (init_for t y.body) (init_value ys t) v h)

next_line : (items : List Item) (t v : ℕ) → next_value items t ≡ Some v → LineIn items (λ s. body.Next s t v)
next_line [] t v h = absurd (none-some v h)
next_line (y ∷ ys) t v h =
    ⊎_elim
    (λ e. let line = next_for_some y.body t v e in (y, line.0, record { before = []; after = ys; splits = refl }, line.1))
    (λ e. line_behind y ys (λ s. body.Next s t v) (next_line ys t v e))
    (one_or_other (next_for t y.body) (next_value ys t) v h)

-- what a state's init line says in a well-formed list
pub record IsInitOf (items : List Item) (t v : ℕ) : Type 0 where
  pub width : ℕ
  pub constant : ℕ
  pub state : names_state items t ≡ true
  pub of_state : node_width items t ≡ Some width
  pub of_value : node_width items v ≡ Some width
  pub word : constant_of items v ≡ Some constant

-- what a state's next line says in a well-formed list
pub record IsNextOf (items : List Item) (t v : ℕ) : Type 0 where
  pub width : ℕ
  pub state : names_state items t ≡ true
  pub of_state : node_width items t ≡ Some width
  pub of_value : node_width items v ≡ Some width

pub IsInitOf-from_value : (items : List Item) (t v : ℕ) → IsWellFormed items → init_value items t ≡ Some v → IsInitOf items t v
IsInitOf-from_value items t v h e =
    let line = init_line items t v e in
    let w = line.2 in
    let says = subst (BodyIsAccepted w.before) line.3 (IsAccepted-at items line.0 h w).says in
    subst (λ (l : List Item). IsInitOf l t v) (sym w.splits) (record {
      width = says.0;
      constant = says.1;
      state = names_state-append w.before (line.0 ∷ w.after) t says.5;
      of_state = node_width-append w.before (line.0 ∷ w.after) t says.0 says.3;
      of_value = node_width-append w.before (line.0 ∷ w.after) v says.0 says.4;
      word = constant_of-append w.before (line.0 ∷ w.after) v says.1 says.6;
    })

pub IsNextOf-from_value : (items : List Item) (t v : ℕ) → IsWellFormed items → next_value items t ≡ Some v → IsNextOf items t v
IsNextOf-from_value items t v h e =
    let line = next_line items t v e in
    let w = line.2 in
    let says = subst (BodyIsAccepted w.before) line.3 (IsAccepted-at items line.0 h w).says in
    subst (λ (l : List Item). IsNextOf l t v) (sym w.splits) (record {
      width = says.0;
      state = names_state-append w.before (line.0 ∷ w.after) t says.4;
      of_state = node_width-append w.before (line.0 ∷ w.after) t says.0 says.2;
      of_value = node_width-append w.before (line.0 ∷ w.after) v says.0 says.3;
    })
