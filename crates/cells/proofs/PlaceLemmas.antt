-- Lists whose ids are their places from 1 on.
use Rattle.std.proofs.Common.{◌≡◌, ℕ, zero, suc, ◌+◌, ◌<◌, ◌≤◌, Bool, true, false, cond, nat_eq, eq-eqb, eqb-true, List, [], ◌∷◌, ◌++◌, length, slice_get, Option, Some, None, is_some, refl, sym, ap, ◌∙◌, arith}
use Rattle.std.proofs.lemmas.Bool.{ne_eqb}
use Rattle.btor2.specs.declared.item.Item.{Item}
use Rattle.btor2.specs.declared.item.Body.{Body}
use Rattle.btor2.specs.Items.{find_item, sort_width, sort_bits, width_of_body, node_width}
use Rattle.btor2.specs.declared.item.Body.TheVariants as body
use Rattle.btor2.proofs.AppendLemmas.{find_item-after, width_of_body-append}
use Rattle.btor2.proofs.ModelLemmas.{find_item-own}
use Rattle.cells.specs.Lines.{named, IsNumberedFrom, IsNumbered}

found_from : (first : ℕ) (items : List Item) (k : ℕ) → IsNumberedFrom first items → find_item items (first + k) ≡ slice_get items k
found_from first [] k h = refl
found_from first (x ∷ xs) zero h =
    let own : first + 0 ≡ x.id = omega (arith, h.0) in
    rw (eq-eqb (first + 0) x.id own) refl
found_from first (x ∷ xs) (suc k) h =
    let other : first + suc k ≡ x.id → ⊥ = λ same. omega (arith, same, h.0) in
    let on : suc first + k ≡ first + suc k = omega arith in
    rw (ne_eqb (first + suc k) x.id other) (ap (find_item xs) (sym on) ∙ found_from (suc first) xs k h.1)

pub found_at : (items : List Item) (k : ℕ) → IsNumbered items → find_item items (k + 1) ≡ slice_get items k
found_at items k h = ap (find_item items) (omega arith) ∙ found_from 1 items k h

free_from : (first : ℕ) (items : List Item) (id : ℕ) → IsNumberedFrom first items → first + length items ≤ id → find_item items id ≡ None
free_from first [] id h behind = refl
free_from first (x ∷ xs) id h behind =
    let other : id ≡ x.id → ⊥ = λ same. omega (arith, same, h.0, behind) in
    rw (ne_eqb id x.id other) (free_from (suc first) xs id h.1 (omega (arith, behind)))

pub free_behind : (items : List Item) (id : ℕ) → IsNumbered items → length items < id → find_item items id ≡ None
free_behind items id h behind = free_from 1 items id h (omega arith)

within_from : (first : ℕ) (items : List Item) (id : ℕ) → IsNumberedFrom first items → is_some (find_item items id) ≡ true → (first ≤ id) × (id < first + length items)
within_from first [] id h there = absurd (cc)
within_from first (x ∷ xs) id h there = by (nat_eq id x.id) refl (within_from (suc first) xs id h.1) there
  where
    by : (b : Bool) → nat_eq id x.id ≡ b → (is_some (find_item xs id) ≡ true → (suc first ≤ id) × (id < suc first + length xs)) → is_some (cond b (Some x) (find_item xs id)) ≡ true → (first ≤ id) × (id < first + length (x ∷ xs))
    by true e rest found = let same = eqb-true id x.id e in (omega (arith, same, h.0), omega (arith, same, h.0))
    by false e rest found = let low = (rest found).0 in let high = (rest found).1 in (omega (arith, low), omega (arith, high))

pub within_places : (items : List Item) (id : ℕ) → IsNumbered items → is_some (find_item items id) ≡ true → (1 ≤ id) × (id ≤ length items)
within_places items id h there = let w = within_from 1 items id h there in let high = w.1 in (w.0, omega (arith, high))

-- one more
numbered_from : (first : ℕ) (items : List Item) (x : Item) → IsNumberedFrom first items → x.id ≡ first + length items → IsNumberedFrom first (items ++ x ∷ [])
numbered_from first [] x h is = (is ∙ omega arith, tt)
numbered_from first (y ∷ ys) x h is = (h.0, numbered_from (suc first) ys x h.1 (is ∙ omega arith))

pub numbered_more : (items : List Item) (x : Item) → IsNumbered items → x.id ≡ length items + 1 → IsNumbered (items ++ x ∷ [])
numbered_more items x h is = numbered_from 1 items x h (is ∙ omega arith)

-- the line that was put last is found
pub found_last : (items : List Item) (id : ℕ) (symbol : Option (List ℕ)) (b : Body) → find_item items id ≡ None → find_item (items ++ named id symbol b ∷ []) id ≡ Some (named id symbol b)
found_last items id symbol b fresh = find_item-after items (named id symbol b ∷ []) id fresh ∙ find_item-own (named id symbol b) []

pub width_last : (items : List Item) (id n : ℕ) (symbol : Option (List ℕ)) (b : Body) → find_item items id ≡ None → width_of_body items b ≡ Some n → node_width (items ++ named id symbol b ∷ []) id ≡ Some n
width_last items id n symbol b fresh width = ap by (found_last items id symbol b fresh) ∙ width_of_body-append items (named id symbol b ∷ []) b n width
  where
    by : Option Item → Option ℕ
    by None = None
    by (Some x) = width_of_body (items ++ named id symbol b ∷ []) x.body

pub sort_last : (items : List Item) (id n : ℕ) (symbol : Option (List ℕ)) → find_item items id ≡ None → sort_width (items ++ named id symbol (body.Sort n) ∷ []) id ≡ Some n
sort_last items id n symbol fresh = ap by (found_last items id symbol (body.Sort n) fresh)
  where
    by : Option Item → Option ℕ
    by None = None
    by (Some x) = sort_bits x.body
