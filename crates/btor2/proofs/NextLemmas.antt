-- The first state with an init line and without a next line, by the places of the states.
use Rattle.std.proofs.Common.{◌≡◌, ℕ, suc, Bool, true, false, ◌&&◌, List, [], ◌∷◌, ◌++◌, length, slice_get, Option, Some, None, is_none, option_and_then, is_some, cond, subst, if◌then◌else◌, refl, sym, ap, ◌∙◌, arith, length-append, append_assoc}
use Rattle.std.proofs.lemmas.Option.{none-some}
use Rattle.btor2.specs.declared.item.Item.{Item}
use Rattle.btor2.specs.Items.{is_state, init_value, next_value, is_free}
use Rattle.btor2.specs.Lists.{places, id_at, has_init_without_next, has_init_without_next_at, first_init_without_next}

-- the id of the first of some places whose state has an init line alone
abbrev pub first_lacking : List Item → List ℕ → Option ℕ
first_lacking items [] = None
first_lacking items (p ∷ ps) = if has_init_without_next_at items p then id_at items p else first_lacking items ps

-- among the places of the states it is that of the first state with an init line alone
pub first_by_places : (items xs front : List Item) (at : ℕ) → items ≡ front ++ xs → length front ≡ at → first_lacking items (places is_state at xs) ≡ first_init_without_next items xs
first_by_places items [] front at split long = refl
first_by_places items (x ∷ xs) front at split long =
    let here : slice_get items at ≡ Some x = rw (split, ← long) (slice_get-behind front) in
    let rest : first_lacking items (places is_state (suc at) xs) ≡ first_init_without_next items xs = first_by_places items xs (front ++ x ∷ []) (suc at) (split ∙ sym (append_assoc front (x ∷ []) xs)) (omega (arith, length-append front (x ∷ []))) in
    let id : id_at items at ≡ Some x.id = ap (option_and_then (λ (y : Item). Some y.id)) here in
    by_kind (is_state x.body) id rest
  where
    slice_get-behind : (front : List Item) → slice_get (front ++ x ∷ xs) (length front) ≡ Some x
    slice_get-behind [] = refl
    slice_get-behind (y ∷ ys) = slice_get-behind ys

    by_kind : (b : Bool) → id_at items at ≡ Some x.id → first_lacking items (places is_state (suc at) xs) ≡ first_init_without_next items xs
        → first_lacking items (if b then at ∷ places is_state (suc at) xs else places is_state (suc at) xs) ≡ (if b && has_init_without_next items x.id then Some x.id else first_init_without_next items xs)
    by_kind true id rest = rw (id, rest) refl
    by_kind false id rest = rest

-- where no state among some items has an init line alone, each that is not free has a next line

has_next_from : (i n : Option ℕ) (id : ℕ) (rest : Option ℕ) → cond (true && (is_some i && is_none n)) (Some id) rest ≡ None → (is_none i && is_none n) ≡ false → is_some n ≡ true
has_next_from i (Some v) id rest h carried = refl
has_next_from (Some v) None id rest h carried = absurd (none-some id (sym h))
has_next_from None None id rest h carried = absurd (cc)

passed_over : (b : Bool) (id : ℕ) (rest : Option ℕ) → cond b (Some id) rest ≡ None → rest ≡ None
passed_over true id rest h = absurd (none-some id (sym h))
passed_over false id rest h = h

pub has_next : (items before after : List Item) (y : Item) → first_init_without_next items (before ++ y ∷ after) ≡ None → is_state y.body ≡ true → is_free items y.id ≡ false
    → is_some (next_value items y.id) ≡ true
has_next items [] after y h is carried =
    has_next_from (init_value items y.id) (next_value items y.id) y.id (first_init_without_next items after)
    (subst (λ (b : Bool). cond (b && has_init_without_next items y.id) (Some y.id) (first_init_without_next items after) ≡ None) is h) carried
has_next items (x ∷ xs) after y h is carried =
    has_next items xs after y (passed_over (is_state x.body && has_init_without_next items x.id) x.id (first_init_without_next items (xs ++ y ∷ after)) h) is carried
