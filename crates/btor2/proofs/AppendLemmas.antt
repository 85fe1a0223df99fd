-- Look-ups in a list of items that is followed by more.
use Rattle.std.proofs.Common.{◌≡◌, ℕ, true, false, cond, nat_eq, List, [], ◌∷◌, ◌++◌, Option, Some, None, is_some, option_and_then, eqb-true, ◌⊎◌, inl, inr, refl, sym, ◌∙◌}
use Rattle.std.proofs.lemmas.Option.{none-some, cond_some}
use Rattle.btor2.specs.declared.item.Item.{Item}
use Rattle.btor2.specs.declared.item.Body.{Body}
use Rattle.btor2.specs.Items.{find_item, sort_bits, sort_width, width_of_body, node_width, constant_of_body, constant_word, constant_of, names_state, is_state}

-- what is found stays found
pub find_item-append : (before more : List Item) (id : ℕ) (x : Item) → find_item before id ≡ Some x → find_item (before ++ more) id ≡ Some x
find_item-append [] more id x h = absurd (none-some x h)
find_item-append (y ∷ ys) more id x h =
    elim (nat_eq id y.id) as (λ b. cond b (Some y) (find_item ys id) ≡ Some x → cond b (Some y) (find_item (ys ++ more) id) ≡ Some x) [
      | true ↦ λ e. e
      | false ↦ λ e. find_item-append ys more id x e
    ] h

-- an id that is not found is looked for in the rest
pub find_item-after : (before more : List Item) (id : ℕ) → find_item before id ≡ None → find_item (before ++ more) id ≡ find_item more id
find_item-after [] more id h = refl
find_item-after (y ∷ ys) more id h =
    elim (nat_eq id y.id) as (λ b. cond b (Some y) (find_item ys id) ≡ None → cond b (Some y) (find_item (ys ++ more) id) ≡ find_item more id) [
      | true ↦ λ e. absurd (none-some y (sym e))
      | false ↦ λ e. find_item-after ys more id e
    ] h

-- what an id finds in a list with one item more: what it found, or that item
pub found_cases : (before : List Item) (x : Item) (id : ℕ) (y : Item) → find_item (before ++ x ∷ []) id ≡ Some y → (find_item before id ≡ Some y) ⊎ ((id ≡ x.id) × (x ≡ y))
found_cases before x id y h = found_by (find_item before id) refl
  where
    found_by : (o : Option Item) → find_item before id ≡ o → (find_item before id ≡ Some y) ⊎ ((id ≡ x.id) × (x ≡ y))
    found_by None e =
        let last = cond_some (nat_eq id x.id) x y (sym (find_item-after before (x ∷ []) id e) ∙ h) in
        inr (eqb-true id x.id last.0, last.1)
    found_by (Some z) e = inl (e ∙ sym (find_item-append before (x ∷ []) id z e) ∙ h)

-- an answer in two steps, each of which keeps what it finds
then_kept : {A B : Type 0} (f g : A → Option B) (o p : Option A) (v : B) → ((x : A) → o ≡ Some x → p ≡ Some x) → ((x : A) → f x ≡ Some v → g x ≡ Some v) → option_and_then f o ≡ Some v → option_and_then g p ≡ Some v
then_kept f g None p v first second h = absurd (none-some v h)
then_kept f g (Some x) p v first second h = rw (first x refl) (second x h)

-- the two steps of an answer
pub then_parts : {A B : Type 0} (f : A → Option B) (o : Option A) (v : B) → option_and_then f o ≡ Some v → (x : A) × (o ≡ Some x) × (f x ≡ Some v)
then_parts f None v h = absurd (none-some v h)
then_parts f (Some x) v h = (x, refl, h)

pub sort_width-append : (before more : List Item) (id n : ℕ) → sort_width before id ≡ Some n → sort_width (before ++ more) id ≡ Some n
sort_width-append before more id n h =
    then_kept (λ x. sort_bits x.body) (λ x. sort_bits x.body) (find_item before id) (find_item (before ++ more) id) n (find_item-append before more id) (λ x e. e) h

pub width_of_body-append : (before more : List Item) (b : Body) (n : ℕ) → width_of_body before b ≡ Some n → width_of_body (before ++ more) b ≡ Some n
width_of_body-append before more b n h =
    then_kept (sort_width before) (sort_width (before ++ more)) _ _ n (λ s e. e) (λ s e. sort_width-append before more s n e) h

pub node_width-append : (before more : List Item) (id n : ℕ) → node_width before id ≡ Some n → node_width (before ++ more) id ≡ Some n
node_width-append before more id n h =
    then_kept (λ x. width_of_body before x.body) (λ x. width_of_body (before ++ more) x.body) (find_item before id) (find_item (before ++ more) id) n (find_item-append before more id) (λ x e. width_of_body-append before more x.body n e) h

pub constant_of_body-append : (before more : List Item) (b : Body) (w : ℕ) → constant_of_body before b ≡ Some w → constant_of_body (before ++ more) b ≡ Some w
constant_of_body-append before more b w h =
    then_kept (λ n. constant_word n b) (λ n. constant_word n b) (width_of_body before b) (width_of_body (before ++ more) b) w (λ n e. width_of_body-append before more b n e) (λ n e. e) h

pub constant_of-append : (before more : List Item) (id w : ℕ) → constant_of before id ≡ Some w → constant_of (before ++ more) id ≡ Some w
constant_of-append before more id w h =
    then_kept (λ x. constant_of_body before x.body) (λ x. constant_of_body (before ++ more) x.body) (find_item before id) (find_item (before ++ more) id) w (find_item-append before more id) (λ x e. constant_of_body-append before more x.body w e) h

-- a value that is there, by its test
pub some_of : {A : Type 0} (o : Option A) → is_some o ≡ true → (v : A) × (o ≡ Some v)
some_of None h = absurd (cc)
some_of (Some v) h = (v, refl)

pub none_of : {A : Type 0} (o : Option A) → is_some o ≡ false → o ≡ None
none_of None h = refl
none_of (Some v) h = absurd (cc)

pub is_some_from : {A : Type 0} (o : Option A) (v : A) → o ≡ Some v → is_some o ≡ true
is_some_from None v h = absurd (none-some v h)
is_some_from (Some x) v h = refl

abbrev state_at : Item → Option Item
state_at x = cond (is_state x.body) (Some x) None

pub names_state-append : (before more : List Item) (id : ℕ) → names_state before id ≡ true → names_state (before ++ more) id ≡ true
names_state-append before more id h =
    let there = some_of (option_and_then state_at (find_item before id)) h in
    is_some_from (option_and_then state_at (find_item (before ++ more) id)) there.0
    (then_kept state_at state_at (find_item before id) (find_item (before ++ more) id) there.0 (find_item-append before more id) (λ x e. e) there.1)
