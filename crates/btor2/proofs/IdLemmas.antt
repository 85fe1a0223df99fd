-- The ids of a model's items stand once, and an id names a state where its item is one.
use Rattle.std.proofs.Common.{◌≡◌, ℕ, Bool, true, false, cond, nat_eq, List, [], ◌∷◌, ◌++◌, Option, Some, None, is_some, option_and_then, append_assoc, refl, sym, ap, subst, ◌∙◌}
use Rattle.std.specs.List.{AllByRecursion}
use Rattle.std.proofs.lemmas.Option.{none-some}
use Rattle.btor2.specs.declared.item.Item.{Item}
use Rattle.btor2.specs.declared.item.Body.{Body}
use Rattle.btor2.specs.declared.item.Body.TheVariants as body
use Rattle.btor2.specs.Items.{find_item, is_input, is_state, names_state}
use Rattle.btor2.specs.Check.{IsWellFormed}
use Rattle.btor2.proofs.ModelLemmas.{IsIn, IsIn-from_find, IsAccepted-at, find_item-in}

-- ---- ids stand once

-- some items have other ids than an item, and the items of a list have each their own
abbrev pub AreOthers : Item → List Item → Type 0
AreOthers x ys = AllByRecursion (λ (y : Item). nat_eq y.id x.id ≡ false) ys

abbrev pub AreFresh : List Item → Type 0
AreFresh [] = Unit {0}
AreFresh (x ∷ xs) = AreOthers x xs × AreFresh xs

other_id : (front rest : List Item) (x : Item) (id : ℕ) → find_item (front ++ x ∷ rest) id ≡ None → nat_eq id x.id ≡ false
other_id [] rest x id h = by (nat_eq id x.id) refl h
  where
    by : (b : Bool) → nat_eq id x.id ≡ b → cond b (Some x) (find_item rest id) ≡ None → nat_eq id x.id ≡ false
    by true e h = absurd (none-some x (sym h))
    by false e h = e
other_id (z ∷ front) rest x id h = by (nat_eq id z.id) (other_id front rest x id) h
  where
    by : (b : Bool) → (find_item (front ++ x ∷ rest) id ≡ None → nat_eq id x.id ≡ false) → cond b (Some z) (find_item (front ++ x ∷ rest) id) ≡ None → nat_eq id x.id ≡ false
    by true more h = absurd (none-some z (sym h))
    by false more h = more h

others_behind : (front mid xs : List Item) (x : Item) → IsWellFormed (front ++ x ∷ (mid ++ xs)) → AreOthers x xs
others_behind front mid [] x w = tt
others_behind front mid (y ∷ ys) x w =
    let splits : front ++ x ∷ (mid ++ y ∷ ys) ≡ (front ++ x ∷ mid) ++ y ∷ ys = sym (append_assoc front (x ∷ mid) (y ∷ ys)) in
    let here : IsIn (front ++ x ∷ (mid ++ y ∷ ys)) y = record { before = front ++ x ∷ mid; after = ys; splits = splits } in (
      other_id front mid x y.id (IsAccepted-at (front ++ x ∷ (mid ++ y ∷ ys)) y w here).fresh,
      others_behind front (mid ++ y ∷ []) ys x (subst (λ (l : List Item). IsWellFormed (front ++ x ∷ l)) (sym (append_assoc mid (y ∷ []) ys)) w),
    )

fresh_behind : (front xs : List Item) → IsWellFormed (front ++ xs) → AreFresh xs
fresh_behind front [] w = tt
fresh_behind front (x ∷ xs) w = (others_behind front [] xs x w, fresh_behind (front ++ x ∷ []) xs (subst IsWellFormed (sym (append_assoc front (x ∷ []) xs)) w))

pub ids_fresh : (items : List Item) → IsWellFormed items → AreFresh items
ids_fresh items w = fresh_behind [] items w

-- ---- ids of states

-- an item's id names a state where it is one
names_by_item : (items : List Item) (x : Item) (b : Bool) → IsWellFormed items → IsIn items x → is_state x.body ≡ b → names_state items x.id ≡ b
names_by_item items x b w at h =
    ap (λ (o : Option Item). is_some (option_and_then (λ (y : Item). cond (is_state y.body) (Some y) None) o)) (find_item-in items x w at) ∙ ap (λ (c : Bool). is_some (cond c (Some x) None)) h ∙ same b
  where
    same : (c : Bool) → is_some (cond c (Some x) None) ≡ c
    same true = refl
    same false = refl

-- so do the ids of those of a kind that are states, or none of which is
named_from : (items front xs : List Item) (takes : Item → Bool) (b : Bool) → IsWellFormed items → items ≡ front ++ xs → ((x : Item) → takes x ≡ true → is_state x.body ≡ b)
    → AllByRecursion (λ (x : Item). takes x ≡ true → names_state items x.id ≡ b) xs
named_from items front [] takes b w e is = tt
named_from items front (x ∷ xs) takes b w e is = (
  λ t. names_by_item items x b w (record { before = front; after = xs; splits = e }) (is x t),
  named_from items (front ++ x ∷ []) xs takes b w (e ∙ sym (append_assoc front (x ∷ []) xs)) is,
)

pub ids_named : (items : List Item) (takes : Item → Bool) (b : Bool) → IsWellFormed items → ((x : Item) → takes x ≡ true → is_state x.body ≡ b)
    → AllByRecursion (λ (x : Item). takes x ≡ true → names_state items x.id ≡ b) items
ids_named items takes b w is = named_from items [] items takes b w refl is

pub input_is_no_state : (b : Body) → is_input b ≡ true → is_state b ≡ false
input_is_no_state (body.State s) h = absurd (cc)
input_is_no_state _ h = refl

-- the item of a state
pub state_item : (items : List Item) (id : ℕ) → names_state items id ≡ true → (y : Item) × IsIn items y × (id ≡ y.id) × (is_state y.body ≡ true)
state_item items id names = by (find_item items id) refl names
  where
    is_one : (x : Item) (b : Bool) → is_state x.body ≡ b → is_some (cond b (Some x) None) ≡ true → is_state x.body ≡ true
    is_one x true is some = is
    is_one x false is some = absurd (cc)

    by : (o : Option Item) → find_item items id ≡ o → is_some (option_and_then (λ (x : Item). cond (is_state x.body) (Some x) None) o) ≡ true → (y : Item) × IsIn items y × (id ≡ y.id) × (is_state y.body ≡ true)
    by None is some = absurd (cc)
    by (Some y) is some =
        let at = IsIn-from_find items id y is in
        (y, at.0, at.1, is_one y (is_state y.body) refl some)
