-- The positions of ids that are not in place, once one more item is added.
use Rattle.std.proofs.Common.{◌≡◌, ℕ, zero, suc, ◌+◌, ◌-◌, ◌≤◌, Bool, true, false, not, ◌&&◌, cond, nat_eq, eq-eqb, eqb-true, List, [], ◌∷◌, ◌++◌, length, length-append, Option, Some, None, slice_get, refl, sym, ap, ap₂, subst, ◌∙◌, append-nil, ⊎_elim, arith}
use Rattle.std.specs.List.{position_from}
use Rattle.std.specs.Option.{option_map_or}
use Rattle.std.proofs.lemmas.Bool.{ne_eqb, cases_eq, false_from_ne_true}
use Rattle.std.proofs.lemmas.Option.{none-some, same_Some}
use Rattle.btor2.specs.declared.item.Item.{Item}
use Rattle.btor2.specs.Items.{find_item, position_of}
use Rattle.btor2.specs.Check.{refusal, IsWellFormed}
use Rattle.btor2.specs.Index.{is_in_place, position_elsewhere}
use Rattle.btor2.proofs.AcceptedLemmas.{IsAccepted-from_refusal}
use Rattle.btor2.proofs.LookUps.{position-in_place}
use Rattle.btor2.proofs.ModelLemmas.{IsWellFormed-push, position-after, position_of-at}

-- an id that is not found has no position
position_of-none : (items : List Item) (id : ℕ) → find_item items id ≡ None → position_of items id ≡ None
position_of-none items id h = rw append-nil at (position-after id 0 items [] h)

-- an id that is not found has none elsewhere
elsewhere-none : (items : List Item) (id : ℕ) → find_item items id ≡ None → position_elsewhere items id ≡ None
elsewhere-none items id h =
    elim (is_in_place items id) as (λ b. cond b None (position_of items id) ≡ None) [
      | true ↦ refl
      | false ↦ position_of-none items id h
    ]

-- the last of a list
slice_get-last : (xs : List Item) (x : Item) → slice_get (xs ++ x ∷ []) (length xs) ≡ Some x
slice_get-last [] x = refl
slice_get-last (y ∷ ys) x = slice_get-last ys x

-- one more item is at no place as another id's
place-other : (xs : List Item) (x : Item) (id k : ℕ) → nat_eq id x.id ≡ false
    → option_map_or (λ (y : Item). nat_eq id y.id) (slice_get (xs ++ x ∷ []) k) false ≡ option_map_or (λ (y : Item). nat_eq id y.id) (slice_get xs k) false
place-other [] x id zero other = other
place-other [] x id (suc k) other = refl
place-other (y ∷ ys) x id zero other = refl
place-other (y ∷ ys) x id (suc k) other = place-other ys x id k other

-- nor is it another id's first item
position-other : (xs : List Item) (x : Item) (id n : ℕ) → nat_eq id x.id ≡ false
    → position_from (λ (y : Item). nat_eq id y.id) n (xs ++ x ∷ []) ≡ position_from (λ (y : Item). nat_eq id y.id) n xs
position-other [] x id n other = ap (λ (b : Bool). cond b (Some n) None) other
position-other (y ∷ ys) x id n other = ap (cond (nat_eq id y.id) (Some n)) (position-other ys x id (n + 1) other)

-- the ids of the others are in place or elsewhere as before
elsewhere-other : (xs : List Item) (x : Item) (id : ℕ) → nat_eq id x.id ≡ false → position_elsewhere (xs ++ x ∷ []) id ≡ position_elsewhere xs id
elsewhere-other xs x id other = ap₂ (λ (b : Bool) (o : Option ℕ). cond b None o) (place-other xs x id (id - 1) other) (position-other xs x id 0 other)

-- its own id is in place where it is one more than the number of the others
own_place : (xs : List Item) (x : Item) → IsWellFormed (xs ++ x ∷ []) → is_in_place (xs ++ x ∷ []) x.id ≡ nat_eq (x.id - 1) (length xs)
own_place xs x h =
    ⊎_elim
    (λ (same : x.id - 1 ≡ length xs).
    let at : slice_get (xs ++ x ∷ []) (x.id - 1) ≡ Some x = ap (slice_get (xs ++ x ∷ [])) same ∙ slice_get-last xs x in
    ap (λ (o : Option Item). option_map_or (λ (y : Item). nat_eq x.id y.id) o false) at ∙ eq-eqb x.id x.id refl ∙ sym (eq-eqb (x.id - 1) (length xs) same))
    (λ differs.
    false_from_ne_true _ (λ (placed : is_in_place (xs ++ x ∷ []) x.id ≡ true).
    differs (same_Some (x.id - 1) (length xs) (sym (position-in_place (xs ++ x ∷ []) x.id h placed) ∙ position_of-at (xs ++ x ∷ []) (length xs) x h (slice_get-last xs x))))
    ∙ sym (ne_eqb (x.id - 1) (length xs) differs))
    (cases_eq (x.id - 1) (length xs))

-- where a test fails, the second of two
second_of_two : (b : Bool) (o p : Option ℕ) → cond (b && false) o p ≡ p
second_of_two true o p = refl
second_of_two false o p = refl

-- a place that is given where a test fails
place_unless : (b : Bool) (n : ℕ) → cond (not b && true) (Some n) None ≡ cond b None (Some n)
place_unless true n = refl
place_unless false n = refl

-- its own id is elsewhere where it is not in place
elsewhere-own : (xs : List Item) (x : Item) → IsWellFormed (xs ++ x ∷ []) → find_item xs x.id ≡ None
    → cond (not (nat_eq (x.id - 1) (length xs)) && nat_eq x.id x.id) (Some (length xs)) (position_elsewhere xs x.id) ≡ position_elsewhere (xs ++ x ∷ []) x.id
elsewhere-own xs x h fresh =
    ap₂ (λ (b : Bool) (o : Option ℕ). cond (not (nat_eq (x.id - 1) (length xs)) && b) (Some (length xs)) o) (eq-eqb x.id x.id refl) (elsewhere-none xs x.id fresh)
    ∙ place_unless (nat_eq (x.id - 1) (length xs)) (length xs)
    ∙ sym (ap₂ (λ (b : Bool) (o : Option ℕ). cond b None o) (own_place xs x h) (position_of-at (xs ++ x ∷ []) (length xs) x h (slice_get-last xs x)))

-- the positions elsewhere with one more
pub elsewhere-push : (xs : List Item) (x : Item) (id : ℕ) → IsWellFormed xs → refusal xs x ≡ None
    → cond (not (nat_eq (x.id - 1) (length xs)) && nat_eq id x.id) (Some (length xs)) (position_elsewhere xs id) ≡ position_elsewhere (xs ++ x ∷ []) id
elsewhere-push xs x id h r =
    ⊎_elim
    (λ (same : id ≡ x.id). rw same (elsewhere-own xs x (IsWellFormed-push xs x h r) (IsAccepted-from_refusal xs x r).fresh))
    (λ differs.
    let other = ne_eqb id x.id differs in
    rw other (second_of_two (not (nat_eq (x.id - 1) (length xs))) (Some (length xs)) (position_elsewhere xs id)) ∙ sym (elsewhere-other xs x id other))
    (cases_eq id x.id)

-- ---- the first items

-- an item in place stays so
in_place_stays : (xs : List Item) (x : Item) (id : ℕ) → IsWellFormed xs → refusal xs x ≡ None → is_in_place xs id ≡ true → is_in_place (xs ++ x ∷ []) id ≡ true
in_place_stays xs x id h r placed =
    ⊎_elim
    (λ (same : id ≡ x.id).
    let none = position_of-none xs id (ap (find_item xs) same ∙ (IsAccepted-from_refusal xs x r).fresh) in
    absurd (none-some (id - 1) (sym none ∙ position-in_place xs id h placed)))
    (λ differs. place-other xs x id (id - 1) (ne_eqb id x.id differs) ∙ placed)
    (cases_eq id x.id)

-- how many of the first items are in place, with one more
more_front : (xs : List Item) (x : Item) (old : ℕ) (b c : Bool) → nat_eq old (length xs) ≡ b → nat_eq (x.id - 1) (length xs) ≡ c → IsWellFormed xs → refusal xs x ≡ None
    → ((id : ℕ) → 1 ≤ id → id ≤ old → is_in_place xs id ≡ true) → (id : ℕ) → 1 ≤ id → id ≤ cond (b && c) (old + 1) old → is_in_place (xs ++ x ∷ []) id ≡ true
more_front xs x old true true at own h r before id least most =
    let last : old ≡ length xs = eqb-true old (length xs) at in
    let place : x.id - 1 ≡ length xs = eqb-true (x.id - 1) (length xs) own in
    ⊎_elim
    (λ (same : id ≡ x.id). ap (is_in_place (xs ++ x ∷ [])) same ∙ own_place xs x (IsWellFormed-push xs x h r) ∙ own)
    (λ differs.
    let positive = (IsAccepted-from_refusal xs x r).least in
    let below : id ≤ old = omega arith in
    in_place_stays xs x id h r (before id least below))
    (cases_eq id x.id)
more_front xs x old true false at own h r before id least most = in_place_stays xs x id h r (before id least most)
more_front xs x old false c at own h r before id least most = in_place_stays xs x id h r (before id least most)

pub front-added : (xs ys : List Item) (x : Item) (place old new : ℕ) → IsWellFormed xs → refusal xs x ≡ None → ys ≡ xs ++ x ∷ [] → place ≡ length xs
    → ((id : ℕ) → 1 ≤ id → id ≤ old → is_in_place xs id ≡ true) → new ≡ cond (nat_eq old place && nat_eq (x.id - 1) place) (old + 1) old
    → (id : ℕ) → 1 ≤ id → id ≤ new → is_in_place ys id ≡ true
front-added xs ys x place old new h r e at before after id least most =
    let is : new ≡ cond (nat_eq old (length xs) && nat_eq (x.id - 1) (length xs)) (old + 1) old = after ∙ ap (λ (k : ℕ). cond (nat_eq old k && nat_eq (x.id - 1) k) (old + 1) old) at in
    ap (λ (l : List Item). is_in_place l id) e ∙ more_front xs x old (nat_eq old (length xs)) (nat_eq (x.id - 1) (length xs)) refl refl h r before id least (subst (λ (k : ℕ). id ≤ k) is most)

few_more : (b c : Bool) (old n : ℕ) → nat_eq old n ≡ b → old ≤ n → cond (b && c) (old + 1) old ≤ n + 1
few_more true true old n at le = omega arith
few_more true false old n at le = omega arith
few_more false c old n at le = omega arith

pub few-added : (xs ys : List Item) (x : Item) (place old new : ℕ) → ys ≡ xs ++ x ∷ [] → place ≡ length xs → old ≤ length xs
    → new ≡ cond (nat_eq old place && nat_eq (x.id - 1) place) (old + 1) old → new ≤ length ys
few-added xs ys x place old new e at before after =
    let le = few_more (nat_eq old place) (nat_eq (x.id - 1) place) old place refl (omega arith) in
    let longer : length ys ≡ length xs + 1 = ap length e ∙ length-append xs (x ∷ []) in
    omega (arith, longer, le)
