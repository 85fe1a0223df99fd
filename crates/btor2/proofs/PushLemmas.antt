-- What stands beside the items once one more is added.
use Rattle.std.proofs.Common.{◌≡◌, ℕ, suc, ◌+◌, ◌-◌, Bool, true, false, not, ◌&&◌, cond, nat_eq, List, [], ◌∷◌, ◌++◌, length, Option, Some, None, refl, sym, ap, subst, ◌∙◌, ⊎_elim, arith}
use Rattle.std.specs.Option.{option_or}
use Rattle.std.proofs.lemmas.Bool.{ne_eqb, cases_eq}
use Rattle.btor2.specs.declared.item.Item.{Item}
use Rattle.btor2.specs.declared.item.Body.{Body}
use Rattle.btor2.specs.declared.item.Body.TheVariants as body
use Rattle.btor2.specs.Items.{init_for, next_for, init_value, next_value}
use Rattle.btor2.specs.Check.{refusal, IsWellFormed}
use Rattle.btor2.specs.Index.{position_elsewhere}
use Rattle.btor2.specs.Parts.{HasSoundParts, HaveSoundParts}
use Rattle.btor2.specs.Lists.{places, with_place}
use Rattle.btor2.proofs.AcceptedLemmas.{BodyIsAccepted, IsAccepted-from_refusal}
use Rattle.btor2.proofs.ElsewhereLemmas.{elsewhere-push}
use Rattle.btor2.proofs.ModelLemmas.{IsWellFormed-push}

with_place-cons : (b : Bool) (place at : ℕ) (list : List ℕ) → with_place b place (at ∷ list) ≡ at ∷ with_place b place list
with_place-cons true place at list = refl
with_place-cons false place at list = refl

places-append : (test : Body → Bool) (at : ℕ) (xs : List Item) (x : Item) → places test at (xs ++ x ∷ []) ≡ with_place (test x.body) (at + length xs) (places test at xs)
places-append test at [] x =
    let e : at ≡ at + 0 = omega arith in
    ap (λ (k : ℕ). cond (test x.body) (k ∷ []) []) e
places-append test at (y ∷ ys) x =
    let e : suc at + length ys ≡ at + suc (length ys) = omega arith in
    let rest = places-append test (suc at) ys x ∙ ap (λ (k : ℕ). with_place (test x.body) k (places test (suc at) ys)) e in
    elim (test y.body) as (λ b. cond b (at ∷ places test (suc at) (ys ++ x ∷ [])) (places test (suc at) (ys ++ x ∷ [])) ≡ with_place (test x.body) (at + suc (length ys)) (cond b (at ∷ places test (suc at) ys) (places test (suc at) ys))) [
      | true ↦ ap (λ (l : List ℕ). at ∷ l) rest ∙ sym (with_place-cons (test x.body) (at + suc (length ys)) at (places test (suc at) ys))
      | false ↦ rest
    ]

-- a list of places with the place of one more item
pub places-push : (test : Body → Bool) (xs : List Item) (x : Item) → places test 0 (xs ++ x ∷ []) ≡ with_place (test x.body) (length xs) (places test 0 xs)
places-push test xs x =
    let e : 0 + length xs ≡ length xs = omega arith in
    places-append test 0 xs x ∙ ap (λ (k : ℕ). with_place (test x.body) k (places test 0 xs)) e

option_or-none : {A : Type 0} (o : Option A) → option_or o None ≡ o
option_or-none None = refl
option_or-none (Some x) = refl

option_or-assoc : {A : Type 0} (o p q : Option A) → option_or o (option_or p q) ≡ option_or (option_or o p) q
option_or-assoc None p q = refl
option_or-assoc (Some x) p q = refl

init_value-append : (xs : List Item) (x : Item) (id : ℕ) → init_value (xs ++ x ∷ []) id ≡ option_or (init_value xs id) (init_for id x.body)
init_value-append [] x id = option_or-none (init_for id x.body)
init_value-append (y ∷ ys) x id =
    ap (option_or (init_for id y.body)) (init_value-append ys x id) ∙ option_or-assoc (init_for id y.body) (init_value ys id) (init_for id x.body)

next_value-append : (xs : List Item) (x : Item) (id : ℕ) → next_value (xs ++ x ∷ []) id ≡ option_or (next_value xs id) (next_for id x.body)
next_value-append [] x id = option_or-none (next_for id x.body)
next_value-append (y ∷ ys) x id =
    ap (option_or (next_for id y.body)) (next_value-append ys x id) ∙ option_or-assoc (next_for id y.body) (next_value ys id) (next_for id x.body)

-- where at most one of two is there, either may come first
order_of_choice : (id t v : ℕ) (o : ℕ → Option ℕ) → o t ≡ None → option_or (cond (nat_eq id t) (Some v) None) (o id) ≡ option_or (o id) (cond (nat_eq id t) (Some v) None)
order_of_choice id t v o none =
    ⊎_elim
    (λ same. let e : o id ≡ None = ap o same ∙ none in rw e (option_or-none (cond (nat_eq id t) (Some v) None)))
    (λ differs. rw (ne_eqb id t differs) (sym (option_or-none (o id))))
    (cases_eq id t)

init_first : (xs : List Item) (b : Body) (id : ℕ) → BodyIsAccepted xs b → option_or (init_for id b) (init_value xs id) ≡ option_or (init_value xs id) (init_for id b)
init_first xs (body.Init s t v) id h = order_of_choice id t v (init_value xs) h.7
init_first xs _ id h = sym (option_or-none (init_value xs id))

next_first : (xs : List Item) (b : Body) (id : ℕ) → BodyIsAccepted xs b → option_or (next_for id b) (next_value xs id) ≡ option_or (next_value xs id) (next_for id b)
next_first xs (body.Next s t v) id h = order_of_choice id t v (next_value xs) h.5
next_first xs _ id h = sym (option_or-none (next_value xs id))

-- the init lines with one more
pub init_value-push : (xs : List Item) (x : Item) (id : ℕ) → refusal xs x ≡ None → option_or (init_for id x.body) (init_value xs id) ≡ init_value (xs ++ x ∷ []) id
init_value-push xs x id h = init_first xs x.body id (IsAccepted-from_refusal xs x h).says ∙ sym (init_value-append xs x id)

-- the next lines with one more
pub next_value-push : (xs : List Item) (x : Item) (id : ℕ) → refusal xs x ≡ None → option_or (next_for id x.body) (next_value xs id) ≡ next_value (xs ++ x ∷ []) id
next_value-push xs x id h = next_first xs x.body id (IsAccepted-from_refusal xs x h).says ∙ sym (next_value-append xs x id)

-- The parts of a model once an item that is not refused was added.

pub items-added : (xs ys : List Item) (x : Item) → IsWellFormed xs → refusal xs x ≡ None → ys ≡ xs ++ x ∷ [] → IsWellFormed ys
items-added xs ys x h r e = subst IsWellFormed (sym e) (IsWellFormed-push xs x h r)

HaveSoundParts-push : (xs : List Item) (x : Item) → HaveSoundParts xs → HasSoundParts x → HaveSoundParts (xs ++ x ∷ [])
HaveSoundParts-push [] x each own = (own, tt)
HaveSoundParts-push (y ∷ ys) x each own = (each.0, HaveSoundParts-push ys x each.1 own)

pub parts-added : (xs ys : List Item) (x : Item) → HaveSoundParts xs → HasSoundParts x → ys ≡ xs ++ x ∷ [] → HaveSoundParts ys
parts-added xs ys x each own e = subst HaveSoundParts (sym e) (HaveSoundParts-push xs x each own)

pub elsewhere-added : (xs ys : List Item) (x : Item) (place : ℕ) (old new : ℕ → Option ℕ) → IsWellFormed xs → refusal xs x ≡ None → ys ≡ xs ++ x ∷ [] → place ≡ length xs
    → ((id : ℕ) → old id ≡ position_elsewhere xs id) → ((id : ℕ) → new id ≡ cond (not (nat_eq (x.id - 1) place) && nat_eq id x.id) (Some place) (old id))
    → (id : ℕ) → new id ≡ position_elsewhere ys id
elsewhere-added xs ys x place old new h r e at before after id =
    after id ∙ ap (cond (not (nat_eq (x.id - 1) place) && nat_eq id x.id) (Some place)) (before id)
    ∙ ap (λ (k : ℕ). cond (not (nat_eq (x.id - 1) k) && nat_eq id x.id) (Some k) (position_elsewhere xs id)) at
    ∙ elsewhere-push xs x id h r ∙ ap (λ (l : List Item). position_elsewhere l id) (sym e)

pub places-added : (test : Body → Bool) (xs ys : List Item) (x : Item) (place : ℕ) (old new : List ℕ) → ys ≡ xs ++ x ∷ [] → place ≡ length xs → old ≡ places test 0 xs
    → new ≡ with_place (test x.body) place old → new ≡ places test 0 ys
places-added test xs ys x place old new e at before after =
    after ∙ ap (λ (k : ℕ). with_place (test x.body) k old) at ∙ ap (with_place (test x.body) (length xs)) before ∙ sym (places-push test xs x) ∙ ap (places test 0) (sym e)

pub inits-added : (xs ys : List Item) (x : Item) (old new : ℕ → Option ℕ) → refusal xs x ≡ None → ys ≡ xs ++ x ∷ [] → ((id : ℕ) → old id ≡ init_value xs id)
    → ((id : ℕ) → new id ≡ option_or (init_for id x.body) (old id)) → (id : ℕ) → new id ≡ init_value ys id
inits-added xs ys x old new r e before after id =
    after id ∙ ap (option_or (init_for id x.body)) (before id) ∙ init_value-push xs x id r ∙ ap (λ (l : List Item). init_value l id) (sym e)

pub nexts-added : (xs ys : List Item) (x : Item) (old new : ℕ → Option ℕ) → refusal xs x ≡ None → ys ≡ xs ++ x ∷ [] → ((id : ℕ) → old id ≡ next_value xs id)
    → ((id : ℕ) → new id ≡ option_or (next_for id x.body) (old id)) → (id : ℕ) → new id ≡ next_value ys id
nexts-added xs ys x old new r e before after id =
    after id ∙ ap (option_or (next_for id x.body)) (before id) ∙ next_value-push xs x id r ∙ ap (λ (l : List Item). next_value l id) (sym e)
