-- Of a fitted list no state has an init line and no next line where none of the list itself has.
use Rattle.std.proofs.Common.{◌≡◌, ℕ, Bool, true, false, true≢false, cond, not, ◌&&◌, ◌||◌, List, [], ◌∷◌, map, Option, Some, None, is_some, is_none, refl, sym, ap, ap₂, subst, ◌∙◌}
use Rattle.std.specs.List.{AllByRecursion}
use Rattle.std.proofs.lemmas.Option.{none-some}
use Rattle.btor2.specs.declared.item.Item.{Item}
use Rattle.btor2.specs.Items.{names_state, is_input, is_state, is_free, init_value, next_value}
use Rattle.btor2.specs.Check.{IsWellFormed}
use Rattle.btor2.specs.Lists.{has_init_without_next, first_init_without_next}
use Rattle.btor2.proofs.IdLemmas.{ids_named, input_is_no_state}
use Rattle.fit.specs.Fitting.{Layout, is_given, given_ids, next_pieces, NextIsByPieces}
use Rattle.fit.proofs.ListLemmas.{all_with, all_both, all_pieces, from_pieces, of_ids, to_ids}
use Rattle.fitting.specs.Models.{state_ids, IsFit}
use Rattle.fitting.proofs.AssemblyLemmas.{not_state_free}

-- ---- where none is found

abbrev pub HasNo : List Item → ℕ → Type 0
HasNo items id = has_init_without_next items id ≡ false

pub none_found : (items xs : List Item) → first_init_without_next items xs ≡ None → AllByRecursion (λ (x : Item). is_state x.body ≡ true → HasNo items x.id) xs
none_found items [] h = tt
none_found items (x ∷ xs) h = by (is_state x.body) (has_init_without_next items x.id) refl refl h (none_found items xs)
  where
    by : (s l : Bool) → is_state x.body ≡ s → has_init_without_next items x.id ≡ l → cond (s && l) (Some x.id) (first_init_without_next items xs) ≡ None
        → (first_init_without_next items xs ≡ None → AllByRecursion (λ (y : Item). is_state y.body ≡ true → HasNo items y.id) xs)
        → (is_state x.body ≡ true → HasNo items x.id) × AllByRecursion (λ (y : Item). is_state y.body ≡ true → HasNo items y.id) xs
    by true true in_s in_l h rest = absurd (none-some x.id (sym h))
    by true false in_s in_l h rest = (λ is. in_l, rest h)
    by false l in_s in_l h rest = (λ is. absurd (true≢false (sym is ∙ in_s)), rest h)

pub finds_none : (items xs : List Item) → AllByRecursion (λ (x : Item). is_state x.body ≡ true → HasNo items x.id) xs → first_init_without_next items xs ≡ None
finds_none items [] h = refl
finds_none items (x ∷ xs) h = by (is_state x.body) refl (finds_none items xs h.1)
  where
    by : (s : Bool) → is_state x.body ≡ s → first_init_without_next items xs ≡ None → cond (s && has_init_without_next items x.id) (Some x.id) (first_init_without_next items xs) ≡ None
    by true in_s rest = rw (h.0 in_s) rest
    by false in_s rest = rest

-- ---- free nodes, and nodes with a next line

by_both : (o p : Option ℕ) → (is_none o && is_none p) ≡ true → (is_some o && is_none p) ≡ false
by_both None p h = refl
by_both (Some v) p h = absurd (cc)

free_has_no : (items : List Item) (id : ℕ) → is_free items id ≡ true → HasNo items id
free_has_no items id h = by_both (init_value items id) (next_value items id) h

by_next : (o p : Option ℕ) → is_none p ≡ false → (is_some o && is_none p) ≡ false
by_next None p h = refl
by_next (Some v) p h = h

pub next_has_no : (items : List Item) (id : ℕ) → is_none (next_value items id) ≡ false → HasNo items id
next_has_no items id h = by_next (init_value items id) (next_value items id) h

head_of : List (Option ℕ) → Option ℕ
head_of [] = None
head_of (x ∷ xs) = x

tail_of : List (Option ℕ) → List (Option ℕ)
tail_of [] = []
tail_of (x ∷ xs) = xs

pub have_nexts : (items : List Item) (ps qs : List ℕ) → map (next_value items) ps ≡ map (λ q. Some q) qs → AllByRecursion (λ p. is_none (next_value items p) ≡ false) ps
unfolding head_of tail_of
have_nexts items [] qs e = tt
have_nexts items (p ∷ ps) [] e = absurd (cc)
have_nexts items (p ∷ ps) (q ∷ qs) e = (ap is_none (ap head_of e), have_nexts items ps qs (ap tail_of e))

-- a carried state of which nothing is lacking has a next line
carried_has_next : (o p : Option ℕ) → (is_none o && is_none p) ≡ false → (is_some o && is_none p) ≡ false → is_none p ≡ false
carried_has_next None p h k = h
carried_has_next (Some v) p h k = k

-- ---- pieces

carried_pieces : (wide narrow : List Item) (layout : Layout) (id : ℕ) → is_free wide id ≡ false → HasNo wide id → NextIsByPieces wide layout narrow id → AllByRecursion (HasNo narrow) (layout id)
carried_pieces wide narrow layout id carried has next = by (next_value wide id) (carried_has_next (init_value wide id) (next_value wide id) carried has) next
  where
    by : (o : Option ℕ) → is_none o ≡ false → map (next_value narrow) (layout id) ≡ next_pieces layout o (layout id) → AllByRecursion (HasNo narrow) (layout id)
    by None is e = absurd (cc)
    by (Some v) is e = all_with (λ p. is_none (next_value narrow p) ≡ false) (HasNo narrow) (layout id) (λ p own. next_has_no narrow p own) (have_nexts narrow (layout id) (layout v) e)

-- what is given is free
given_free : (items : List Item) → IsWellFormed items → AllByRecursion (λ id. is_free items id ≡ true) (given_ids items)
given_free items w =
    to_ids (λ id. is_free items id ≡ true) (is_given items) items
    (all_with (λ (x : Item). is_input x.body ≡ true → names_state items x.id ≡ false) (λ (x : Item). is_given items x ≡ true → is_free items x.id ≡ true) items
    (λ x none is. by x (is_input x.body) (is_state x.body) (is_free items x.id) refl refl none is) (ids_named items (λ (x : Item). is_input x.body) false w (λ x is. input_is_no_state x.body is)))
  where
    by : (x : Item) (i s f : Bool) → is_input x.body ≡ i → is_free items x.id ≡ f → (is_input x.body ≡ true → names_state items x.id ≡ false) → (i || (s && f)) ≡ true → is_free items x.id ≡ true
    by x true s f in_i in_f none is = not_state_free items x.id w (none in_i)
    by x false true f in_i in_f none is = in_f ∙ is
    by x false false f in_i in_f none is = absurd (cc)

state_pieces : (wide narrow : List Item) (layout : Layout) (x : Item) → (is_given wide x ≡ true → AllByRecursion (λ p. is_free narrow p ≡ true) (layout x.id)) → ((is_state x.body && not (is_free wide x.id)) ≡ true → NextIsByPieces wide layout narrow x.id)
    → (is_state x.body ≡ true → HasNo wide x.id) → is_state x.body ≡ true → AllByRecursion (HasNo narrow) (layout x.id)
state_pieces wide narrow layout x given carried has is = by (is_free wide x.id) refl
  where
    either : (i : Bool) → (i || true) ≡ true
    either true = refl
    either false = refl

    by : (f : Bool) → is_free wide x.id ≡ f → AllByRecursion (HasNo narrow) (layout x.id)
    by true free =
        all_with (λ p. is_free narrow p ≡ true) (HasNo narrow) (layout x.id) (λ p own. free_has_no narrow p own)
        (given (ap₂ (λ (s f : Bool). is_input x.body || (s && f)) is free ∙ either (is_input x.body)))
    by false free = carried_pieces wide narrow layout x.id free (has is) (carried (ap₂ (λ (s f : Bool). s && not f) is free))

pub nothing_lacks : (wide narrow : List Item) → IsFit wide narrow → first_init_without_next wide wide ≡ None → first_init_without_next narrow narrow ≡ None
nothing_lacks wide narrow fit none =
    let layout = fit.layout in
    let free = of_ids (λ id. AllByRecursion (λ p. is_free narrow p ≡ true) (layout id)) (is_given wide) wide
    (all_pieces (λ p. is_free narrow p ≡ true) layout (given_ids wide) (subst (AllByRecursion (λ p. is_free narrow p ≡ true)) (sym fit.fits.given) (given_free narrow fit.well_formed))) in
    let nexts = of_ids (NextIsByPieces wide layout narrow) (λ x. is_state x.body && not (is_free wide x.id)) wide fit.nexts in
    let pieces = to_ids (λ id. AllByRecursion (HasNo narrow) (layout id)) (λ x. is_state x.body) wide
    (all_with (λ (x : Item). (is_given wide x ≡ true → AllByRecursion (λ p. is_free narrow p ≡ true) (layout x.id)) × (((is_state x.body && not (is_free wide x.id)) ≡ true → NextIsByPieces wide layout narrow x.id) × (is_state x.body ≡ true → HasNo wide x.id)))
    (λ (x : Item). is_state x.body ≡ true → AllByRecursion (HasNo narrow) (layout x.id)) wide (λ x all is. state_pieces wide narrow layout x all.0 all.1.0 all.1.1 is)
    (all_both (λ (x : Item). is_given wide x ≡ true → AllByRecursion (λ p. is_free narrow p ≡ true) (layout x.id)) (λ (x : Item). ((is_state x.body && not (is_free wide x.id)) ≡ true → NextIsByPieces wide layout narrow x.id) × (is_state x.body ≡ true → HasNo wide x.id)) wide free
    (all_both (λ (x : Item). (is_state x.body && not (is_free wide x.id)) ≡ true → NextIsByPieces wide layout narrow x.id) (λ (x : Item). is_state x.body ≡ true → HasNo wide x.id) wide nexts (none_found wide wide none)))) in
    finds_none narrow narrow (of_ids (HasNo narrow) (λ x. is_state x.body) narrow (subst (AllByRecursion (HasNo narrow)) fit.states (from_pieces (HasNo narrow) layout (state_ids wide) pieces)))
