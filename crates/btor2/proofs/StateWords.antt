-- The word of a state in a frame.
use Rattle.std.proofs.Common.{◌≡◌, ℕ, Bool, true, false, ◌&&◌, cond, List, Option, Some, None, is_some, is_none, option_and_then, refl, sym, ap, subst, ◌∙◌}
use Rattle.std.specs.List.{AllByRecursion}
use Rattle.btor2.specs.declared.item.Item.{Item}
use Rattle.btor2.specs.declared.item.Body.{Body}
use Rattle.btor2.specs.declared.item.Body.TheVariants as body
use Rattle.btor2.specs.Items.{find_item, is_state, names_state, init_value, next_value, is_free}
use Rattle.btor2.specs.Trace.{Frame, state_word, LineHolds, IsFrame}
use Rattle.btor2.proofs.ModelLemmas.{IsIn-from_find}
use Rattle.btor2.proofs.TraceLemmas.{line_among}

-- what is named as a state is found, and is one
state_found : (o : Option Item) → is_some (option_and_then (λ (x : Item). cond (is_state x.body) (Some x) None) o) ≡ true → (y : Item) × (o ≡ Some y) × (is_state y.body ≡ true)
state_found None h = absurd (cc)
state_found (Some y) h = (y, refl, by_kind (is_state y.body) h)
  where
    by_kind : (b : Bool) → is_some (cond b (Some y) None) ≡ true → b ≡ true
    by_kind true h = refl
    by_kind false h = absurd (cc)

state_line : (items : List Item) (state input f : Frame) (id : ℕ) (b : Body) → is_state b ≡ true → LineHolds items state input f id b → f id ≡ state_word items state input id
state_line items state input f id (body.State s) is h = h
state_line items state input f id _ is h = absurd (cc)

-- in a frame a state has the word that is carried or the one that is given, as it is free or not
pub state_has_word : (items : List Item) (state input f : Frame) (id : ℕ) → IsFrame items state input f → names_state items id ≡ true → f id ≡ state_word items state input id
state_has_word items state input f id h named =
    let there = state_found (find_item items id) named in
    let at = IsIn-from_find items id there.0 there.1 in
    let line = line_among items state input f at.0.before at.0.after there.0 (subst (AllByRecursion (λ (x : Item). LineHolds items state input f x.id x.body)) at.0.splits h) in
    subst (λ (k : ℕ). f k ≡ state_word items state input k) (sym at.1) (state_line items state input f there.0.id there.0.body there.2 line)

pub carried_word : (items : List Item) (state input f : Frame) (id : ℕ) → IsFrame items state input f → names_state items id ≡ true → is_free items id ≡ false → f id ≡ state id
carried_word items state input f id h named carried = state_has_word items state input f id h named ∙ ap (λ (b : Bool). cond b (input id) (state id)) carried

pub free_word : (items : List Item) (state input f : Frame) (id : ℕ) → IsFrame items state input f → names_state items id ≡ true → is_free items id ≡ true → f id ≡ input id
free_word items state input f id h named free = state_has_word items state input f id h named ∙ ap (λ (b : Bool). cond b (input id) (state id)) free

-- a state with a next line is not free
pub not_free : (items : List Item) (id : ℕ) → is_some (next_value items id) ≡ true → is_free items id ≡ false
not_free items id has = by_next (next_value items id) has (is_none (init_value items id))
  where
    by_next : (o : Option ℕ) → is_some o ≡ true → (b : Bool) → (b && is_none o) ≡ false
    by_next (Some v) has true = refl
    by_next (Some v) has false = refl
    by_next None has b = absurd (cc)
