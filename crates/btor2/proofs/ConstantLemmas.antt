-- The words of constant nodes fit their widths, and what the init lines of a model say of a state.
use Rattle.std.proofs.Common.{◌≡◌, ℕ, ◌<◌, ◌^◌, Bool, true, false, cond, nat_eq, eqb-true, List, [], ◌∷◌, ◌++◌, Option, Some, None, option_and_then, unwrap_or, refl, sym, ap, subst, ◌∙◌, pow_pos}
use Rattle.std.specs.Option.{option_or}
use Rattle.std.proofs.lemmas.Option.{none-some, same_Some}
use Rattle.std.specs.List.{AllByRecursion}
use Rattle.btor2.specs.declared.item.Item.{Item}
use Rattle.btor2.specs.declared.item.Body.{Body}
use Rattle.btor2.specs.declared.item.Body.TheVariants as body
use Rattle.btor2.specs.Items.{find_item, width_of_body, node_width, constant_word, constant_of_body, constant_of, init_for, init_value}
use Rattle.btor2.specs.Check.{IsWellFormed}
use Rattle.btor2.specs.Trace.{Frame, bits_of, LineHolds, StateFits, InputFits, InitHolds}
use Rattle.btor2.proofs.AppendLemmas.{then_parts, is_some_from}
use Rattle.btor2.proofs.ModelLemmas.{IsIn-from_find, find_item-in}
use Rattle.btor2.proofs.TraceLemmas.{line_among, frame_exists, words_fit_frame}

-- the word 0 fits everywhere
zero_state : (items : List Item) (id : ℕ) (b : Body) → StateFits items (λ id. 0) id b
zero_state items id (body.State s) = λ carried. pow_pos (bits_of items id)
zero_state items id _ = tt

zero_input : (items : List Item) (id : ℕ) (b : Body) → InputFits items (λ id. 0) id b
zero_input items id (body.Input s) = pow_pos (bits_of items id)
zero_input items id (body.State s) = λ free. pow_pos (bits_of items id)
zero_input items id _ = tt

zero_states : (items xs : List Item) → AllByRecursion (λ (x : Item). StateFits items (λ id. 0) x.id x.body) xs
zero_states items [] = tt
zero_states items (x ∷ xs) = (zero_state items x.id x.body, zero_states items xs)

zero_inputs : (items xs : List Item) → AllByRecursion (λ (x : Item). InputFits items (λ id. 0) x.id x.body) xs
zero_inputs items [] = tt
zero_inputs items (x ∷ xs) = (zero_input items x.id x.body, zero_inputs items xs)

-- in a frame a constant's node has its word
constant_in_frame : (items : List Item) (state input f : Frame) (id word : ℕ) (b : Body) → constant_word (bits_of items id) b ≡ Some word → LineHolds items state input f id b → f id ≡ word
constant_in_frame items state input f id word (body.Zero s) e h = h ∙ same_Some 0 word e
constant_in_frame items state input f id word (body.One s) e h = h ∙ same_Some 1 word e
constant_in_frame items state input f id word (body.Ones s) e h = h ∙ same_Some _ word e
constant_in_frame items state input f id word (body.Const s d v) e h = h ∙ same_Some v word e
constant_in_frame items state input f id word (body.Constd s v) e h = h ∙ same_Some _ word e
constant_in_frame items state input f id word (body.Consth s d v) e h = h ∙ same_Some v word e
constant_in_frame items state input f id word _ e h = absurd (none-some word e)

-- the word of a constant node fits its width
pub constant_below : (items : List Item) (id word : ℕ) → IsWellFormed items → constant_of items id ≡ Some word → word < 2 ^ bits_of items id
constant_below items id word w e =
    let parts = then_parts (λ (x : Item). constant_of_body items x.body) (find_item items id) word e in
    let y = parts.0 in
    let width = then_parts (λ (n : ℕ). constant_word n y.body) (width_of_body items y.body) word parts.2 in
    let at = IsIn-from_find items id y parts.1 in
    let wide : node_width items y.id ≡ Some width.0 = ap (option_and_then (λ (x : Item). width_of_body items x.body)) (find_item-in items y w at.0) ∙ width.1 in
    let own : bits_of items y.id ≡ width.0 = ap (λ (o : Option ℕ). unwrap_or o 0) wide in
    let some = frame_exists items (λ id. 0) (λ id. 0) w in
    let line = line_among items (λ id. 0) (λ id. 0) some.0 at.0.before at.0.after y (subst (AllByRecursion (λ (x : Item). LineHolds items (λ id. 0) (λ id. 0) some.0 x.id x.body)) at.0.splits some.1) in
    let is = constant_in_frame items (λ id. 0) (λ id. 0) some.0 y.id word y.body (subst (λ (n : ℕ). constant_word n y.body ≡ Some word) (sym own) width.2) line in
    let below = words_fit_frame items (λ id. 0) (λ id. 0) some.0 w (zero_states items items) (zero_inputs items items) some.1 y.id (is_some_from (node_width items y.id) width.0 wide) in
    subst (λ (n : ℕ). word < 2 ^ bits_of items n) (sym at.1) (subst (λ (n : ℕ). n < 2 ^ bits_of items y.id) is below)

-- the init line of a state gives it its word
init_among : (items xs : List Item) (state : Frame) (id v : ℕ) (b : Body) → InitHolds items state b → (init_value xs id ≡ Some v → constant_of items v ≡ Some (state id))
    → option_or (init_for id b) (init_value xs id) ≡ Some v → constant_of items v ≡ Some (state id)
init_among items xs state id v (body.Init s t u) h rest e =
    by (nat_eq id t) refl e
  where
    by : (b : Bool) → nat_eq id t ≡ b → option_or (cond b (Some u) None) (init_value xs id) ≡ Some v → constant_of items v ≡ Some (state id)
    by true test e = subst (λ (n : ℕ). constant_of items n ≡ Some (state id)) (same_Some u v e) (subst (λ (n : ℕ). constant_of items u ≡ Some (state n)) (sym (eqb-true id t test)) h)
    by false test e = rest e
init_among items xs state id v _ h rest e = rest e

pub inits_say : (items xs : List Item) (state : Frame) (id v : ℕ) → AllByRecursion (λ (x : Item). InitHolds items state x.body) xs → init_value xs id ≡ Some v → constant_of items v ≡ Some (state id)
inits_say items [] state id v h e = absurd (none-some v e)
inits_say items (x ∷ xs) state id v h e = init_among items xs state id v x.body h.0 (inits_say items xs state id v h.1) e

-- the init line that stands behind lines which are none of the state is its init line
pub init_value-after : (before more : List Item) (id : ℕ) → init_value before id ≡ None → init_value (before ++ more) id ≡ init_value more id
init_value-after [] more id h = refl
init_value-after (x ∷ xs) more id h = by (init_for id x.body) (init_value-after xs more id) h
  where
    by : (o : Option ℕ) → (init_value xs id ≡ None → init_value (xs ++ more) id ≡ init_value more id) → option_or o (init_value xs id) ≡ None → option_or o (init_value (xs ++ more) id) ≡ init_value more id
    by None rest e = rest e
    by (Some v) rest e = absurd (none-some v (sym e))
