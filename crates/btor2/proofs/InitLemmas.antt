-- Words that fit, and that the init lines of a model ask for.
use Rattle.std.proofs.Common.{◌≡◌, ℕ, ◌<◌, ◌^◌, ◌&&◌, Bool, false, cond, eq-eqb, List, [], ◌∷◌, ◌++◌, Option, Some, None, is_none, unwrap_or, append_assoc, refl, sym, ap, subst, ◌∙◌}
use Rattle.std.specs.Option.{option_or}
use Rattle.std.proofs.lemmas.Option.{same_Some}
use Rattle.std.specs.List.{AllByRecursion}
use Rattle.btor2.specs.declared.item.Item.{Item}
use Rattle.btor2.specs.declared.item.Body.{Body}
use Rattle.btor2.specs.declared.item.Body.TheVariants as body
use Rattle.btor2.specs.Items.{constant_of, init_for, init_value, next_value, init_word, is_free}
use Rattle.btor2.specs.Check.{IsWellFormed}
use Rattle.btor2.specs.Trace.{Frame, bits_of, InputFits, StateFits, InitHolds}
use Rattle.btor2.proofs.AppendLemmas.{then_parts}
use Rattle.btor2.proofs.AcceptedLemmas.{BodyIsAccepted}
use Rattle.btor2.proofs.ModelLemmas.{IsIn, IsAccepted-at, IsInitOf-from_value}
use Rattle.btor2.proofs.ConstantLemmas.{constant_below, inits_say, init_value-after}

-- ---- words that fit

pub fitting_inputs : (items : List Item) (f : Frame) → ((id : ℕ) → f id < 2 ^ bits_of items id) → (xs : List Item) → AllByRecursion (λ (x : Item). InputFits items f x.id x.body) xs
fitting_inputs items f fits [] = tt
fitting_inputs items f fits (x ∷ xs) = (by x.id x.body, fitting_inputs items f fits xs)
  where
    by : (id : ℕ) (b : Body) → InputFits items f id b
    by id (body.Input s) = fits id
    by id (body.State s) = λ free. fits id
    by id _ = tt

pub fitting_states : (items : List Item) (f : Frame) → ((id : ℕ) → f id < 2 ^ bits_of items id) → (xs : List Item) → AllByRecursion (λ (x : Item). StateFits items f x.id x.body) xs
fitting_states items f fits [] = tt
fitting_states items f fits (x ∷ xs) = (by x.id x.body, fitting_states items f fits xs)
  where
    by : (id : ℕ) (b : Body) → StateFits items f id b
    by id (body.State s) = λ carried. fits id
    by id _ = tt

-- the word that a state begins with fits
pub init_word_below : (items : List Item) (id c : ℕ) → IsWellFormed items → init_word items id ≡ Some c → c < 2 ^ bits_of items id
init_word_below items id c w e =
    let parts = then_parts (constant_of items) (init_value items id) c e in
    let of = IsInitOf-from_value items id parts.0 w parts.1 in
    let wide : bits_of items parts.0 ≡ bits_of items id = ap (λ (o : Option ℕ). unwrap_or o 0) (of.of_value ∙ sym of.of_state) in
    subst (λ (n : ℕ). c < 2 ^ n) wide (constant_below items parts.0 c w parts.2)

-- ---- what init lines ask for

-- where they hold, a state with an init line has its word
pub init_words_say : (items : List Item) (state : Frame) → AllByRecursion (λ (x : Item). InitHolds items state x.body) items → (id k : ℕ) → init_word items id ≡ Some k → k ≡ state id
init_words_say items state h id k e =
    let parts = then_parts (constant_of items) (init_value items id) k e in
    same_Some k (state id) (sym parts.2 ∙ inits_say items items state id parts.0 h parts.1)

init_line_holds : (items : List Item) (state : Frame) → IsWellFormed items → ((t v : ℕ) → init_value items t ≡ Some v → constant_of items v ≡ Some (state t))
    → (x : Item) → IsIn items x → InitHolds items state x.body
init_line_holds items state w says x at = by x.body refl
  where
    by : (b : Body) → x.body ≡ b → InitHolds items state b
    by (body.Init s t v) e =
        let accepted = subst (BodyIsAccepted at.before) e (IsAccepted-at items x w at).says in
        let own : init_value (x ∷ at.after) t ≡ Some v = ap (λ (b : Body). option_or (init_for t b) (init_value at.after t)) e ∙ ap (λ (b : Bool). option_or (cond b (Some v) None) (init_value at.after t)) (eq-eqb t t refl) in
        says t v (ap (λ (l : List Item). init_value l t) at.splits ∙ init_value-after at.before (x ∷ at.after) t accepted.7 ∙ own)
    by _ e = tt

inits_from : (items : List Item) (state : Frame) → ((x : Item) → IsIn items x → InitHolds items state x.body) → (front xs : List Item) → items ≡ front ++ xs → AllByRecursion (λ (x : Item). InitHolds items state x.body) xs
inits_from items state holds front [] e = tt
inits_from items state holds front (x ∷ xs) e =
    (holds x (record { before = front; after = xs; splits = e }), inits_from items state holds (front ++ x ∷ []) xs (e ∙ sym (append_assoc front (x ∷ []) xs)))

-- they hold where each state with one has its word
pub inits_hold : (items : List Item) (state : Frame) → IsWellFormed items → ((t v : ℕ) → init_value items t ≡ Some v → constant_of items v ≡ Some (state t)) → AllByRecursion (λ (x : Item). InitHolds items state x.body) items
inits_hold items state w says = inits_from items state (init_line_holds items state w says) [] items refl

-- a state with an init line is not free
pub init_not_free : (items : List Item) (id v : ℕ) → init_value items id ≡ Some v → is_free items id ≡ false
init_not_free items id v e = ap (λ (o : Option ℕ). is_none o && is_none (next_value items id)) e
