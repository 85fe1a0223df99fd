-- The properties of a model, and the slots of the nodes that they name.
use Rattle.std.proofs.Common.{◌≡◌, ℕ, ◌<◌, Bool, true, false, cond, List, length, map, get_or, slice_get, Option, Some, None, is_some, option_and_then, unwrap_or, refl, sym, ap, subst, ◌∙◌, arith}
use Rattle.std.proofs.lemmas.Bool.{false≢true}
use Rattle.std.proofs.lemmas.List.{length-map, get_or-map, ext_get_or}
use Rattle.btor2.specs.declared.item.Item.{Item}
use Rattle.btor2.specs.declared.item.Body.{Body}
use Rattle.btor2.specs.declared.item.Body.TheVariants as body
use Rattle.btor2.specs.Items.{is_bad, is_constraint}
use Rattle.btor2.specs.Lists.{places, of_kind}
use Rattle.btor2.proofs.AppendLemmas.{some_of, then_parts}
use Rattle.runs.specs.Run.{is_property, property_id, property_at}
use Rattle.runs.specs.Nodes.{slot, property_slot}
use Rattle.runs.proofs.RankLemmas.{nth, length-places}
use Rattle.runs.proofs.PlaceLemmas.{place_inside, map_read}
use Rattle.runs.proofs.StateLemmas.{nth-get}

-- what a place with a property has
property_found : (items : List Item) (place : ℕ) (x : Item) → slice_get items place ≡ Some x → is_property x.body ≡ true → property_at items place ≡ Some (property_id x.body)
property_found items place x at is =
    ap (option_and_then (λ (y : Item). cond (is_property y.body) (Some (property_id y.body)) None)) at ∙ ap (λ (b : Bool). cond b (Some (property_id x.body)) None) is

pub property_inside : (items : List Item) (place : ℕ) → is_some (property_at items place) ≡ true → place < length items
property_inside items place there =
    let named = some_of (property_at items place) there in
    let parts = then_parts (λ (y : Item). cond (is_property y.body) (Some (property_id y.body)) None) (slice_get items place) named.0 named.1 in
    place_inside items place parts.0 parts.1

pub property_stands : (items : List Item) (place : ℕ) (x : Item) → slice_get items place ≡ Some x → is_some (property_at items place) ≡ true → is_property x.body ≡ true
property_stands items place x at there =
    by (is_property x.body) (subst (λ (o : Option Item). is_some (option_and_then (λ (y : Item). cond (is_property y.body) (Some (property_id y.body)) None) o) ≡ true) at there)
  where
    by : (b : Bool) → is_some (cond b (Some (property_id x.body)) None) ≡ true → b ≡ true
    by true h = refl
    by false h = absurd (false≢true h)

-- it is a bad property or a constraint
pub property_cases : (b : Body) → is_property b ≡ true → ((a : ℕ) → b ≡ body.Bad a → ⊥) → ((a : ℕ) → b ≡ body.Constraint a → ⊥) → ⊥
property_cases (body.Bad a) is no_bad no_constraint = no_bad a refl
property_cases (body.Constraint a) is no_bad no_constraint = no_constraint a refl
property_cases _ is no_bad no_constraint = absurd (cc)

-- and names the node that the line does
pub slot_of_property : (items : List Item) (place : ℕ) (x : Item) (b : Body) → slice_get items place ≡ Some x → x.body ≡ b → is_property b ≡ true → slot items (property_id b) ≡ property_slot items place
slot_of_property items place x b at own is =
    ap (λ (c : Body). slot items (property_id c)) (sym own) ∙ sym (ap (λ (o : Option ℕ). slot items (unwrap_or o 0)) (property_found items place x at (ap is_property own ∙ is)))

-- The properties of a kind.

pub bad_is_property : (b : Body) → is_bad b ≡ true → is_property b ≡ true
bad_is_property (body.Bad a) is = refl
bad_is_property _ is = absurd (cc)

pub constraint_is_property : (b : Body) → is_constraint b ≡ true → is_property b ≡ true
constraint_is_property (body.Constraint a) is = refl
constraint_is_property _ is = absurd (cc)

pub properties_there : (test : Body → Bool) (items : List Item) (list : List ℕ) → ((b : Body) → test b ≡ true → is_property b ≡ true) → list ≡ places test 0 items
    → (k : ℕ) → k < length list → is_some (property_at items (get_or list k 0)) ≡ true
properties_there test items list all e k h =
    let there = nth test items k (omega (arith, ap length e, length-places test 0 items)) in
    ap (λ (l : List ℕ). is_some (property_at items (get_or l k 0))) e
    ∙ ap (λ (o : Option ℕ). is_some o) (property_found items (get_or (places test 0 items) k 0) there.0 (nth-get test items k there.0 there.1) (all there.0.body there.1.is))

pub properties_slots : (test : Body → Bool) (items : List Item) (list : List ℕ) → ((b : Body) → test b ≡ true → is_property b ≡ true) → list ≡ places test 0 items
    → map (property_slot items) list ≡ map (λ x. slot items (property_id x.body)) (of_kind test items)
properties_slots test items list all e =
    rw e (ext_get_or 0 (map (property_slot items) (places test 0 items)) (map (λ (x : Item). slot items (property_id x.body)) (of_kind test items))
    (length-map (places test 0 items) (property_slot items) ∙ length-places test 0 items ∙ sym (length-map (of_kind test items) (λ (x : Item). slot items (property_id x.body))))
    (λ k h.
    let inside : k < length (places test 0 items) = omega (arith, length-map (places test 0 items) (property_slot items)) in
    let there = nth test items k (omega (arith, length-places test 0 items)) in
    get_or-map (property_slot items) (places test 0 items) k 0 0 inside
    ∙ ap (λ (o : Option ℕ). slot items (unwrap_or o 0)) (property_found items (get_or (places test 0 items) k 0) there.0 (nth-get test items k there.0 there.1) (all there.0.body there.1.is))
    ∙ sym (map_read (λ (x : Item). slot items (property_id x.body)) (of_kind test items) k there.0 there.1.stands)))
