-- The first item that speaks against a model, found in one walk.
use Rattle.std.proofs.Common.{◌≡◌, ℕ, ◌+◌, ◌<◌, Bool, true, false, not, ◌&&◌, List, length, Option, Some, None, is_some, is_none, option_and_then, slice_get, get_or, take, drop, refl, sym, ap, subst, ◌∙◌}
use Rattle.std.specs.Option.{option_or}
use Rattle.std.proofs.lemmas.Option.{slice_get_within, get_or_from_slice_get}
use Rattle.std.proofs.lemmas.List.{drop_more}
use Rattle.btor2.specs.declared.item.Item.{Item}
use Rattle.btor2.specs.Items.{position_of, is_state, init_value, next_value}
use Rattle.btor2.specs.Check.{IsWellFormed}
use Rattle.btor2.specs.Lists.{places, next_place, is_free_at, has_init_without_next}
use Rattle.btor2.proofs.LeafLemmas.{free_at}
use Rattle.blast.specs.declared.fault.LowerFault.{LowerFault}
use Rattle.blast.specs.Refusal.{line_refusal, first_refusal}
use Rattle.blast.specs.Table.{next_leaf}
use Rattle.blast.proofs.KindRows.{next_place-at, next_there}
use Rattle.blast.proofs.NodeRows.{IsNextState, IsNextState-from_front}

-- from a place on
pub refusal_from : (items : List Item) (k : ℕ) (x : Item) → slice_get items k ≡ Some x → first_refusal items (drop k items) ≡ option_or (line_refusal items x.id x.body) (first_refusal items (drop (k + 1) items))
refusal_from items k x at =
    ap (first_refusal items) (drop_more items k x (slice_get_within items k x at))
    ∙ ap (λ (y : Item). option_or (line_refusal items y.id y.body) (first_refusal items (drop (k + 1) items))) (get_or_from_slice_get items k x x at)

pub refusal_here : (items : List Item) (k : ℕ) (x : Item) (o r : Option LowerFault) → slice_get items k ≡ Some x → o ≡ line_refusal items x.id x.body → first_refusal items (drop k items) ≡ r → is_some o ≡ true → o ≡ r
refusal_here items k x None r at is whole some = absurd (cc)
refusal_here items k x (Some e) r at is whole some = ap (λ (p : Option LowerFault). option_or p (first_refusal items (drop (k + 1) items))) is ∙ sym (refusal_from items k x at) ∙ whole

pub refusal_passed : (items : List Item) (k : ℕ) (x : Item) (o r : Option LowerFault) → slice_get items k ≡ Some x → o ≡ line_refusal items x.id x.body → first_refusal items (drop k items) ≡ r → is_some o ≡ false → first_refusal items (drop (k + 1) items) ≡ r
refusal_passed items k x None r at is whole none = ap (λ (p : Option LowerFault). option_or p (first_refusal items (drop (k + 1) items))) is ∙ sym (refusal_from items k x at) ∙ whole
refusal_passed items k x (Some e) r at is whole none = absurd (cc)

-- The state that so many stand before.

pub record IsState (items : List Item) (x : Item) (k : ℕ) : Type 0 where
  pub within : k < length (places is_state 0 items)
  pub at : slice_get items (get_or (places is_state 0 items) k 0) ≡ Some x

pub IsState-at : (items : List Item) (place : ℕ) (x : Item) (k : ℕ) → slice_get items place ≡ Some x → is_state x.body ≡ true → k ≡ length (places is_state 0 (take place items)) → IsState items x k
IsState-at items place x k at is e =
    let n : IsNextState items place k = subst (IsNextState items place) (sym e) (IsNextState-from_front items place x (next_leaf items (take place items)) at is refl) in
    record { within = n.within; at = ap (slice_get items) n.at ∙ at }

-- whether it has no next line, by the place of its value
no_next : (items : List Item) (id : ℕ) (o : Option ℕ) → IsWellFormed items → next_value items id ≡ o → is_none (option_and_then (position_of items) (next_value items id)) ≡ is_none o
no_next items id None w e = ap (λ (p : Option ℕ). is_none (option_and_then (position_of items) p)) e
no_next items id (Some v) w e =
    let there = next_there items id w (ap is_some e) in
    ap is_none there.1

pub next_missing : (items : List Item) (k : ℕ) (x : Item) (o : Option ℕ) → IsWellFormed items → slice_get items (get_or (places is_state 0 items) k 0) ≡ Some x → o ≡ next_place items (get_or (places is_state 0 items) k 0) → is_none o ≡ is_none (next_value items x.id)
next_missing items k x o w at e = ap is_none (e ∙ next_place-at items (get_or (places is_state 0 items) k 0) x at) ∙ no_next items x.id (next_value items x.id) w refl

-- a state that is not free and has no next line has an init line alone
pub lacks_next : (items : List Item) (k : ℕ) (x : Item) (b : Bool) → slice_get items (get_or (places is_state 0 items) k 0) ≡ Some x → b ≡ is_free_at items (get_or (places is_state 0 items) k 0)
    → (not b && is_none (next_value items x.id)) ≡ has_init_without_next items x.id
lacks_next items k x b at e = ap (λ (c : Bool). not c && is_none (next_value items x.id)) (e ∙ free_at items (get_or (places is_state 0 items) k 0) x at) ∙ by (init_value items x.id) (next_value items x.id)
  where
    by : (i n : Option ℕ) → (not (is_none i && is_none n) && is_none n) ≡ (is_some i && is_none n)
    by None None = refl
    by None (Some v) = refl
    by (Some u) None = refl
    by (Some u) (Some v) = refl
