use Rattle.std.proofs.Common.{◌≡◌, ℕ, suc, Bool, true, false, cond, ◌||◌, List, [], ◌∷◌, map, filter, Some, slice_get, refl, ap₂}
use Rattle.std.specs.List.{list_any}
use Rattle.btor2.specs.declared.item.Item.{Item}
use Rattle.btor2.specs.Items.{is_state, is_free}
use Rattle.btor2.proofs.StateWords.{not_free}
use Rattle.witness.proofs.laws.no_later_states.Goals as goal

-- of items whose states are not free no state is
none_free_of : (items xs : List Item) → ((place : ℕ) (x : Item) → slice_get xs place ≡ Some x → is_state x.body ≡ true → is_free items x.id ≡ false)
    → list_any (λ b. b) (map (λ (x : Item). is_free items x.id) (filter (λ (x : Item). is_state x.body) xs)) ≡ false
none_free_of items [] none = refl
none_free_of items (x ∷ xs) none = by (is_state x.body) (none 0 x refl) (none_free_of items xs (λ place y at. none (suc place) y at))
  where
    rest : List Item
    rest = filter (λ (y : Item). is_state y.body) xs

    by : (b : Bool) → (b ≡ true → is_free items x.id ≡ false) → list_any (λ b. b) (map (λ (y : Item). is_free items y.id) rest) ≡ false
        → list_any (λ b. b) (map (λ (y : Item). is_free items y.id) (cond b (x ∷ rest) rest)) ≡ false
    by true free others = ap₂ (λ (l r : Bool). l || r) (free refl) others
    by false free others = others

pub returns-clause-none_free : goal.returns-clause-none_free
returns-clause-none_free c items h = none_free_of items items (λ place x at state. not_free items x.id (h place x at state))
