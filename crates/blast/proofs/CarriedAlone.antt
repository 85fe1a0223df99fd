-- Models in which each state has a next line: no state is free.
use Rattle.std.proofs.Common.{◌≡◌, ℕ, suc, Bool, true, false, not, ◌&&◌, cond, List, [], ◌∷◌, ◌++◌, Some, slice_get, refl, sym, ap, ap₂, ◌∙◌, append-nil, arith, length}
use Rattle.btor2.specs.declared.item.Item.{Item}
use Rattle.btor2.specs.Items.{is_state, is_free, is_free_state, is_carried_state}
use Rattle.btor2.proofs.StateWords.{not_free}
use Rattle.blast.specs.Cost.{input_width, state_width, given_width, carried_width}
use Rattle.btor2.specs.Lists.{HaveNexts}
use Rattle.btor2.specs.Leaves.{kind_width}
use Rattle.blast.specs.Leaves.{by_body, given_by_kind, leaf_bits}
use Rattle.blast.proofs.NodeLemmas.{length-leaves}

-- kinds that are the same of some items give the same of them, and a kind that none is of gives nothing
of_kind-alike : {A : Type 0} (kind other : Item → Bool) (give : Item → List A) (xs : List Item) → ((place : ℕ) (x : Item) → slice_get xs place ≡ Some x → kind x ≡ other x) → given_by_kind kind give xs ≡ given_by_kind other give xs
of_kind-alike kind other give [] same = refl
of_kind-alike kind other give (x ∷ xs) same =
    ap₂ (λ (l r : List _). l ++ r) (ap (λ (b : Bool). cond b (give x) []) (same 0 x refl)) (of_kind-alike kind other give xs (λ place y at. same (suc place) y at))

of_kind-none : {A : Type 0} (kind : Item → Bool) (give : Item → List A) (xs : List Item) → ((place : ℕ) (x : Item) → slice_get xs place ≡ Some x → kind x ≡ false) → given_by_kind kind give xs ≡ []
of_kind-none kind give [] none = refl
of_kind-none kind give (x ∷ xs) none =
    ap₂ (λ (l r : List _). l ++ r) (ap (λ (b : Bool). cond b (give x) []) (none 0 x refl)) (of_kind-none kind give xs (λ place y at. none (suc place) y at))

-- no item is a free state, and each state is carried
none_free : (items : List Item) → HaveNexts items → (place : ℕ) (x : Item) → slice_get items place ≡ Some x → is_free_state items x ≡ false
none_free items h place x at = by (is_state x.body) (λ e. not_free items x.id (h place x at e))
  where
    by : (b : Bool) → (b ≡ true → is_free items x.id ≡ false) → (b && is_free items x.id) ≡ false
    by true carried = carried refl
    by false carried = refl

all_carried : (items : List Item) → HaveNexts items → (place : ℕ) (x : Item) → slice_get items place ≡ Some x → is_carried_state items x ≡ is_state x.body
all_carried items h place x at = by (is_state x.body) (λ e. not_free items x.id (h place x at e))
  where
    by : (b : Bool) → (b ≡ true → is_free items x.id ≡ false) → (b && not (is_free items x.id)) ≡ b
    by true carried = ap not (carried refl)
    by false carried = refl

pub given_alone : {A : Type 0} (items : List Item) (give : Item → List A) (front : List A) → HaveNexts items → front ++ given_by_kind (is_free_state items) give items ≡ front
given_alone items give front h = ap (λ (l : List _). front ++ l) (of_kind-none (is_free_state items) give items (none_free items h)) ∙ append-nil front

pub carried_alone : {A : Type 0} (items : List Item) (give : Item → List A) → HaveNexts items → given_by_kind (is_carried_state items) give items ≡ given_by_kind (by_body is_state) give items
carried_alone items give h = of_kind-alike (is_carried_state items) (by_body is_state) give items (all_carried items h)

-- the same of widths
width-alike : (items : List Item) (kind other : Item → Bool) (xs : List Item) → ((place : ℕ) (x : Item) → slice_get xs place ≡ Some x → kind x ≡ other x) → kind_width items kind xs ≡ kind_width items other xs
width-alike items kind other xs same = sym (length-leaves items kind (λ id. 0) xs) ∙ ap length (of_kind-alike kind other (leaf_bits items (λ id. 0)) xs same) ∙ length-leaves items other (λ id. 0) xs

width-none : (items : List Item) (kind : Item → Bool) (xs : List Item) → ((place : ℕ) (x : Item) → slice_get xs place ≡ Some x → kind x ≡ false) → kind_width items kind xs ≡ 0
width-none items kind xs none = sym (length-leaves items kind (λ id. 0) xs) ∙ ap length (of_kind-none kind (leaf_bits items (λ id. 0)) xs none)

pub given_width_alone : (items : List Item) → HaveNexts items → given_width items ≡ input_width items
given_width_alone items h = omega (arith, width-none items (is_free_state items) items (none_free items h))

pub carried_width_alone : (items : List Item) → HaveNexts items → carried_width items ≡ state_width items
carried_width_alone items h = width-alike items (is_carried_state items) (by_body is_state) items (all_carried items h)
