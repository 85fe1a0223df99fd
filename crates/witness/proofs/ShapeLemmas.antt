-- The widths of a model's states and inputs, by their places and by their ids.
use Rattle.std.proofs.Common.{◌≡◌, ℕ, zero, suc, ◌<◌, ◌≤◌, ◌^◌, Bool, true, false, cond, List, [], ◌∷◌, ◌++◌, length, map, filter, Option, Some, None, is_some, unwrap_or, option_and_then, slice_get, slice_index, IfSome, All, refl, sym, ap, ap₂, subst, ◌∙◌, append_assoc, length-append, arith, get_or}
use Rattle.std.proofs.lemmas.List.{length-map, get_or-map}
use Rattle.std.proofs.lemmas.List.Elements.{All-from_get_or}
use Rattle.btor2.specs.declared.item.Item.{Item}
use Rattle.btor2.specs.declared.item.Body.{Body}
use Rattle.btor2.specs.declared.item.Body.TheVariants as body
use Rattle.btor2.specs.Items.{width_of_body, is_state, is_input, is_free}
use Rattle.btor2.specs.Lists.{places, width_at, is_free_at, of_kind}
use Rattle.btor2.specs.Check.{IsWellFormed}
use Rattle.btor2.specs.Trace.{bits_of}
use Rattle.btor2.proofs.AppendLemmas.{is_some_from, width_of_body-append}
use Rattle.btor2.proofs.AcceptedLemmas.{BodyIsAccepted}
use Rattle.btor2.proofs.LeafLemmas.{item_behind, placed_at, bits_of-at, free_at, bits_of-most, place_within}
use Rattle.btor2.proofs.ModelLemmas.{IsIn-from_place, IsAccepted-at}
use Rattle.witness.specs.Texts.{widths_of, free_of}
use Rattle.witness.specs.Fits.{PairFits}
use Rattle.witness.specs.KeptLines.{AreNarrow}
pub use Rattle.runs.proofs.RankLemmas.{length-places}

-- an item of a kind has a width
abbrev pub HasBits : (Body → Bool) → Type 0
HasBits kind = (items : List Item) (b : Body) → kind b ≡ true → BodyIsAccepted items b → (n : ℕ) × (width_of_body items b ≡ Some n)

pub states_have_bits : HasBits is_state
states_have_bits items (body.State s) h says = says
states_have_bits items _ h says = absurd cc

pub inputs_have_bits : HasBits is_input
inputs_have_bits items (body.Input s) h says = says
inputs_have_bits items _ h says = absurd cc

-- the node at the place of such an item has a width
some_width : (kind : Body → Bool) → HasBits kind → (items : List Item) (k : ℕ) (x : Item) → IsWellFormed items → slice_get items k ≡ Some x → kind x.body ≡ true → is_some (width_at items k) ≡ true
some_width kind has items k x w at is =
    let there = (IsIn-from_place items k x at).0 in
    let found = has there.before x.body is (IsAccepted-at items x w there).says in
    let whole : width_of_body items x.body ≡ Some found.0 =
    subst (λ (l : List Item). width_of_body l x.body ≡ Some found.0) (sym there.splits) (width_of_body-append there.before (x ∷ there.after) x.body found.0 found.1) in
    is_some_from (width_at items k) found.0 (ap (option_and_then (λ (y : Item). width_of_body items y.body)) at ∙ whole)

pub each_has_width : (kind : Body → Bool) → HasBits kind → (items : List Item) → IsWellFormed items → All (λ k. is_some (width_at items k) ≡ true) (places kind 0 items)
each_has_width kind has items w =
    All-from_get_or (λ k. is_some (width_at items k) ≡ true) (places kind 0 items) 0 (λ i inside.
    let placed = placed_at kind items (places kind 0 items) i refl inside in
    some_width kind has items (get_or (places kind 0 items) i 0) placed.item w placed.at placed.own)

pub each_inside : (kind : Body → Bool) (items : List Item) → All (λ k. k < length items) (places kind 0 items)
each_inside kind items = All-from_get_or (λ k. k < length items) (places kind 0 items) 0 (λ i inside. place_within kind items (places kind 0 items) i refl inside)

-- what stands at the places of the items of a kind, by what is known of each item at its place
of_places : {A : Type 0} (kind : Body → Bool) (f : ℕ → A) (g : Item → A) (items before xs : List Item) (n : ℕ) → items ≡ before ++ xs → length before ≡ n → ((k : ℕ) (x : Item) → slice_get items k ≡ Some x → f k ≡ g x)
    → map f (places kind n xs) ≡ map g (of_kind kind xs)
of_places {A = A} kind f g items before [] n is e same = refl
of_places {A = A} kind f g items before (x ∷ xs) n is e same =
    let at : slice_get items n ≡ Some x = ap (λ (l : List Item). slice_get l n) is ∙ item_behind before xs x n e in
    let rest : map f (places kind (suc n) xs) ≡ map g (of_kind kind xs) = of_places kind f g items (before ++ x ∷ []) xs (suc n) (is ∙ sym (append_assoc before (x ∷ []) xs)) (omega (arith, length-append before (x ∷ []))) same in
    elim (kind x.body) as (λ b. map f (cond b (n ∷ places kind (suc n) xs) (places kind (suc n) xs)) ≡ map g (cond b (x ∷ of_kind kind xs) (of_kind kind xs))) [
      | true ↦ ap₂ (λ (a : A) (l : List A). a ∷ l) (same n x at) rest
      | false ↦ rest
    ]

pub widths_at_places : (kind : Body → Bool) (items : List Item) → IsWellFormed items → map (λ k. unwrap_or (width_at items k) 0) (places kind 0 items) ≡ widths_of kind items
widths_at_places kind items w = of_places kind (λ k. unwrap_or (width_at items k) 0) (λ x. bits_of items x.id) items [] items 0 refl refl (λ k x at. bits_of-at items k x w at)

pub length-widths : (kind : Body → Bool) (items : List Item) → length (widths_of kind items) ≡ length (places kind 0 items)
length-widths kind items = length-map (filter (λ (x : Item). kind x.body) items) (λ (x : Item). bits_of items x.id) ∙ sym (length-places kind 0 items)

-- a word of such a width is one of the width at the place
fits_some : (o : Option ℕ) (n x : ℕ) → n ≡ unwrap_or o 0 → x < 2 ^ n → IfSome o (λ m. x < 2 ^ m)
fits_some None n x same fits = tt
fits_some (Some m) n x same fits = subst (λ (k : ℕ). x < 2 ^ k) same fits

pub fits_at_place : (kind : Body → Bool) (items : List Item) (i x : ℕ) → IsWellFormed items → PairFits (widths_of kind items) (i, x) → IfSome (width_at items (slice_index (places kind 0 items) i)) (λ n. x < 2 ^ n)
fits_at_place kind items i x w fits =
    let there : i < length (places kind 0 items) = omega (arith, fits.index, length-widths kind items) in
    fits_some (width_at items (slice_index (places kind 0 items) i)) (slice_index (widths_of kind items) i) x
    (ap (λ (l : List ℕ). slice_index l i) (sym (widths_at_places kind items w)) ∙ get_or-map (λ k. unwrap_or (width_at items k) 0) (places kind 0 items) i 0 0 there) fits.word

-- the state at a place is free where the state with its id is
pub free_at_places : (items : List Item) → map (is_free_at items) (places is_state 0 items) ≡ free_of items
free_at_places items = of_places is_state (is_free_at items) (λ x. is_free items x.id) items [] items 0 refl refl (λ k x at. free_at items k x at)

-- the widths are those of words
each_small : (items l : List Item) → IsWellFormed items → (i : ℕ) → i < length (map (λ (x : Item). bits_of items x.id) l) → slice_index (map (λ (x : Item). bits_of items x.id) l) i ≤ 64
each_small items [] w i there = absurd (omega (arith, there))
each_small items (x ∷ l) w zero there = bits_of-most items x.id w
each_small items (x ∷ l) w (suc i) there = each_small items l w i (omega (arith, there))

pub widths_small : (kind : Body → Bool) (items : List Item) → IsWellFormed items → length (places kind 0 items) < 2 ^ 64 → AreNarrow (widths_of kind items)
widths_small kind items w few =
    record {
      few = omega (arith, few, length-places kind 0 items, length-map (filter (λ (x : Item). kind x.body) items) (λ (x : Item). bits_of items x.id));
      widths = each_small items (filter (λ (x : Item). kind x.body) items) w;
    }
