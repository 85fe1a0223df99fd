-- The shape of a model with words of any width.
use Rattle.std.proofs.Common.{◌≡◌, ℕ, ◌<◌, ◌≤◌, ◌^◌, Bool, true, false, List, [], ◌∷◌, ◌++◌, Option, Some, None, is_some, is_none, length, map, filter, unwrap_or, append_assoc, inl, inr, refl, sym, ap, subst, ◌∙◌, arith}
use Rattle.std.proofs.lemmas.Bool.{cases_Bool}
use Rattle.std.proofs.lemmas.List.{length-map}
use Rattle.btor2.specs.declared.item.Item.{Item}
use Rattle.btor2.specs.declared.item.Body.{Body}
use Rattle.btor2.specs.declared.item.Body.TheVariants as body
use Rattle.btor2.specs.Items.{is_input, is_state, is_free, node_sort, named_sort, find_item, sort_width, node_width}
use Rattle.btor2.specs.Check.{id_is_taken, sort_is_missing}
use Rattle.btor2.specs.Trace.{bits_of}
use Rattle.btor2.proofs.AppendLemmas.{find_item-after, sort_width-append}
use Rattle.btor2.proofs.ModelLemmas.{find_item-own}
use Rattle.wide.specs.WideModels.{greatest_width, IsWideModel}
use Rattle.wide.proofs.GrowLemmas.{tests_false, refusal_at, sort_range}
use Rattle.std.specs.Option.{option_map_or}
use Rattle.witness.specs.Texts.{Shape, shape_of}
use Rattle.witness.proofs.ReadLemmas.{IsSmall}
use Rattle.rejoin.specs.Pieces.{cut_shape}
use Rattle.rejoin.proofs.ShapeItemLemmas.{shape_is_small}
use Rattle.spread.specs.Stands.{IsWideShape}
use Rattle.spread.proofs.WidthLemmas.{HaveBits}

-- inputs and states have a sort
abbrev HasSort : (Body → Bool) → Type 0
HasSort kind = (b : Body) → kind b ≡ true → (s : ℕ) × ((node_sort b ≡ Some s) × (named_sort b ≡ Some s))

pub states_have_sort : HasSort is_state
states_have_sort (body.State s) h = (s, (refl, refl))
states_have_sort _ h = absurd cc

pub inputs_have_sort : HasSort is_input
inputs_have_sort (body.Input s) h = (s, (refl, refl))
inputs_have_sort _ h = absurd cc

fresh : (before : List Item) (x : Item) → id_is_taken before x ≡ false → find_item before x.id ≡ None
unfolding id_is_taken
fresh before x h = by (find_item before x.id) h
  where
    by : (o : Option Item) → is_some o ≡ false → o ≡ None
    by None e = refl
    by (Some y) e = absurd cc

sort_is : (before : List Item) (b : Body) (s : ℕ) → named_sort b ≡ Some s → sort_is_missing before b ≡ false → (n : ℕ) × (sort_width before s ≡ Some n)
unfolding sort_is_missing
sort_is before b s names h = by (sort_width before s) (ap (λ (o : Option ℕ). option_map_or (λ (k : ℕ). is_none (sort_width before k)) o false) (sym names) ∙ h)
  where
    by : (o : Option ℕ) → is_none o ≡ false → (n : ℕ) × (o ≡ Some n)
    by None e = absurd cc
    by (Some n) e = (n, refl)

-- each has a bit, and no more than a word may have
leaf_range : (before after : List Item) (x : Item) (s : ℕ) → node_sort x.body ≡ Some s → named_sort x.body ≡ Some s → IsWideModel greatest_width (before ++ x ∷ after) → (0 < bits_of (before ++ x ∷ after) x.id) × (bits_of (before ++ x ∷ after) x.id ≤ greatest_width)
leaf_range before after x s names named w =
    let whole : List Item = before ++ x ∷ after in
    let rows = tests_false greatest_width before x (refusal_at greatest_width before after x w) in
    let found : find_item whole x.id ≡ Some x = find_item-after before (x ∷ after) x.id (fresh before x rows.1.1.0) ∙ find_item-own x after in
    let sort = sort_is before x.body s named rows.1.1.1.0 in
    let width : sort_width whole s ≡ Some sort.0 = sort_width-append before (x ∷ after) s sort.0 sort.1 in
    let node : node_width whole x.id ≡ Some sort.0 = rw (found, names) width in
    let is : bits_of whole x.id ≡ sort.0 = ap (λ (o : Option ℕ). unwrap_or o 0) node in
    let range = sort_range greatest_width whole s sort.0 w width in
    (omega (arith, is, range.0), omega (arith, is, range.1))

pub leaves_range : (kind : Body → Bool) → HasSort kind → (items before xs : List Item) → items ≡ before ++ xs → IsWideModel greatest_width items → HaveBits (map (λ x. bits_of items x.id) (filter (λ x. kind x.body) xs))
leaves_range kind has items before [] is w = tt
leaves_range kind has items before (x ∷ xs) is w =
    let rest = leaves_range kind has items (before ++ x ∷ []) xs (is ∙ sym (append_assoc before (x ∷ []) xs)) w in
    elim (cases_Bool (kind x.body)) [
      | inl e ↦
          let sort = has x.body e in
          let own = leaf_range before xs x sort.0 sort.1.0 sort.1.1 (subst (IsWideModel greatest_width) is w) in
          rw e (subst (λ (l : List Item). (0 < bits_of l x.id) × (bits_of l x.id ≤ greatest_width)) (sym is) own, rest)
      | inr e ↦ rw e rest
    ]

-- what is known of such a shape, where the pieces of the inputs and the states are those of a model that is small
pub shape_is_wide : (wide narrow : List Item) → IsWideModel greatest_width wide → shape_of narrow ≡ cut_shape (shape_of wide) → IsSmall (shape_of narrow) → IsWideShape (shape_of wide)
shape_is_wide wide narrow w cut few =
    let small = shape_is_small wide w in
    record {
      states = leaves_range is_state states_have_sort wide [] wide refl w;
      inputs = leaves_range is_input inputs_have_sort wide [] wide refl w;
      free = length-map _ (λ (x : Item). is_free wide x.id) ∙ sym (length-map _ (λ (x : Item). bits_of wide x.id));
      bads = small.bads;
      few_states = subst (λ (l : List ℕ). length l < 2 ^ 64) (ap (λ (s : Shape). s.states) cut) few.states;
      few_inputs = subst (λ (l : List ℕ). length l < 2 ^ 64) (ap (λ (s : Shape). s.inputs) cut) few.inputs;
    }
