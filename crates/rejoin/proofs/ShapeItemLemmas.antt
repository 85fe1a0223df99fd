-- The shape of a model, item by item.
use Rattle.std.proofs.Common.{◌≡◌, ℕ, ◌+◌, ◌≤◌, ◌<◌, Bool, true, false, cond, List, [], ◌∷◌, ◌++◌, map, filter, length, drop, get_or, nat_le, leb-false, None, append_assoc, append-nil, length-append, refl, sym, ap, ap₂, ◌∙◌, arith}
use Rattle.std.proofs.lemmas.List.{drop_more, at_drop_all, length-map}
use Rattle.std.proofs.lemmas.List.Sums.{length-filter, count_by-le-length}
use Rattle.btor2.specs.declared.item.Item.{Item}
use Rattle.btor2.specs.declared.item.Body.{Body}
use Rattle.btor2.specs.Items.{is_input, is_state, is_bad, is_free}
use Rattle.btor2.specs.Trace.{bits_of}
use Rattle.btor2.specs.Lists.{of_kind}
use Rattle.wide.specs.WideModels.{greatest_width, wide_refusal, IsWideAfter, IsWideModel}
use Rattle.wide.proofs.GrowLemmas.{tests_false}
use Rattle.witness.specs.Texts.{Shape, shape_of}
use Rattle.witness.proofs.ReadLemmas.{IsSmall}
use Rattle.rejoin.specs.Shapes.{with_item, with_items}

-- a list behind which what is said of each item that passes a test is put, one by one
gathered : {A : Type 0} → (Item → Bool) → (Item → A) → List A → List Item → List A
gathered test says before [] = before
gathered test says before (x ∷ xs) = gathered test says (cond (test x) (before ++ says x ∷ []) before) xs

gathered_is : {A : Type 0} (test : Item → Bool) (says : Item → A) (before : List A) (xs : List Item) → gathered test says before xs ≡ before ++ map says (filter test xs)
unfolding gathered
gathered_is test says before [] = sym (append-nil before)
gathered_is test says before (x ∷ xs) = by (test x) (gathered_is test says (before ++ says x ∷ []) xs) (gathered_is test says before xs)
  where
    by : (b : Bool) → gathered test says (before ++ says x ∷ []) xs ≡ (before ++ says x ∷ []) ++ map says (filter test xs) → gathered test says before xs ≡ before ++ map says (filter test xs)
        → gathered test says (cond b (before ++ says x ∷ []) before) xs ≡ before ++ map says (cond b (x ∷ filter test xs) (filter test xs))
    by true one none = one ∙ append_assoc before (says x ∷ []) (map says (filter test xs))
    by false one none = none

counted : (Item → Bool) → ℕ → List Item → ℕ
counted test n [] = n
counted test n (x ∷ xs) = counted test (cond (test x) (n + 1) n) xs

counted_is : (test : Item → Bool) (n : ℕ) (xs : List Item) → counted test n xs ≡ n + length (filter test xs)
unfolding counted
counted_is test n [] = omega arith
counted_is test n (x ∷ xs) = by (test x) (counted_is test (n + 1) xs) (counted_is test n xs)
  where
    by : (b : Bool) → counted test (n + 1) xs ≡ n + 1 + length (filter test xs) → counted test n xs ≡ n + length (filter test xs) → counted test (cond b (n + 1) n) xs ≡ n + length (cond b (x ∷ filter test xs) (filter test xs))
    by true one none = one ∙ omega arith
    by false one none = none

counted_all : (test : Item → Bool) (xs : List Item) → counted test 0 xs ≡ length (filter test xs)
counted_all test xs = counted_is test 0 xs ∙ omega arith

made : ℕ → List ℕ → List Bool → List ℕ → Shape
made bads states free inputs = record { bads = bads; states = states; free = free; inputs = inputs }

by_parts : (items : List Item) (s : Shape) (xs : List Item)
    → with_items items s xs ≡ made (counted (λ x. is_bad x.body) s.bads xs) (gathered (λ x. is_state x.body) (λ x. bits_of items x.id) s.states xs) (gathered (λ x. is_state x.body) (λ x. is_free items x.id) s.free xs)
    (gathered (λ x. is_input x.body) (λ x. bits_of items x.id) s.inputs xs)
unfolding made counted gathered
by_parts items s [] = refl
by_parts items s (x ∷ xs) = by_parts items (with_item items s x) xs

-- no items yet
abbrev pub no_shape : Shape
no_shape = record { bads = 0; states = []; free = []; inputs = [] }

-- with all items of a model it is that of the model
pub all_items : (items : List Item) → with_items items no_shape items ≡ shape_of items
unfolding made
all_items items =
    by_parts items no_shape items
    ∙ ap₂ (λ (n : ℕ) (l : List ℕ). made n l (gathered (λ x. is_state x.body) (λ x. is_free items x.id) [] items) (gathered (λ x. is_input x.body) (λ x. bits_of items x.id) [] items)) (counted_all (λ x. is_bad x.body) items)
    (gathered_is (λ x. is_state x.body) (λ x. bits_of items x.id) [] items)
    ∙ ap₂ (λ (l : List Bool) (m : List ℕ). made (length (filter (λ x. is_bad x.body) items)) (map (λ x. bits_of items x.id) (filter (λ x. is_state x.body) items)) l m)
    (gathered_is (λ x. is_state x.body) (λ x. is_free items x.id) [] items) (gathered_is (λ x. is_input x.body) (λ x. bits_of items x.id) [] items)

-- one item more is one bad property more at most
pub few_more : (items : List Item) (s : Shape) (x : Item) → (with_item items s x).bads ≤ s.bads + 1
few_more items s x = by (is_bad x.body)
  where
    by : (b : Bool) → cond b (s.bads + 1) s.bads ≤ s.bads + 1
    by true = omega arith
    by false = omega arith

-- the items from a place on, of the lines from there on
pub items_from : {A B : Type 0} (of : A → B) (k : ℕ) (lines : List A) (d x : A) → k < length lines → x ≡ get_or lines k d → map of (drop k lines) ≡ of x ∷ map of (drop (k + 1) lines)
items_from of k lines d x inside is = ap (map of) (drop_more lines k d inside) ∙ ap (λ y. of y ∷ map of (drop (k + 1) lines)) (sym is)

pub none_from : {A B : Type 0} (of : A → B) (k : ℕ) (lines : List A) → k ≡ length lines → map of (drop k lines) ≡ []
none_from of k lines e = at_drop_all (map of) lines k (omega (arith, e))

-- ---- how many items a model has

most_before : (before : List Item) (x : Item) → wide_refusal greatest_width before x ≡ None → length before < 1048576
most_before before x h = by (nat_le 1048576 (length before)) refl (tests_false greatest_width before x h).0
  where
    by : (b : Bool) → nat_le 1048576 (length before) ≡ b → b ≡ false → length before < 1048576
    by true e h = absurd (let no = h in cc)
    by false e h = leb-false 1048576 (length before) e

few_after : (before xs : List Item) → length before ≤ 1048576 → IsWideAfter greatest_width before xs → length (before ++ xs) ≤ 1048576
few_after before [] few h = rw (append-nil before) few
few_after before (x ∷ xs) few h =
    let less = most_before before x h.0 in
    rw (sym (append_assoc before (x ∷ []) xs)) (few_after (before ++ x ∷ []) xs (omega (arith, less, length-append before (x ∷ []))) h.1)

pub few_items : (items : List Item) → IsWideModel greatest_width items → length items ≤ 1048576
few_items items h = few_after [] items (omega arith) h

-- what a witness needs to know of such a model is small
few_of : (kind : Body → Bool) (items : List Item) → length (of_kind kind items) ≤ length items
few_of kind items = omega (arith, length-filter (λ (x : Item). kind x.body) items, count_by-le-length (λ (x : Item). kind x.body) items)

pub shape_is_small : (items : List Item) → IsWideModel greatest_width items → IsSmall (shape_of items)
shape_is_small items w =
    record {
      bads = omega (arith, few_of is_bad items, few_items items w);
      states = omega (arith, few_of is_state items, few_items items w, length-map (of_kind is_state items) (λ (x : Item). bits_of items x.id));
      inputs = omega (arith, few_of is_input items, few_items items w, length-map (of_kind is_input items) (λ (x : Item). bits_of items x.id));
    }
