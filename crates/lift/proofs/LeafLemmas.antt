-- The lines of leaves by their places in the model are those by the leaves themselves.
use Rattle.std.proofs.Common.{◌≡◌, ℕ, suc, ◌&&◌, Bool, true, false, not, cond, List, [], ◌∷◌, ◌++◌, length, filter, take, drop, Option, Some, option_and_then, unwrap_or, slice_get, refl, sym, ap, ap₂, ◌∙◌, append_assoc, length-append, arith}
use Rattle.base.specs.Lines.{text_of_lines}
use Rattle.btor2.specs.declared.item.Item.{Item}
use Rattle.btor2.specs.declared.leaves.Leaves.{Leaves}
use Rattle.btor2.specs.declared.leaves.Leaves.TheVariants as leaves
use Rattle.btor2.specs.Items.{is_free, is_input, is_state}
use Rattle.btor2.specs.Lists.{places, width_at}
use Rattle.btor2.specs.Leaves.{list_of, kind_of, is_leaf_at, leaf_width}
use Rattle.btor2.specs.Check.{IsWellFormed}
use Rattle.btor2.specs.Trace.{bits_of}
use Rattle.btor2.proofs.LeafLemmas.{item_behind, bits_of-at, leaf_at}
use Rattle.lift.specs.Lifted.{word_line, word_lines, free_lines}
use Rattle.lift.specs.Placed.{taken_line, placed_lines, leaf_lines}

-- one leaf
one_leaf : (t u : Bool) (w v index : ℕ) (name : Option (List ℕ)) (bits : List Bool) (rest : List Bool → List ℕ) (others : List Bool → List (List ℕ)) → t ≡ u → w ≡ v → ((bs : List Bool) → rest bs ≡ text_of_lines (others bs))
    → taken_line t index (take (cond t w 0) bits) name ++ rest (drop (cond t w 0) bits) ≡ text_of_lines (cond u (word_line index (take v bits) name ∷ others (drop v bits)) (others bits))
one_leaf t u w v index name bits rest others e f h = ap₂ (λ (b : Bool) (n : ℕ). taken_line b index (take (cond b n 0) bits) name ++ rest (drop (cond b n 0) bits)) e f ∙ by u
  where
    by : (b : Bool) → taken_line b index (take (cond b v 0) bits) name ++ rest (drop (cond b v 0) bits) ≡ text_of_lines (cond b (word_line index (take v bits) name ∷ others (drop v bits)) (others bits))
    by true = ap (λ (l : List ℕ). (word_line index (take v bits) name ++ 10 ∷ []) ++ l) (h (drop v bits))
    by false = h bits

-- of the items of a list, the leaves are those that pass a test
abbrev Agree : Leaves → (Item → Bool) → List Item → Type 0
Agree l takes items = (x : Item) → list_of l x.body ≡ true → kind_of items l x ≡ takes x

placed_from : (l : Leaves) (takes : Item → Bool) (name : Item → Option (List ℕ)) (items before xs : List Item) (n index : ℕ) (bits : List Bool) → items ≡ before ++ xs → length before ≡ n → IsWellFormed items → Agree l takes items
    → placed_lines l items name index (places (list_of l) n xs) bits ≡ text_of_lines (word_lines items takes name index (filter (λ (x : Item). list_of l x.body) xs) bits)
placed_from l takes name items before [] n index bits is e w agree = refl
placed_from l takes name items before (x ∷ xs) n index bits is e w agree =
    by (list_of l x.body) refl (λ i bs. placed_from l takes name items (before ++ x ∷ []) xs (suc n) i bs (is ∙ sym (append_assoc before (x ∷ []) xs)) (omega (arith, e, length-append before (x ∷ []))) w agree)
  where
    at : slice_get items n ≡ Some x
    at = ap (λ (l : List Item). slice_get l n) is ∙ item_behind before xs x n e

    by : (b : Bool) → list_of l x.body ≡ b
        → ((i : ℕ) (bs : List Bool) → placed_lines l items name i (places (list_of l) (suc n) xs) bs ≡ text_of_lines (word_lines items takes name i (filter (λ (y : Item). list_of l y.body) xs) bs))
        → placed_lines l items name index (cond b (n ∷ places (list_of l) (suc n) xs) (places (list_of l) (suc n) xs)) bits
        ≡ text_of_lines (word_lines items takes name index (cond b (x ∷ filter (λ (y : Item). list_of l y.body) xs) (filter (λ (y : Item). list_of l y.body) xs)) bits)
    by true own rest =
        ap (λ (o : Option Item). taken_line (is_leaf_at items l n) index (take (leaf_width items l n) bits) (option_and_then name o) ++ placed_lines l items name (suc index) (places (list_of l) (suc n) xs) (drop (leaf_width items l n) bits)) at
        ∙ one_leaf (is_leaf_at items l n) (takes x) (unwrap_or (width_at items n) 0) (bits_of items x.id) index (name x) bits (placed_lines l items name (suc index) (places (list_of l) (suc n) xs))
        (word_lines items takes name (suc index) (filter (λ (y : Item). list_of l y.body) xs)) (leaf_at items l n x at ∙ agree x own) (bits_of-at items n x w at) (rest (suc index))
    by false own rest = rest index bits

-- the lines of all inputs, and of the states that are carried from frame to frame
abbrev pub lifted_input_lines : List Item → (Item → Option (List ℕ)) → List Bool → List (List ℕ)
lifted_input_lines items name bits = word_lines items (λ x. true) name 0 (filter (λ x. is_input x.body) items) bits

abbrev pub carried_lines : List Item → (Item → Option (List ℕ)) → List Bool → List (List ℕ)
carried_lines items name bits = word_lines items (λ x. not (is_free items x.id)) name 0 (filter (λ x. is_state x.body) items) bits

pub inputs_placed : (items : List Item) (name : Item → Option (List ℕ)) (bits : List Bool) → IsWellFormed items → leaf_lines leaves.Inputs items name bits ≡ text_of_lines (lifted_input_lines items name bits)
inputs_placed items name bits w = placed_from leaves.Inputs (λ x. true) name items [] items 0 0 bits refl refl w (λ x own. own)

pub carried_placed : (items : List Item) (name : Item → Option (List ℕ)) (bits : List Bool) → IsWellFormed items → leaf_lines leaves.Carried items name bits ≡ text_of_lines (carried_lines items name bits)
carried_placed items name bits w = placed_from leaves.Carried (λ x. not (is_free items x.id)) name items [] items 0 0 bits refl refl w (λ x own. ap (λ (b : Bool). b && not (is_free items x.id)) own)

pub free_placed : (items : List Item) (name : Item → Option (List ℕ)) (bits : List Bool) → IsWellFormed items → leaf_lines leaves.Free items name bits ≡ text_of_lines (free_lines items name bits)
free_placed items name bits w = placed_from leaves.Free (λ x. is_free items x.id) name items [] items 0 0 bits refl refl w (λ x own. ap (λ (b : Bool). b && is_free items x.id) own)
