-- The names of a model, item by item.
use Rattle.std.proofs.Common.{◌≡◌, ℕ, Bool, true, false, cond, List, [], ◌∷◌, ◌++◌, map, filter, append-nil, append_assoc, Option, refl, sym, ap₂, ◌∙◌}
use Rattle.btor2.specs.declared.item.Item.{Item}
use Rattle.btor2.specs.Items.{is_input, is_state}
use Rattle.unfit.specs.Joined.{Names}
use Rattle.unfit.specs.Naming.{named_with, all_named, names_of}

-- a list behind which the symbol of each item that passes a test is put, one by one
gathered : (Item → Bool) → List (Option (List ℕ)) → List Item → List (Option (List ℕ))
gathered test before [] = before
gathered test before (x ∷ xs) = gathered test (cond (test x) (before ++ x.symbol ∷ []) before) xs

gathered_is : (test : Item → Bool) (before : List (Option (List ℕ))) (xs : List Item) → gathered test before xs ≡ before ++ map (λ (x : Item). x.symbol) (filter test xs)
unfolding gathered
gathered_is test before [] = sym (append-nil before)
gathered_is test before (x ∷ xs) = by (test x) (gathered_is test (before ++ x.symbol ∷ []) xs) (gathered_is test before xs)
  where
    by : (b : Bool) → gathered test (before ++ x.symbol ∷ []) xs ≡ (before ++ x.symbol ∷ []) ++ map (λ (y : Item). y.symbol) (filter test xs) → gathered test before xs ≡ before ++ map (λ (y : Item). y.symbol) (filter test xs)
        → gathered test (cond b (before ++ x.symbol ∷ []) before) xs ≡ before ++ map (λ (y : Item). y.symbol) (cond b (x ∷ filter test xs) (filter test xs))
    by true one none = one ∙ append_assoc before (x.symbol ∷ []) (map (λ (y : Item). y.symbol) (filter test xs))
    by false one none = none

made : List (Option (List ℕ)) → List (Option (List ℕ)) → Names
made states inputs = record { states = states; inputs = inputs }

by_parts : (names : Names) (xs : List Item) → all_named names xs ≡ made (gathered (λ x. is_state x.body) names.states xs) (gathered (λ x. is_input x.body) names.inputs xs)
unfolding made gathered
by_parts names [] = refl
by_parts names (x ∷ xs) = by_parts (named_with names x) xs

-- no names yet
abbrev pub no_names : Names
no_names = record { states = []; inputs = [] }

-- with all items of a model they are those of the model
pub all_items : (items : List Item) → all_named no_names items ≡ names_of items
unfolding made
all_items items = by_parts no_names items ∙ ap₂ made (gathered_is (λ x. is_state x.body) [] items) (gathered_is (λ x. is_input x.body) [] items)
