-- The names of a model, line by line.
use Rattle.std.proofs.Common.{◌≡◌, ℕ, Bool, true, false, cond, List, [], ◌∷◌, ◌++◌, map, filter, append-nil, append_assoc, Option, refl, sym, ap₂, ◌∙◌}
use Rattle.btor2.specs.Items.{is_input, is_state}
use Rattle.full.specs.Lines.{FullLine, is_form}
use Rattle.unfit.specs.Joined.{Names}
use Rattle.fullunfit.specs.Titles.{named_with, all_named, names_of}

-- a list behind which the symbol of each line that passes a test is put, one by one
gathered : (FullLine → Bool) → List (Option (List ℕ)) → List FullLine → List (Option (List ℕ))
gathered test before [] = before
gathered test before (x ∷ xs) = gathered test (cond (test x) (before ++ x.symbol ∷ []) before) xs

gathered_is : (test : FullLine → Bool) (before : List (Option (List ℕ))) (xs : List FullLine) → gathered test before xs ≡ before ++ map (λ (x : FullLine). x.symbol) (filter test xs)
unfolding gathered
gathered_is test before [] = sym (append-nil before)
gathered_is test before (x ∷ xs) = by (test x) (gathered_is test (before ++ x.symbol ∷ []) xs) (gathered_is test before xs)
  where
    by : (b : Bool) → gathered test (before ++ x.symbol ∷ []) xs ≡ (before ++ x.symbol ∷ []) ++ map (λ (y : FullLine). y.symbol) (filter test xs) → gathered test before xs ≡ before ++ map (λ (y : FullLine). y.symbol) (filter test xs)
        → gathered test (cond b (before ++ x.symbol ∷ []) before) xs ≡ before ++ map (λ (y : FullLine). y.symbol) (cond b (x ∷ filter test xs) (filter test xs))
    by true one none = one ∙ append_assoc before (x.symbol ∷ []) (map (λ (y : FullLine). y.symbol) (filter test xs))
    by false one none = none

made : List (Option (List ℕ)) → List (Option (List ℕ)) → Names
made states inputs = record { states = states; inputs = inputs }

by_parts : (names : Names) (xs : List FullLine) → all_named names xs ≡ made (gathered (λ (x : FullLine). is_form is_state x.says) names.states xs) (gathered (λ (x : FullLine). is_form is_input x.says) names.inputs xs)
unfolding made gathered
by_parts names [] = refl
by_parts names (x ∷ xs) = by_parts (named_with names x) xs

-- no names yet
abbrev pub no_names : Names
no_names = record { states = []; inputs = [] }

-- with all lines of a model they are those of the model
pub all_lines : (full : List FullLine) → all_named no_names full ≡ names_of full
unfolding made
all_lines full = by_parts no_names full ∙ ap₂ made (gathered_is (λ (x : FullLine). is_form is_state x.says) [] full) (gathered_is (λ (x : FullLine). is_form is_input x.says) [] full)
