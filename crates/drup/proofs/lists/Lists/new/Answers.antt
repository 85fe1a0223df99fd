use Rattle.std.proofs.Common.{◌≡◌, ℕ, List, [], ◌∷◌, length, sym, subst}
use Rattle.drup.specs.Lists.{list_at, numbered}
use Rattle.drup.proofs.ListsLemmas.{numbered_none}
use Rattle.drup.proofs.lists.Lists.new.Goals as goal

pub returns : goal.returns
returns c =
    subst (λ (lists : List (List ℕ)). (length (numbered c.in_ok-numbers.numbers.items lists) ≡ c.args.limit) × ((k : ℕ) → list_at (numbered c.in_ok-numbers.numbers.items lists) k ≡ [])) (sym c.in_ok-lists.ensures)
    (subst (λ (numbers : List ℕ). (length (numbered numbers ([] ∷ [])) ≡ c.args.limit) × ((k : ℕ) → list_at (numbered numbers ([] ∷ [])) k ≡ [])) (sym (c.in_ok-numbers.ensures.items_if_clones_equal (λ x e. e))) (numbered_none c.args.limit))
