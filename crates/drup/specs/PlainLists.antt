-- Lists of numbers, by their own numbers.
use Rattle.std.specs.Prelude.{ℕ, List, map}
use Rattle.drup.specs.declared.plain_lists.PlainLists.TheInside.{Inside}

-- what contracts see of them
abbrev pub plain_lists_of : Inside → List (List ℕ)
plain_lists_of i = map (λ v. v.items) i.lists.items
