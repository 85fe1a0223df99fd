-- How clauses are kept that stay: in blocks of as many each, one behind the other, and a last one with as many at most.
use Rattle.std.specs.Prelude.{◌≡◌, ℕ, ◌≤◌, List, [], ◌∷◌, ◌++◌, length, All}
use Rattle.drup.specs.declared.clause_blocks.ClauseBlocks.TheInside.{Inside}

-- the clauses of blocks, one behind the other
abbrev pub joined : List (List (List ℕ)) → List (List ℕ)
joined [] = []
joined (block ∷ blocks) = block ++ joined blocks

-- what contracts see of them
abbrev pub blocked : Inside → List (List ℕ)
blocked b = joined b.full.items ++ b.last

-- each has as many clauses
abbrev pub AreFull : List (List (List ℕ)) → Type 0
AreFull blocks = All (λ block. length block ≡ 1048576) blocks

pub record AreBlocks (b : Inside) : Type 0 where
  pub full : AreFull b.full.items
  pub last : length b.last ≤ 1048576
  pub count : b.count ≡ length (joined b.full.items ++ b.last)
