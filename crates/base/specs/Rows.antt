-- How rows of values are kept: one behind the other in one list, and where each of them ends.
use Rattle.std.specs.Prelude.{◌≡◌, ℕ, ◌≤◌, List, [], ◌∷◌, slice_range}

-- the rows that end so, the first of which begins at a place
abbrev pub rows_from : {T : Type 0} → ℕ → List ℕ → List T → List (List T)
rows_from start [] values = []
rows_from start (end' ∷ ends) values = slice_range values start end' ∷ rows_from end' ends values

-- each row ends where it begins or later, and the last where the values do
abbrev pub AreEnds : ℕ → List ℕ → ℕ → Type 0
AreEnds start [] total = start ≡ total
AreEnds start (end' ∷ ends) total = (start ≤ end') × AreEnds end' ends total
