-- How clauses are kept that stay: the literals of all of them in one list, and where each clause ends, where the next one starts.
use Rattle.std.specs.Prelude.{◌≡◌, ℕ, ◌+◌, ◌≤◌, List, [], ◌∷◌, length, slice_index, slice_range}
use Rattle.drup.specs.declared.clause_list.ClauseList.TheInside.{Inside}

-- the clauses that start and end at these places
abbrev pub cut : List ℕ → List ℕ → List ℕ → List (List ℕ)
cut literals [] ends = []
cut literals (s ∷ ss) [] = []
cut literals (s ∷ ss) (e ∷ es) = slice_range literals s e ∷ cut literals ss es

-- where the clause at a place starts
abbrev pub start_at : List ℕ → ℕ → ℕ
start_at ends k = slice_index (0 ∷ ends) k

-- what contracts see of them
abbrev pub listed : Inside → List (List ℕ)
listed l = cut l.literals.items (0 ∷ l.ends.items) l.ends.items

-- each end is at or after the one before, and the last is where the literals end
abbrev pub AreEndsInTurn : ℕ → List ℕ → ℕ → Type 0
AreEndsInTurn start [] size = start ≡ size
AreEndsInTurn start (end' ∷ ends) size = (start ≤ end') × AreEndsInTurn end' ends size

abbrev pub IsClauseList : Inside → Type 0
IsClauseList l = AreEndsInTurn 0 l.ends.items (length l.literals.items)

-- how many literals clauses have together
abbrev pub literal_count : List (List ℕ) → ℕ
literal_count [] = 0
literal_count (clause ∷ clauses) = length clause + literal_count clauses
