-- Worked rows: all eight clauses of three variables, a clause with a literal twice, one with a literal and its negation, and one literal that gives another.
use Rattle.std.specs.Prelude.{ℕ, ◌==◌, ◌||◌, List, [], ◌∷◌, None}
use Rattle.drup.specs.Formula.{Formula}
use Rattle.drup.specs.Propagation.{Literals}
use Rattle.drup.specs.Proofs.{ProofReading, ended, addition}

-- one literal, and two
abbrev pub one : ℕ → Literals
one x l = l == x

abbrev pub two : ℕ → ℕ → Literals
two x y l = l == x || l == y

-- nothing satisfies all of them, and no two of their literals are the same
abbrev pub all_eight : List (List ℕ)
all_eight =
    (2 ∷ 4 ∷ 6 ∷ [])
    ∷ (2 ∷ 4 ∷ 7 ∷ [])
    ∷ (2 ∷ 5 ∷ 6 ∷ [])
    ∷ (2 ∷ 5 ∷ 7 ∷ [])
    ∷ (3 ∷ 4 ∷ 6 ∷ [])
    ∷ (3 ∷ 4 ∷ 7 ∷ [])
    ∷ (3 ∷ 5 ∷ 6 ∷ [])
    ∷ (3 ∷ 5 ∷ 7 ∷ [])
    ∷ []

abbrev pub twice : List (List ℕ)
twice = (2 ∷ 2 ∷ []) ∷ []

abbrev pub opposites : List (List ℕ)
opposites = (2 ∷ 3 ∷ []) ∷ []

-- the first variable, and by it the second
abbrev pub chain : List (List ℕ)
chain = (2 ∷ []) ∷ (3 ∷ 4 ∷ []) ∷ []

-- the formula of all eight clauses, and what is read of a proof of it: two variables by the third, one by the second, and the other
abbrev pub eight : Formula
eight = record { variables = 3; clauses = all_eight }

abbrev pub three_steps : ProofReading
three_steps = record { steps = ended 1 (addition (2 ∷ 4 ∷ [])) ∷ ended 2 (addition (2 ∷ [])) ∷ ended 3 (addition (4 ∷ [])) ∷ []; fault = None }
