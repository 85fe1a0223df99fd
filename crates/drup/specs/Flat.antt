-- Clauses in one flat list of literals, each with the place of its start and its end. A clause that was taken away is empty there, and stands no longer.
use Rattle.drup.specs.declared.clauses.Clauses.TheInside.{Inside}
use Rattle.drup.specs.declared.clauses.Stretch.{Stretch}
use Rattle.std.specs.Prelude.{ℕ, ◌≤◌, List, [], ◌∷◌, All, map, length, slice_range}

-- the clauses, by their places
abbrev pub stretched : List ℕ → List Stretch → List (List ℕ)
stretched literals stretches = map (λ s. slice_range literals s.start s.end) stretches

-- those that stand: a clause that stands has a literal, since one without brings a conflict
abbrev pub standing : List (List ℕ) → List (List ℕ)
standing [] = []
standing ([] ∷ clauses) = standing clauses
standing ((l ∷ ls) ∷ clauses) = (l ∷ ls) ∷ standing clauses

-- each ends where it starts or behind that, and inside
abbrev pub AreStretches : ℕ → List Stretch → Type 0
AreStretches size stretches = All (λ s. (s.start ≤ s.end) × (s.end ≤ size)) stretches

-- what is seen of clauses that are kept so
abbrev pub clauses_of : Inside → List (List ℕ)
clauses_of c = stretched c.literals.items c.stretches.items

abbrev pub AreClauses : Inside → Type 0
AreClauses c = AreStretches (length c.literals.items) c.stretches.items
