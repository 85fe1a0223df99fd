-- The text of steps with hints in the text form of LRAT, as CaDiCaL writes it: each step on a line, its words with one blank between. The id in front of a
-- deletion says nothing.
use Rattle.std.specs.Prelude.{ℕ, suc, ◌≤◌, List, [], ◌∷◌, ◌++◌, codes, decimal, map, All}
use Rattle.base.specs.Lines.{text_of_lines}
use Rattle.drup.specs.Formula.{IsLiteral}
use Rattle.drup.specs.FormulaTexts.{literal_text}
use Rattle.drup.specs.Hints.{HintedStep, addition, deletion, HintedEnded, ended}
use Rattle.lrat.specs.HintedProofs.{most_id}

-- words with a blank between
abbrev pub spaced : List (List ℕ) → List ℕ
spaced [] = []
spaced (w ∷ []) = w
spaced (w ∷ v ∷ vs) = w ++ 32 ∷ spaced (v ∷ vs)

-- the words of a step, with an id in front of a deletion
abbrev pub step_words : ℕ → HintedStep → List (List ℕ)
step_words front (addition id clause hints) = decimal id ∷ (map literal_text clause ++ (codes "0" ∷ (map decimal hints ++ codes "0" ∷ [])))
step_words front (deletion id) = decimal front ∷ codes "d" ∷ decimal id ∷ codes "0" ∷ []

abbrev pub step_line : ℕ → HintedStep → List ℕ
step_line front step = spaced (step_words front step)

abbrev pub lrat_text : ℕ → List HintedStep → List ℕ
lrat_text front steps = text_of_lines (map (step_line front) steps)

abbrev pub IsId : ℕ → Type 0
IsId n = (1 ≤ n) × (n ≤ most_id)

-- a step over so many variables whose ids can be written
abbrev pub IsWritten : ℕ → HintedStep → Type 0
IsWritten variables (addition id clause hints) = IsId id × All (IsLiteral variables) clause × All IsId hints
IsWritten variables (deletion id) = IsId id

-- steps, each on a line, from one with a number on
abbrev pub on_lines : ℕ → List HintedStep → List HintedEnded
on_lines n [] = []
on_lines n (step ∷ steps) = ended n step ∷ on_lines (suc n) steps
