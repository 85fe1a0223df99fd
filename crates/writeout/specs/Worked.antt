-- Worked rows: states that begin with an input, with a constant and with what depends on them, and lines of justice and of fairness.
use Rattle.std.specs.Prelude.{ℕ, List, [], ◌∷◌, None}
use Rattle.base.specs.declared.operators.Unary.TheVariants as unary
use Rattle.btor2.specs.declared.item.Body.{Body}
use Rattle.btor2.specs.declared.item.Body.TheVariants as body
use Rattle.full.specs.Lines.{form, array_sort, FullLine}
use Rattle.full.specs.Worked.{lines_numbered}

-- the state 2 begins with the input 3
abbrev pub begun : List FullLine
begun = lines_numbered 1 (form (body.Sort 1) [] ∷ form (body.State 1) [] ∷ form (body.Input 1) [] ∷ form (body.Init 1 2 3) [] ∷ [])

-- a line of it
abbrev pub begun_state : FullLine
begun_state = record { id = 2; symbol = None; says = form (body.State 1) [] }

-- the state 2 begins with its own negation, 3
abbrev pub circular : List FullLine
circular = lines_numbered 1 (form (body.Sort 1) [] ∷ form (body.State 1) [] ∷ form (body.Unary unary.Not 1 2) [] ∷ form (body.Init 1 2 3) [] ∷ [])

-- the state 4, of a word of so many bits or of an array of such words, begins with the constant 3 and stays as it is
abbrev pub held : ℕ → ℕ → Body → List FullLine
held n s b = lines_numbered 1 (form (body.Sort n) [] ∷ array_sort 1 1 ∷ form b [] ∷ form (body.State s) [] ∷ form (body.Init s 4 3) [] ∷ form (body.Next s 4 4) [] ∷ [])

-- a line of fairness before others
abbrev pub fair_before : List FullLine → List FullLine
fair_before lines = record { id = 1; symbol = None; says = form (body.Fair 1) [] } ∷ lines
