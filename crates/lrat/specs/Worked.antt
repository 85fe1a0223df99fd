-- Worked rows: readings of steps alone, and of steps before a fault; all eight clauses of three variables are refuted by four steps with hints.
use Rattle.std.specs.Prelude.{ℕ, List, [], ◌∷◌, Some, None}
use Rattle.drup.specs.declared.why.Why.{Why}
use Rattle.drup.specs.Hints.{HintedEnded, ended, addition, HintedReading}

-- steps without a fault, and with one in a line behind them
abbrev pub reads : List HintedEnded → HintedReading
reads steps = record { steps = steps; fault = None }

abbrev pub faults : List HintedEnded → ℕ → Why → HintedReading
faults steps n w = record { steps = steps; fault = Some (record { line = n; why = w }) }

-- what is read of a proof of them: two variables by the third, one by the second, the other, and nothing
abbrev pub four_steps : HintedReading
four_steps =
    reads
    (ended 1 (addition 9 (2 ∷ 4 ∷ []) (1 ∷ 2 ∷ []))
    ∷ ended 2 (addition 10 (2 ∷ []) (9 ∷ 3 ∷ 4 ∷ []))
    ∷ ended 3 (addition 11 (4 ∷ []) (10 ∷ 5 ∷ 6 ∷ []))
    ∷ ended 4 (addition 12 [] (10 ∷ 11 ∷ 7 ∷ 8 ∷ []))
    ∷ [])
