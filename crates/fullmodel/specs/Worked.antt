-- A line without a name, of which worked rows speak.
use Rattle.std.specs.Prelude.{ℕ, None}
use Rattle.full.specs.Lines.{Says, FullLine}

-- a line with an id
abbrev pub numbered : ℕ → Says → FullLine
numbered id b = record { id = id; symbol = None; says = b }
