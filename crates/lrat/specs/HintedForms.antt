-- In which form a proof with hints is written. This project's own: the form is told by the first byte. A proof in the binary form begins with `a` or `d`, and
-- one in the text form does not, since a step begins with its id.
use Rattle.std.specs.Prelude.{ℕ, Bool, false, ◌==◌, ◌||◌, if◌then◌else◌, List, [], ◌∷◌}
use Rattle.drup.specs.Hints.{HintedReading}
use Rattle.lrat.specs.HintedProofs.{read_text_lrat}
use Rattle.lrat.specs.BinaryHintedProofs.{read_binary_lrat}

-- the first byte is `a` or `d`
abbrev pub is_binary_lrat : List ℕ → Bool
is_binary_lrat [] = false
is_binary_lrat (b ∷ bs) = b == 97 || b == 100

-- what a text reads as, over a formula of so many variables
abbrev pub read_lrat : ℕ → List ℕ → HintedReading
read_lrat variables text = if is_binary_lrat text then read_binary_lrat variables text else read_text_lrat variables text
