-- Worked rows: a frame of the model that adds words of 128 bits, and the same by pieces of 64.
use Rattle.std.specs.Prelude.{ℕ, ◌+◌, ◌^◌, List, [], ◌∷◌}
use Rattle.witness.specs.Judgements.{Words}

-- bad property 0 is claimed, and in one frame words are given to inputs
abbrev pub words_with : List (ℕ × ℕ) → Words
words_with inputs = record { claims = 0 ∷ []; frames = record { states = []; inputs = inputs } ∷ [] }

-- the word 2 ^ 64 + 2, and pieces of it
abbrev pub wide_words : Words
wide_words = words_with ((0, 2 ^ 64 + 2) ∷ [])

abbrev pub piece_words : ℕ → ℕ → Words
piece_words low high = words_with ((0, low) ∷ (1, high) ∷ [])
