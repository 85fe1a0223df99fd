use Rattle.std.proofs.Common.{◌≡◌, List, ℕ, ◌++◌, length}
use Rattle.witness.specs.WordValues.{IsValueOf}
use Rattle.witness.proofs.word_value.known_word.Given as goal

-- the bytes in front of the rest are digits
abbrev pub invariant-loop-eight : goal.invariant-loop-eight
invariant-loop-eight l = (front : List ℕ) × ((l.bytes ≡ front ++ l.rest) × IsValueOf l.word front)

abbrev pub decreases-loop-eight : goal.decreases-loop-eight
decreases-loop-eight l = length l.rest
