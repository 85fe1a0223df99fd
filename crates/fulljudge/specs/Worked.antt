-- A worked row: the shape of a model whose states are a bit and an array of 2 cells of 2 bits, and whose inputs are such an array and a word of 3 bits.
use Rattle.std.specs.Prelude.{true, [], ◌∷◌}
use Rattle.full.specs.Lines.{words, arrays}
use Rattle.fulljudge.specs.Shapes.{FullShape}

abbrev pub two_arrays : FullShape
two_arrays = record { bads = 1; states = words 1 ∷ arrays 1 2 ∷ []; free = true ∷ true ∷ []; inputs = arrays 1 2 ∷ words 3 ∷ [] }
