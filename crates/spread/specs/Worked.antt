-- A worked row: the shape of a model with one input of 66 bits and a bad property.
use Rattle.std.specs.Prelude.{[], ◌∷◌}
use Rattle.witness.specs.Texts.{Shape}

abbrev pub one_input : Shape
one_input = record { bads = 1; states = []; free = []; inputs = 66 ∷ [] }
