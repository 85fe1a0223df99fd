use native.Mathlib.Omega.{arith}
use Rattle.std.proofs.Common.{ap}
use Rattle.aiger.specs.Circuit.{Circuit}
use Rattle.vectors.proofs.OperatorLemmas.{unary_inputs, binary_inputs}
use Rattle.vectors.proofs.circuits.set_operands.Goals as goal

pub set_word-requires-clause-room : goal.set_word-requires-clause-room
set_word-requires-clause-room c = omega (arith, unary_inputs _ _ _ _ _ _ c.requires.inputs c.in-Unary.is)

pub set_word-requires-in-Binary-clause-room : goal.set_word-requires-in-Binary-clause-room
set_word-requires-in-Binary-clause-room c = omega (arith, binary_inputs _ _ _ _ _ _ _ c.requires.inputs c.in-Binary.is)

pub set_word-requires-in-Binary-2-clause-room : goal.set_word-requires-in-Binary-2-clause-room
set_word-requires-in-Binary-2-clause-room c =
    omega (arith, binary_inputs _ _ _ _ _ _ _ c.requires.inputs c.in-Binary.is, c.bits.ensures.same, ap (λ (d : Circuit). d.inputs) c.set_word-in-Binary.ensures.same)
