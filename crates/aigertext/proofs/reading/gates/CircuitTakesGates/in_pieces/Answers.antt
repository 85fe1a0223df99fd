use Rattle.aigertext.proofs.PutsLemmas.{circuit_pieces}
use Rattle.aigertext.proofs.reading.gates.CircuitTakesGates.in_pieces.Goals as goal

pub returns : goal.returns
returns c = λ form greatest. circuit_pieces form
