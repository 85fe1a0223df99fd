use Rattle.aigertext.proofs.PutsLemmas.{lists_pieces}
use Rattle.aigertext.proofs.reading.gates.LooseTakesGates.in_pieces.Goals as goal

pub returns : goal.returns
returns c = λ form greatest. lists_pieces greatest
