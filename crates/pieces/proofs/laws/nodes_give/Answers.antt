use Rattle.pieces.proofs.LawLemmas.{gives}
use Rattle.pieces.proofs.laws.nodes_give.Goals as goal

pub returns : goal.returns
returns c = gives
