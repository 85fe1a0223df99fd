use Rattle.base.proofs.PenLemmas.{writes_none}
use Rattle.lift.proofs.pieces.put_leaf.Goals as goal

pub returns-else-takes : goal.returns-else-takes
returns-else-takes g c = rw c.if-takes.false writes_none
