use Rattle.base.proofs.PenLemmas.{writes_none}
use Rattle.lift.proofs.lifter.Lifter.put_admitted.Goals as goal

pub returns-else-admitted : goal.returns-else-admitted
returns-else-admitted g c = rw c.if-admitted.false writes_none
