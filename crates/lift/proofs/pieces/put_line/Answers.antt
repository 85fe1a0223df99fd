use Rattle.std.proofs.Common.{[], ◌∷◌, ◌++◌, append-nil}
use Rattle.base.proofs.PenLemmas.{writes_then}
use Rattle.lift.proofs.pieces.put_line.Goals as goal

pub returns : goal.returns
returns g c = rw (append-nil (c.args.line.now ++ 10 ∷ [])) (writes_then c.put.ensures c.put-2.ensures)
