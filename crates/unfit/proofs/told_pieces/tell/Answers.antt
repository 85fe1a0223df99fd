use Rattle.unfit.proofs.PieceLemmas.{told_is_set, told_past}
use Rattle.unfit.proofs.told_pieces.tell.Goals as goal

pub returns-then-index-pieces : goal.returns-then-index-pieces
returns-then-index-pieces c = told_is_set c.args.pieces.now c.args.index c.args.word _ c.if-index-pieces.true

pub returns-else-index-pieces : goal.returns-else-index-pieces
returns-else-index-pieces c = told_past c.args.pieces.now c.args.index c.args.word c.if-index-pieces.false
