use Rattle.unfit.proofs.PieceLemmas.{untold_more}
use Rattle.unfit.proofs.told_pieces.forget.Goals as goal

pub loop-piece-preserved : goal.loop-piece-preserved
loop-piece-preserved c = untold_more c.args.pieces.now c.loop-piece.pieces c.loop-piece.piece-index _ c.loop-piece-test.true c.loop-piece.invariant
