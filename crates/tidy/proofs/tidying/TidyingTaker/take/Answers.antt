use Rattle.tidy.proofs.TakenLemmas.{takes_then}
use Rattle.tidy.proofs.tidying.TidyingTaker.take.Goals as goal

pub returns : goal.returns
returns g c over text h = takes_then h c.take_piece.ensures
