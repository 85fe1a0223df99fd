use Rattle.rejoin.proofs.AlikeLemmas.{shapes_cut}
use Rattle.rejoin.proofs.laws.shapes_are_cut.Goals as goal

pub returns : goal.returns
returns c = shapes_cut
