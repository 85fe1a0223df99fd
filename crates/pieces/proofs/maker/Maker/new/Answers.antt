use Rattle.pieces.proofs.KeptLemmas.{kept_new}
use Rattle.pieces.proofs.maker.Maker.new.Goals as goal

pub invariant_of-result : goal.invariant_of-result
invariant_of-result c = rw (c.new.ensures, c.from.ensures) (kept_new c.args.first c.requires.least c.requires.greatest)
