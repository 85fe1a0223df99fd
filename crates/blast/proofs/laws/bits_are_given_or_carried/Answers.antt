use Rattle.blast.proofs.WidthLemmas.{leaves_width}
use Rattle.blast.proofs.laws.bits_are_given_or_carried.Goals as goal

pub returns : goal.returns
returns c = leaves_width
