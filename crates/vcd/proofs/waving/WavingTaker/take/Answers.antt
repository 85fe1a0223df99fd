use Rattle.vcd.proofs.WaverLemmas.{takes_more}
use Rattle.vcd.proofs.waving.WavingTaker.take.Goals as goal

pub returns : goal.returns
returns g c over text h = takes_more h c.take.ensures
