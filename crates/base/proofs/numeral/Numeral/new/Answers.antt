use Rattle.base.proofs.NumeralLemmas.{counts_nothing}
use Rattle.base.proofs.numeral.Numeral.new.Goals as goal

pub returns : goal.returns
returns c = counts_nothing
