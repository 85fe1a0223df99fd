use Rattle.lrat.proofs.LratTextLemmas.{written_read}
use Rattle.lrat.proofs.laws.written_is_read.Goals as goal

pub returns : goal.returns
returns c = written_read
