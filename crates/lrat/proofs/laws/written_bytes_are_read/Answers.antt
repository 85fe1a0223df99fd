use Rattle.lrat.proofs.BinaryLratTextLemmas.{bytes_read}
use Rattle.lrat.proofs.laws.written_bytes_are_read.Goals as goal

pub returns : goal.returns
returns c = bytes_read
