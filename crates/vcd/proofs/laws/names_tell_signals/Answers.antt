use Rattle.vcd.proofs.LawLemmas.{one_signal}
use Rattle.vcd.proofs.laws.names_tell_signals.Goals as goal

pub returns : goal.returns
returns c = one_signal
