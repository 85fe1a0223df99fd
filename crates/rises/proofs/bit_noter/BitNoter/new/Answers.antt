use Rattle.std.proofs.Common.{Bool, cond, length, ap}
use Rattle.rises.proofs.NoteLemmas.{bits_none}
use Rattle.rises.proofs.bit_noter.BitNoter.new.Goals as goal

pub returns-in-Ok : goal.returns-in-Ok
returns-in-Ok c =
    bits_none c.args.noted c.args.circuit.now (record { judge = c.in_ok-judge.judge; firsts = c.in-Ok.firsts }) _ (λ on. ap (λ (b : Bool). cond b (length c.args.circuit.now.bads) 0) on)
    c.in_ok-judge.ensures c.in-Ok.ensures
