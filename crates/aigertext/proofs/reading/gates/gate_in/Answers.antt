use Rattle.aigertext.proofs.GateBackLemmas.{bytes_of, gate-back}
use Rattle.aigertext.proofs.reading.gates.gate_in.Goals as goal

pub returns-in-Ok : goal.returns-in-Ok
returns-in-Ok c = rw c.in-Binary.is (gate-back c.args.own c.args.text.now c.in-Ok.found.0 c.in-Ok.found.1.now (bytes_of c.args.text.now c.type_inv.text) c.in-Ok.ensures.gives).0
