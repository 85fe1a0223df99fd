use Rattle.std.proofs.Common.{sym}
use Rattle.capi.proofs.certifying.hwtool_obligation_circuit.Goals as goal

pub returns-clause-stops : goal.returns-clause-stops
returns-clause-stops c = rw (sym c.guard_of.ensures) c.write_owed.ensures.stops
