use Rattle.std.proofs.Common.{◌≡◌, length}
use Rattle.base.specs.Device.{Sent}
use Rattle.base.proofs.sinks.write_all.Given as goal

abbrev pub invariant-loop-rest : goal.invariant-loop-rest
invariant-loop-rest g l = record {
  sent : Sent (g.K.Sink.written l.initial.sink) (g.K.Sink.written l.sink) l.bytes l.rest;
  counted : g.K.Sink.failures l.sink ≡ g.K.Sink.failures l.initial.sink;
}

abbrev pub decreases-loop-rest : goal.decreases-loop-rest
decreases-loop-rest g l = length l.rest
