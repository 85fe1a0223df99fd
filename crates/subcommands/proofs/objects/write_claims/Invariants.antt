use Rattle.std.proofs.Common.{◌≡◌, false, drop}
use Rattle.subcommands.specs.Objects.{claim_objects, names}
use Rattle.subcommands.proofs.SubjectLemmas.{Told}
use Rattle.subcommands.proofs.objects.write_claims.Given as goal

abbrev pub invariant-loop-position : goal.invariant-loop-position
invariant-loop-position g l = record {
  told : Told (g.O.Sink.written l.initial.out) (g.O.Sink.written l.out) (claim_objects (names l.subject) false 0 l.firsts) (claim_objects (names l.subject) l.is_behind l.position (drop l.position l.firsts));
  counted : g.O.Sink.failures l.out ≡ g.O.Sink.failures l.initial.out;
}
