use Rattle.std.proofs.Common.{◌≡◌, drop}
use Rattle.subcommands.specs.Subjects.{bad_said, firsts_said}
use Rattle.subcommands.proofs.SubjectLemmas.{Told}
use Rattle.subcommands.proofs.subjects.tell_firsts.Given as goal

abbrev pub invariant-loop-position : goal.invariant-loop-position
invariant-loop-position g l = record {
  told : Told (g.E.Sink.written l.initial.err) (g.E.Sink.written l.err) (firsts_said (bad_said l.subject) 0 l.firsts) (firsts_said (bad_said l.subject) l.position (drop l.position l.firsts));
  counted : g.E.Sink.failures l.err ≡ g.E.Sink.failures l.initial.err;
}
