use Rattle.std.proofs.Common.{◌≡◌, length}
use Rattle.subcommands.specs.Names.{harmless, harmless_behind}
use Rattle.subcommands.proofs.SubjectLemmas.{Told}
use Rattle.subcommands.proofs.names.write_hidden.Given as goal

abbrev pub invariant-loop-byte : goal.invariant-loop-byte
invariant-loop-byte g l = record {
  told : Told (g.E.Sink.written l.initial.err) (g.E.Sink.written l.err) (harmless l.name) (harmless_behind l.before l.rest);
  counted : g.E.Sink.failures l.err ≡ g.E.Sink.failures l.initial.err;
}

abbrev pub decreases-loop-byte : goal.decreases-loop-byte
decreases-loop-byte g l = length l.rest
