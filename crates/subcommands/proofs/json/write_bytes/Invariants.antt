use Rattle.std.proofs.Common.{◌≡◌, length}
use Rattle.subcommands.specs.Objects.{string_bytes_of}
use Rattle.subcommands.proofs.SubjectLemmas.{Told}
use Rattle.subcommands.proofs.json.write_bytes.Given as goal

abbrev pub invariant-loop-byte : goal.invariant-loop-byte
invariant-loop-byte g l = record {
  told : Told (g.O.Sink.written l.initial.out) (g.O.Sink.written l.out) (string_bytes_of l.text) (string_bytes_of l.rest);
  counted : g.O.Sink.failures l.out ≡ g.O.Sink.failures l.initial.out;
}

abbrev pub decreases-loop-byte : goal.decreases-loop-byte
decreases-loop-byte g l = length l.rest
