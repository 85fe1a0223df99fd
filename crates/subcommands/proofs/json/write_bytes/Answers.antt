use Rattle.std.proofs.Common.{rules, ap}
use Rattle.subcommands.specs.Objects.{string_byte, string_bytes_of}
use Rattle.subcommands.proofs.SubjectLemmas.{more_told}
use Rattle.subcommands.proofs.json.write_bytes.Goals as goal

pub loop-byte-preserved : goal.loop-byte-preserved
loop-byte-preserved g c = record {
  told = more_told (g.O.Sink.written c.args.out.now) (g.O.Sink.written c.loop-byte.out) (g.O.Sink.written c.write_byte.new.out) (string_bytes_of c.args.text.now)
      (string_byte c.in-Some.byte.now) (string_bytes_of c.loop-byte.rest.now) (string_bytes_of c.in-Some.behind.now) c.loop-byte.invariant.told
      c.in_ok-write_byte.ensures.written
      (ap string_bytes_of c.in-Some.ensures.cases.0);
  counted = search rules;
}
