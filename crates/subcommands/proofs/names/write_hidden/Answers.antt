use Rattle.std.proofs.Common.{rules, ℕ, [], ◌∷◌, ap, subst}
use Rattle.std.specs.Io.KnownBytes.{Appends}
use Rattle.subcommands.specs.Names.{harmless, harmless_behind, told_byte}
use Rattle.subcommands.proofs.SubjectLemmas.{more_told}
use Rattle.subcommands.proofs.names.write_hidden.Goals as goal

pub loop-byte-preserved : goal.loop-byte-preserved
loop-byte-preserved g c = record {
  told = more_told (g.E.Sink.written c.args.err.now) (g.E.Sink.written c.loop-byte.err) (g.E.Sink.written c.write_all.new.sink) (harmless c.args.name.now)
      (told_byte c.loop-byte.before c.in-Some.byte.now ∷ []) (harmless_behind c.loop-byte.before c.loop-byte.rest.now) (harmless_behind c.in-Some.byte.now c.in-Some.behind.now) c.loop-byte.invariant.told
      (subst (λ (b : ℕ). Appends (g.E.Sink.written c.loop-byte.err) (g.E.Sink.written c.write_all.new.sink) (b ∷ [])) c.told_byte.ensures c.in_ok-write_all.ensures.ok)
      (ap (harmless_behind c.loop-byte.before) c.in-Some.ensures.cases.0);
  counted = search rules;
}
