use Rattle.std.proofs.Common.{rules, ◌++◌, ◌+◌, ℕ, Option, drop, sym, ap, ◌∙◌, arith}
use Rattle.subcommands.specs.Subjects.{bad_said, first_said, firsts_said}
use Rattle.subcommands.proofs.SubjectLemmas.{firsts_next, more_told}
use Rattle.subcommands.proofs.subjects.tell_firsts.Goals as goal

pub loop-position-preserved : goal.loop-position-preserved
loop-position-preserved g c = record {
  told = more_told (g.E.Sink.written c.args.err.now) (g.E.Sink.written c.loop-position.err) (g.E.Sink.written c.tell_first.new.err) (firsts_said (bad_said c.args.subject) 0 c.args.firsts.now)
      (first_said (bad_said c.args.subject) c.loop-position.position c.frame.result)
      (firsts_said (bad_said c.args.subject) c.loop-position.position (drop c.loop-position.position c.args.firsts.now))
      (firsts_said (bad_said c.args.subject) (c.loop-position.position + 1) (drop (c.loop-position.position + 1) c.args.firsts.now))
      c.loop-position.invariant.told c.in_ok-tell_first.ensures.written
      (firsts_next (bad_said c.args.subject) c.loop-position.position c.args.firsts.now (omega (arith, c.loop-position-test.true, c.len-position-end.ensures))
      ∙ ap (λ (o : Option ℕ). first_said (bad_said c.args.subject) c.loop-position.position o ++ firsts_said (bad_said c.args.subject) (c.loop-position.position + 1) (drop (c.loop-position.position + 1) c.args.firsts.now)) (sym c.frame.ensures));
  counted = search rules;
}
