use Rattle.std.proofs.Common.{rules, ap, ◌∙◌, arith}
use Rattle.base.specs.Lines.{whole_lines}
use Rattle.base.proofs.LineLemmas.{whole_lines-line, whole_lines-last}
use Rattle.requests.specs.Told.{line_said, lines_said}
use Rattle.requests.proofs.LineLemmas.{all_told}
use Rattle.subcommands.proofs.SubjectLemmas.{more_told}
use Rattle.requests.proofs.told_lines.write_lines.Goals as goal

pub loop-line-smaller : goal.loop-line-smaller
loop-line-smaller g c = rw (c.in-Some.ensures.0, whole_lines-line c.in-Some.line.now c.in-Some.behind.now c.in-Some.ensures.1) (omega arith)

pub loop-line-preserved : goal.loop-line-preserved
loop-line-preserved g c = record {
  told = more_told (g.O.Sink.written c.args.out.now) (g.O.Sink.written c.loop-line.out) (g.O.Sink.written c.write_line.new.out) (lines_said c.args.number (whole_lines c.args.text.now))
      (line_said c.args.number c.in-Some.line.now) (lines_said c.args.number (whole_lines c.loop-line.rest.now)) (lines_said c.args.number (whole_lines c.in-Some.behind.now)) c.loop-line.invariant.told
      c.in_ok-write_line.ensures.written
      (ap (λ text. lines_said c.args.number (whole_lines text)) c.in-Some.ensures.0 ∙ ap (lines_said c.args.number) (whole_lines-line c.in-Some.line.now c.in-Some.behind.now c.in-Some.ensures.1));
  counted = search rules;
}

pub returns-clause-written : goal.returns-clause-written
returns-clause-written g c = all_told (g.O.Sink.written c.args.out.now) (g.O.Sink.written c.loop-line.out) (lines_said c.args.number (whole_lines c.args.text.now)) (lines_said c.args.number (whole_lines c.loop-line.rest.now)) c.loop-line.invariant.told
    (ap (lines_said c.args.number) (whole_lines-last c.loop-line.rest.now c.in_default.ensures))
