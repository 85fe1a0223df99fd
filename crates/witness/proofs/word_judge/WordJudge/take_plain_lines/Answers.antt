use Rattle.std.proofs.Common.{ap, sym, ◌∙◌}
use Rattle.base.proofs.DecimalLemmas.{nothing}
use Rattle.witness.specs.WordStands.{WordJudge}
use Rattle.witness.proofs.StandsLemmas.{no_refusal}
use Rattle.witness.proofs.WordJudgeLemmas.{lines_after, no_lines, one_line}
use Rattle.witness.proofs.word_judge.WordJudge.take_plain_lines.Goals as goal

pub returns-then-is_some-clause-lines : goal.returns-then-is_some-clause-lines
returns-then-is_some-clause-lines c = no_lines c.args.self.now c.args.text.now

pub loop-behind-init : goal.loop-behind-init
loop-behind-init c = (
  no_lines c.args.self.now c.args.text.now,
  ap (λ (j : WordJudge). j.refused) (sym c.self.view_is) ∙ no_refusal c.self.inside.lines.refused (sym c.if-is_some.ensures),
  ap (λ (j : WordJudge). j.line) (sym c.self.view_is) ∙ nothing c.self.inside.line.bytes (sym c.is_empty.ensures ∙ c.if-not-is_empty.false),
)

pub loop-behind-preserved : goal.loop-behind-preserved
loop-behind-preserved c =
    let line = one_line c.loop-behind.self c.take_plain.new.self c.loop-behind.rest.now c.in-Some.behind.now c.in-Some.ensures.line in (
      lines_after c.args.self.now c.loop-behind.self c.take_plain.new.self c.args.text.now c.loop-behind.rest.now c.in-Some.behind.now c.loop-behind.invariant.0 line,
      c.take_plain.ensures.unrefused,
      c.take_plain.ensures.begins,
    )
