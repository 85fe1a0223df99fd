use Rattle.std.proofs.Common.{[], sym, subst}
use Rattle.witness.specs.BitStands.{PlaysSaid, bit_judging, lines_of}
use Rattle.witness.proofs.StandsLemmas.{stays_refused, stays_read, no_refusal, some_refusal}
use Rattle.witness.proofs.BitJudgeLemmas.{claims_more}
use Rattle.witness.proofs.bit_lines.BitLines.take.Goals as goal

pub returns-then-is_none-clause-lines : goal.returns-then-is_none-clause-lines
returns-then-is_none-clause-lines c circuit lines whole is front = c.judge.ensures.lines circuit lines whole is front (no_refusal c.args.self.now.refused c.if-is_none.ensures)

pub returns-else-is_none-clause-lines : goal.returns-else-is_none-clause-lines
returns-else-is_none-clause-lines c circuit lines whole is front =
    let refused = some_refusal c.args.self.now.refused c.if-is_none.ensures in (
      stays_refused (bit_judging circuit) (claims_more circuit) lines whole [] (lines_of c.args.self.now) is refused.0 refused.1 tt,
      λ p played. subst (λ r. PlaysSaid circuit r p) (sym (stays_read (bit_judging circuit) (claims_more circuit) lines whole [] (lines_of c.args.self.now) is refused.0 refused.1)) played,
    )
