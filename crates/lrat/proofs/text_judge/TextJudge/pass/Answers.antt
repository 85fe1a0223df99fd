use Rattle.std.proofs.Common.{sym, subst}
use Rattle.std.proofs.lemmas.Bool.{eq-eqb, ne_eqb}
use Rattle.lrat.specs.TextJudges.{TextJudge, StandsThrough}
use Rattle.lrat.proofs.TextJudgeLemmas.{stands_comment_end, stands_comment_on}
use Rattle.lrat.proofs.text_judge.TextJudge.pass.Goals as goal

pub returns-then-byte-eq10-clause-stands : goal.returns-then-byte-eq10-clause-stands
returns-then-byte-eq10-clause-stands c f text b =
    subst (λ (x : TextJudge). StandsThrough f x text) (sym c.end_line.ensures) (stands_comment_end f c.args.self.now text c.args.byte c.requires.open c.requires.comment (eq-eqb c.args.byte 10 c.if-byte-eq10.true) b)

pub returns-else-byte-eq10-clause-stands : goal.returns-else-byte-eq10-clause-stands
returns-else-byte-eq10-clause-stands c f text b = stands_comment_on f c.args.self.now text c.args.byte c.requires.open c.requires.comment (ne_eqb c.args.byte 10 c.if-byte-eq10.false) b
