use Rattle.std.proofs.Common.{sym, ◌∙◌}
use Rattle.lrat.proofs.TextJudgeLemmas.{taken_all}
use Rattle.lrat.proofs.text_judge.TextJudge.take_from.Goals as goal

pub returns-then-is_closed-clause-stands : goal.returns-then-is_closed-clause-stands
returns-then-is_closed-clause-stands c f text stands = taken_all f c.args.self.now text c.args.bytes.now c.args.at (sym c.is_closed.ensures ∙ c.if-is_closed.true) c.requires stands
