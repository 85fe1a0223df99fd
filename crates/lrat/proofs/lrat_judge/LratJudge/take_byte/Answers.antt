use Rattle.std.proofs.Common.{[], ◌∷◌, sym, ◌∙◌}
use Rattle.lrat.proofs.LratJudgeLemmas.{piece_passed}
use Rattle.lrat.proofs.lrat_judge.LratJudge.take_byte.Goals as goal

pub returns-then-is_closed-clause-stands : goal.returns-then-is_closed-clause-stands
returns-then-is_closed-clause-stands c f text b = piece_passed f c.args.self.now text (c.args.byte ∷ []) (sym c.is_closed.ensures ∙ c.if-is_closed.true) b
