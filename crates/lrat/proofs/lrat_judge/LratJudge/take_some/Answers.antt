use Rattle.lrat.proofs.lrat_judge.LratJudge.take_some.Goals as goal

pub returns-clause-stands : goal.returns-clause-stands
returns-clause-stands c f text b = c.take_hints.ensures.stands f text (c.take_literals-behind.ensures.stands f text (c.take_piece-next.ensures.stands f text b))
