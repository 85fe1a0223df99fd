use Rattle.lrat.proofs.text_judge.TextJudge.end_step.Goals as goal

pub returns-clause-stands : goal.returns-clause-stands
returns-clause-stands c f text stands = c.take_zero.ensures.stands f text (c.take_hints-next.ensures.stands f text stands)
