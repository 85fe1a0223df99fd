use Rattle.lrat.proofs.text_judge.TextJudge.take_some.Goals as goal

pub returns-clause-stands : goal.returns-clause-stands
returns-clause-stands c f text stands =
    c.end_step.ensures.stands f text (c.take_zero-zero.ensures.stands f text (c.take_literals-behind.ensures.stands f text (c.take_from-next.ensures.stands f text stands)))
