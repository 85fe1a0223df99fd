use Rattle.lrat.proofs.lrat_judge.LratJudge.finish.Goals as goal

pub returns : goal.returns
returns c f text s = c.judgement.ensures f text (c.end.ensures f text s)
