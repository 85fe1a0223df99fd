use Rattle.lrat.proofs.text_judge.TextJudge.finish.Goals as goal

pub returns : goal.returns
returns c f text s = c.judgement.ensures f text (c.end_text.ensures f text s)
