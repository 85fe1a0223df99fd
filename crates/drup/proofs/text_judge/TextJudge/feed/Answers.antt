use Rattle.drup.proofs.text_judge.TextJudge.feed.Goals as goal

pub loop-place-preserved : goal.loop-place-preserved
loop-place-preserved c = (c.take_more-place.ensures.inside, λ f text stands. c.take_more-place.ensures.stands f text (c.loop-place.invariant.1 f text stands))
