use Rattle.std.proofs.Common.{sym, ◌∙◌}
use Rattle.unfit.proofs.StepLemmas.{line_stays, line_taken}
use Rattle.unfit.proofs.unfitter.take_line.Goals as goal

pub returns-then-admits-clause-takes : goal.returns-then-admits-clause-takes
returns-then-admits-clause-takes g c start from narrow text h =
    line_taken g.K.Sink.written g.K.Sink.failures start c.args.sink.now from c.args.pen.now c.args.wide.now narrow c.args.judge.now c.admits.new.judge c.args.frame.now text c.args.line.now c.requires.is_line h (c.admits.ensures.judged narrow text h.stands) c.take_admitted.new.sink c.take_admitted.new.pen c.take_admitted.new.self c.closed_frames-number.result
    (sym c.if-admits.true ∙ c.admits.ensures.admitted narrow text h.stands) (c.closed_frames-number.ensures narrow text h.stands) c.take_admitted.ensures

pub returns-else-admits-clause-takes : goal.returns-else-admits-clause-takes
returns-else-admits-clause-takes g c start from narrow text h =
    line_stays g.K.Sink.written g.K.Sink.failures start c.args.sink.now from c.args.pen.now c.args.wide.now narrow c.args.judge.now c.admits.new.judge c.args.frame.now text c.args.line.now c.requires.is_line h (c.admits.ensures.judged narrow text h.stands)
    (sym c.if-admits.false ∙ c.admits.ensures.admitted narrow text h.stands)
