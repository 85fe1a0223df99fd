use Rattle.vcd.proofs.waver.Waver.finish.Goals as goal

pub returns : goal.returns
returns c = rw (← c.self.view_is) c.finish.ensures.judged
