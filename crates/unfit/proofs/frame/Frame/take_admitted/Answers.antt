use Rattle.std.proofs.Common.{[], sym, ◌∙◌}
use Rattle.base.proofs.PenLemmas.{writes_none}
use Rattle.unfit.proofs.TakeLemmas.{keeps_line, puts_line}
use Rattle.unfit.proofs.frame.Frame.take_admitted.Goals as goal

pub returns-then-keeps : goal.returns-then-keeps
returns-then-keeps g c = record { put = []; writes = writes_none; is = keeps_line c.args.wide.now c.args.number c.args.line.now c.args.self.now c.tell.new.self (sym c.keeps.ensures ∙ c.if-keeps.true) c.tell.ensures }

pub returns : goal.returns
returns g c = record { put = _; writes = c.put_line.ensures.puts; is = puts_line c.args.wide.now c.args.number c.args.line.now c.args.self.now c.put_line.new.self (sym c.keeps.ensures ∙ c.if-keeps.false) c.put_line.ensures.opens }
