use Rattle.std.proofs.Common.{sym, ◌∙◌}
use Rattle.lrat.proofs.StepReaderLemmas.{read_closed, read_open, read_cut}
use Rattle.lrat.proofs.step_reader.StepReader.close.Goals as goal

pub returns-then-is_closed-clause-read : goal.returns-then-is_closed-clause-read
returns-then-is_closed-clause-read c f marks s = read_closed f c.args.self.now marks c.args.last (sym c.is_closed.ensures ∙ c.if-is_closed.true) s

pub returns-then-not-has_begun-clause-read : goal.returns-then-not-has_begun-clause-read
returns-then-not-has_begun-clause-read c f marks s = read_open f c.args.self.now marks c.args.last (sym c.is_closed.ensures ∙ c.if-is_closed.false) (sym c.has_begun.ensures ∙ c.if-not-has_begun.true) s

pub returns-clause-read : goal.returns-clause-read
returns-clause-read c f marks s =
    read_cut f c.args.self.now c.refuse.new.self marks c.args.last (sym c.is_closed.ensures ∙ c.if-is_closed.false) c.refuse.ensures.failed c.refuse.ensures.variables c.refuse.ensures.closed (sym c.has_begun.ensures ∙ c.if-not-has_begun.false) c.refuse.ensures.takes s
