use Rattle.std.proofs.Common.{◌==◌, [], ap, sym, ◌∙◌}
use Rattle.base.proofs.PenLemmas.{writes_none}
use Rattle.restore.specs.Plays.{Play}
use Rattle.restore.proofs.TakenLemmas.{takes_risen, takes_first, takes_later}
use Rattle.restore.proofs.restorer.Restorer.take_frame.Goals as goal

pub returns-then-has_risen-clause-takes : goal.returns-then-has_risen-clause-takes
returns-then-has_risen-clause-takes g c start from first given h =
    takes_risen _ _ _ _ _ _ _ _ _ _ _ h (ap (λ (p : Play). p.risen) (sym c.self.view_is) ∙ sym c.has_risen.ensures ∙ c.if-has_risen.true)

pub returns-then-has_risen-clause-writes : goal.returns-then-has_risen-clause-writes
returns-then-has_risen-clause-writes g c = ([], writes_none)

pub returns-then-is_fresh-clause-takes : goal.returns-then-is_fresh-clause-takes
returns-then-is_fresh-clause-takes g c start from first given h =
    takes_first _ _ _ _ _ _ _ _ _ _ _ h _ _ _ (ap (λ (p : Play). p.risen) (sym c.self.view_is) ∙ sym c.has_risen.ensures ∙ c.if-has_risen.false)
    (ap (λ (p : Play). p.frames == 0) (sym c.self.view_is) ∙ sym c.is_fresh.ensures ∙ c.if-is_fresh.true) c.take_first.ensures.takes c.take_first.ensures.writes

pub returns-then-is_fresh-clause-writes : goal.returns-then-is_fresh-clause-writes
returns-then-is_fresh-clause-writes g c = (_, c.take_first.ensures.writes)

pub returns-else-is_fresh-clause-takes : goal.returns-else-is_fresh-clause-takes
returns-else-is_fresh-clause-takes g c start from first given h =
    takes_later _ _ _ _ _ _ _ _ _ _ _ h _ _ _ (ap (λ (p : Play). p.risen) (sym c.self.view_is) ∙ sym c.has_risen.ensures ∙ c.if-has_risen.false)
    (ap (λ (p : Play). p.frames == 0) (sym c.self.view_is) ∙ sym c.is_fresh.ensures ∙ c.if-is_fresh.false) c.play.ensures.plays c.play.ensures.writes
