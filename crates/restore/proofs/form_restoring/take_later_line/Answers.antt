use Rattle.std.proofs.Common.{sym, ◌∙◌, arith}
use Rattle.restore.proofs.FormTakeLemmas.{goes_same, goes_initial, goes_end, goes_frame}
use Rattle.restore.proofs.form_restoring.take_later_line.Goals as goal

pub returns-then-not-admits-clause-takes : goal.returns-then-not-admits-clause-takes
returns-then-not-admits-clause-takes g c start from d first j text wide h =
    goes_same _ _ _ _ _ _ _ _ _ _ _ _ _ _ _ c.requires.is_line h (c.admits.ensures.judged d text h.at) (sym c.if-not-admits.true ∙ c.admits.ensures.admitted d text h.at)

pub returns-then-number-eq2-clause-takes : goal.returns-then-number-eq2-clause-takes
returns-then-number-eq2-clause-takes g c start from d first j text wide h =
    goes_initial _ _ _ _ _ _ _ _ _ _ _ _ _ _ _ c.requires.is_line h (c.admits.ensures.judged d text h.at) (sym c.if-not-admits.false ∙ c.admits.ensures.admitted d text h.at) (sym (c.admitted_lines-number.ensures d text h.at) ∙ c.if-number-eq2.true)

pub returns-then-same_line-clause-takes : goal.returns-then-same_line-clause-takes
returns-then-same_line-clause-takes g c start from d first j text wide h =
    goes_end _ _ _ _ _ _ _ _ _ _ _ _ _ _ _ c.requires.is_line h (c.admits.ensures.judged d text h.at) _ _ (sym c.if-not-admits.false ∙ c.admits.ensures.admitted d text h.at)
    (λ two. let number = c.admitted_lines-number.ensures d text h.at in let not_two = c.if-number-eq2.false in grind arith) (sym c.same_line.ensures ∙ c.if-same_line.true) c.put_end.ensures

pub returns-then-same_line-clause-writes : goal.returns-then-same_line-clause-writes
returns-then-same_line-clause-writes g c = (_, c.put_end.ensures)

pub returns-clause-takes : goal.returns-clause-takes
returns-clause-takes g c start from d first j text wide h =
    goes_frame _ _ _ _ _ _ _ _ _ _ _ _ _ _ _ c.requires.is_line h (c.admits.ensures.judged d text h.at) _ _ _ (sym c.if-not-admits.false ∙ c.admits.ensures.admitted d text h.at)
    (λ two. let number = c.admitted_lines-number.ensures d text h.at in let not_two = c.if-number-eq2.false in grind arith) (sym c.same_line.ensures ∙ c.if-same_line.false)
    (λ many given t. c.take_frame.ensures.takes start from first given (many ∙ wide) t)
