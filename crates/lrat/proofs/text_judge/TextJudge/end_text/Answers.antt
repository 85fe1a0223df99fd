use Rattle.std.proofs.Common.{sym, ◌∙◌}
use Rattle.lrat.proofs.TextJudgeLemmas.{stands_through, ends_closed, ends_over}
use Rattle.lrat.proofs.text_judge.TextJudge.end_text.Goals as goal

pub returns-then-is_closed : goal.returns-then-is_closed
returns-then-is_closed c f text s = ends_closed f c.args.self.now text (sym c.is_closed.ensures ∙ c.if-is_closed.true) (stands_through f c.args.self.now text s)

pub returns : goal.returns
returns c f text s =
    ends_over f c.args.self.now c.end_word.new.self text (sym c.is_closed.ensures ∙ c.if-is_closed.false) (c.end_word.ensures.words, c.end_word.ensures.word, c.end_word.ensures.same.0) (c.end_word.ensures.same.1, c.end_word.ensures.same.2) (stands_through f c.args.self.now text s)
