use Rattle.std.proofs.Common.{[], ◌∷◌, ◌++◌, sym, ◌∙◌}
use Rattle.lrat.proofs.TextJudgeLemmas.{bytes_come, bytes_passed, stands_through, stands_behind}
use Rattle.lrat.proofs.text_judge.TextJudge.take.Goals as goal

pub returns-then-is_closed-clause-stands : goal.returns-then-is_closed-clause-stands
returns-then-is_closed-clause-stands c f text s = stands_behind f c.args.self.now text c.args.byte [] (bytes_passed f c.args.self.now text (c.args.byte ∷ []) (sym c.is_closed.ensures ∙ c.if-is_closed.true) (stands_through f c.args.self.now text s))

pub returns-in-Begins-clause-stands : goal.returns-in-Begins-clause-stands
returns-in-Begins-clause-stands c f text s =
    stands_behind f c.begin_line.new.self text c.args.byte []
    (c.begin_line.ensures.stands f (text ++ c.args.byte ∷ []) (bytes_come f c.args.self.now text (c.args.byte ∷ []) (sym c.is_closed.ensures ∙ c.if-is_closed.false) (stands_through f c.args.self.now text s)))

pub returns-in-Within-clause-stands : goal.returns-in-Within-clause-stands
returns-in-Within-clause-stands c f text s =
    stands_behind f c.take_within.new.self text c.args.byte []
    (c.take_within.ensures.stands f (text ++ c.args.byte ∷ []) (bytes_come f c.args.self.now text (c.args.byte ∷ []) (sym c.is_closed.ensures ∙ c.if-is_closed.false) (stands_through f c.args.self.now text s)))

pub returns-in-Comment-clause-stands : goal.returns-in-Comment-clause-stands
returns-in-Comment-clause-stands c f text s =
    stands_behind f c.pass.new.self text c.args.byte []
    (c.pass.ensures.stands f (text ++ c.args.byte ∷ []) (bytes_come f c.args.self.now text (c.args.byte ∷ []) (sym c.is_closed.ensures ∙ c.if-is_closed.false) (stands_through f c.args.self.now text s)))
