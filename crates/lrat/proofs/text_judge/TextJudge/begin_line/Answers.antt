use Rattle.std.proofs.Common.{[], ◌∷◌, ap, sym, subst, ◌∙◌}
use Rattle.std.proofs.lemmas.Bool.{eq-eqb, ne_eqb}
use Rattle.lrat.specs.TextJudges.{TextJudge, StandsBefore}
use Rattle.lrat.proofs.TextJudgeLemmas.{stands_too_long, stands_comment, stands_within}
use Rattle.lrat.proofs.text_judge.TextJudge.begin_line.Goals as goal

pub returns-then-is_too_many-clause-stands : goal.returns-then-is_too_many-clause-stands
returns-then-is_too_many-clause-stands c f text b =
    stands_too_long f (record { reader = c.self.inside.reader; line = c.self.inside.line; place = c.self.inside.place; word = c.self.inside.word }) text c.args.byte c.refuse_word.new.self (ap (λ (x : TextJudge). x.reader.closed) c.self.view_is ∙ c.requires.open) (ap (λ (x : TextJudge). x.place) c.self.view_is ∙ c.requires.begins)
    (sym c.is_too_many.ensures ∙ c.if-is_too_many.true) c.refuse_word.ensures.closed c.refuse_word.ensures.variables c.refuse_word.ensures.stands
    (subst (λ (x : TextJudge). StandsBefore f x text (c.args.byte ∷ [])) (sym c.self.view_is) b)

pub returns-then-byte-eq99-clause-stands : goal.returns-then-byte-eq99-clause-stands
returns-then-byte-eq99-clause-stands c f text b =
    stands_comment f (record { reader = c.self.inside.reader; line = c.self.inside.line; place = c.self.inside.place; word = c.self.inside.word }) text c.args.byte (ap (λ (x : TextJudge). x.reader.closed) c.self.view_is ∙ c.requires.open) (ap (λ (x : TextJudge). x.place) c.self.view_is ∙ c.requires.begins)
    (sym c.is_too_many.ensures ∙ c.if-is_too_many.false) (eq-eqb c.args.byte 99 c.if-byte-eq99.true)
    (subst (λ (x : TextJudge). StandsBefore f x text (c.args.byte ∷ [])) (sym c.self.view_is) b)

pub returns-clause-stands : goal.returns-clause-stands
returns-clause-stands c f text b =
    c.take_within.ensures.stands f text
    (stands_within f (record { reader = c.self.inside.reader; line = c.self.inside.line; place = c.self.inside.place; word = c.self.inside.word }) text c.args.byte (ap (λ (x : TextJudge). x.reader.closed) c.self.view_is ∙ c.requires.open) (ap (λ (x : TextJudge). x.place) c.self.view_is ∙ c.requires.begins)
    (sym c.is_too_many.ensures ∙ c.if-is_too_many.false) (ne_eqb c.args.byte 99 c.if-byte-eq99.false)
    (subst (λ (x : TextJudge). StandsBefore f x text (c.args.byte ∷ [])) (sym c.self.view_is) b))
