use Rattle.std.proofs.Common.{[], ◌∷◌, ap, sym, subst, ◌∙◌}
use Rattle.std.proofs.lemmas.Bool.{eq-eqb, ne_eqb}
use Rattle.lrat.specs.TextJudges.{TextJudge, StandsBefore}
use Rattle.lrat.proofs.TextJudgeLemmas.{word_line, word_blank, stands_letter}
use Rattle.lrat.proofs.text_judge.TextJudge.take_within.Goals as goal

pub returns-then-byte-eq10-clause-stands : goal.returns-then-byte-eq10-clause-stands
returns-then-byte-eq10-clause-stands c f text b =
    word_line f c.args.self.now c.end_word.new.self c.end_line.new.self text c.args.byte c.requires.open c.requires.within (eq-eqb c.args.byte 10 c.if-byte-eq10.true)
    (c.end_word.ensures.words, c.end_word.ensures.word, c.end_word.ensures.same.0) (c.end_word.ensures.same.1, c.end_word.ensures.same.2) c.end_line.ensures b

pub returns-then-is_blank-clause-stands : goal.returns-then-is_blank-clause-stands
returns-then-is_blank-clause-stands c f text b =
    word_blank f c.args.self.now c.end_word-then-is_blank.new.self text c.args.byte c.requires.open c.requires.within (ne_eqb c.args.byte 10 c.if-byte-eq10.false) (sym c.is_blank.ensures ∙ c.if-is_blank.true)
    (c.end_word-then-is_blank.ensures.words, c.end_word-then-is_blank.ensures.word, c.end_word-then-is_blank.ensures.same.0) (c.end_word-then-is_blank.ensures.same.1, c.end_word-then-is_blank.ensures.same.2) b

pub returns-clause-stands : goal.returns-clause-stands
returns-clause-stands c f text b =
    stands_letter f (record { reader = c.self.inside.reader; line = c.self.inside.line; place = c.self.inside.place; word = c.self.inside.word }) text c.args.byte c.with-self-inside.result (ap (λ (x : TextJudge). x.reader.closed) c.self.view_is ∙ c.requires.open) (ap (λ (x : TextJudge). x.place) c.self.view_is ∙ c.requires.within)
    (ne_eqb c.args.byte 10 c.if-byte-eq10.false) (sym c.is_blank.ensures ∙ c.if-is_blank.false) c.with-self-inside.ensures
    (subst (λ (x : TextJudge). StandsBefore f x text (c.args.byte ∷ [])) (sym c.self.view_is) b)
