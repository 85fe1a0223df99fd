use Rattle.std.proofs.Common.{◌++◌, ◌∷◌, [], ap, sym, subst, ◌∙◌}
use Rattle.std.proofs.lemmas.Bool.{eq-eqb, ne_eqb}
use Rattle.lrat.specs.TextJudges.{TextJudge, IsBetween, StandsForLines}
use Rattle.lrat.proofs.TextJudgeLemmas.{whole_line, whole_word}
use Rattle.lrat.proofs.text_judge.TextJudge.take_whole.Goals as goal

pub returns-then-behind-eq10-clause-stands : goal.returns-then-behind-eq10-clause-stands
returns-then-behind-eq10-clause-stands c f text first rest word ready stands =
    subst (λ (x : TextJudge). StandsForLines f x (text ++ ((first ∷ rest) ++ c.args.behind ∷ []))) (sym c.end_line.ensures)
    (whole_line f (record { reader = c.self.inside.reader; line = c.self.inside.line; place = c.self.inside.place; word = c.self.inside.word }) text first rest c.args.behind c.args.token c.take.new.self
    (ap (λ (x : TextJudge). x.reader.closed) c.self.view_is ∙ c.requires.open) (subst (λ (x : TextJudge). IsBetween x first) (sym c.self.view_is) ready) word (eq-eqb c.args.behind 10 c.if-behind-eq10.true)
    (c.take.ensures.stands, c.take.ensures.variables) (subst (λ (x : TextJudge). StandsForLines f x text) (sym c.self.view_is) stands))

pub returns-else-behind-eq10-clause-stands : goal.returns-else-behind-eq10-clause-stands
returns-else-behind-eq10-clause-stands c f text first rest word ready stands =
    whole_word f (record { reader = c.self.inside.reader; line = c.self.inside.line; place = c.self.inside.place; word = c.self.inside.word }) text first rest c.args.behind c.args.token c.take.new.self
    (ap (λ (x : TextJudge). x.reader.closed) c.self.view_is ∙ c.requires.open) (subst (λ (x : TextJudge). IsBetween x first) (sym c.self.view_is) ready) word (ne_eqb c.args.behind 10 c.if-behind-eq10.false) c.requires.parts
    (c.take.ensures.stands, c.take.ensures.variables) (subst (λ (x : TextJudge). StandsForLines f x text) (sym c.self.view_is) stands)
