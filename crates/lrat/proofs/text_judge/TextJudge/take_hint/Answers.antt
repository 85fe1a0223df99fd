use Rattle.std.proofs.Common.{ap, sym, subst, ◌∙◌}
use Rattle.lrat.specs.declared.token.Token.TheVariants as token
use Rattle.lrat.specs.TextJudges.{TextJudge, IsReady, StandsForLines}
use Rattle.lrat.proofs.TextJudgeLemmas.{ready_word}
use Rattle.lrat.proofs.text_judge.TextJudge.take_hint.Goals as goal

pub returns-clause-stands : goal.returns-clause-stands
returns-clause-stands c f text first rest behind word not parts stands =
    ready_word f (record { reader = c.self.inside.reader; line = c.self.inside.line; place = c.self.inside.place; word = c.self.inside.word }) text first rest behind (token.Number c.args.number) c.take_among_hints.new.self
    (subst (λ (x : TextJudge). IsReady x) (sym c.self.view_is) c.requires.ready) (ap (λ (x : TextJudge). x.reader.closed) c.self.view_is ∙ c.requires.hints.going) word not parts
    (c.take_among_hints.ensures.stands, c.take_among_hints.ensures.variables) (subst (λ (x : TextJudge). StandsForLines f x text) (sym c.self.view_is) stands)
