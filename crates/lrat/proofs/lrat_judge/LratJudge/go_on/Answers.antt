use Rattle.std.proofs.Common.{ap, sym, subst, ◌∙◌, arith}
use Rattle.std.proofs.lemmas.Bool.{le-ltb}
use Rattle.lrat.specs.LratJudges.{LratJudge, judge_of, StandsForBytes}
use Rattle.lrat.proofs.LratJudgeLemmas.{piece_on}
use Rattle.lrat.proofs.lrat_judge.LratJudge.go_on.Goals as goal

pub returns-clause-stands : goal.returns-clause-stands
returns-clause-stands c f text b =
    piece_on f (judge_of c.self.inside) c.with-self-inside.result text c.args.byte (ap (λ (x : LratJudge). x.text.reader.closed) c.self.view_is ∙ c.requires.open) (le-ltb c.args.byte 128 (omega (arith, c.requires.top)))
    c.with-self-inside.ensures.number c.with-self-inside.ensures.step c.with-self-inside.ensures.spot (subst (λ (x : LratJudge). StandsForBytes f x text) (sym c.self.view_is) b)
