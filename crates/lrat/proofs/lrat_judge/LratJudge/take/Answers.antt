use Rattle.std.proofs.Common.{[], ◌∷◌, ap, sym, subst, ◌∙◌}
use Rattle.lrat.specs.LratJudges.{LratJudge, judge_of, StandsForLrat}
use Rattle.lrat.proofs.LratJudgeLemmas.{lines_more, bytes_more}
use Rattle.lrat.proofs.lrat_judge.LratJudge.take.Goals as goal

pub returns-in-Lines : goal.returns-in-Lines
returns-in-Lines c f text b =
    lines_more f (judge_of c.self.inside) c.take.new.self text (c.args.byte ∷ []) (ap (λ (x : LratJudge). x.form) c.self.view_is ∙ (sym c.form.ensures ∙ c.in-Lines.is)) (c.take.ensures.stands f)
    (subst (λ (x : LratJudge). StandsForLrat f x text) (sym c.self.view_is) b)

pub returns-in-Bytes : goal.returns-in-Bytes
returns-in-Bytes c f text b = bytes_more f c.args.self.now c.take_byte.new.self text (c.args.byte ∷ []) (sym c.form.ensures ∙ c.in-Bytes.is) c.take_byte.ensures.form (c.take_byte.ensures.stands f) b
