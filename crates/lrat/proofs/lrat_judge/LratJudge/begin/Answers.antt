use Rattle.std.proofs.Common.{ap, sym, subst, ◌∙◌}
use Rattle.lrat.specs.LratJudges.{LratJudge, judge_of, StandsForLrat}
use Rattle.lrat.proofs.LratJudgeLemmas.{first_piece, first_line}
use Rattle.lrat.proofs.lrat_judge.LratJudge.begin.Goals as goal

pub returns-then-is_letter : goal.returns-then-is_letter
returns-then-is_letter c f text b =
    first_piece f (judge_of c.self.inside) c.take_byte.new.self text c.args.byte (ap (λ (x : LratJudge). x.form) c.self.view_is ∙ c.requires) (λ bytes. sym c.if-is_letter.true ∙ c.is_letter.ensures bytes) c.take_byte.ensures.form (c.take_byte.ensures.stands f)
    (subst (λ (x : LratJudge). StandsForLrat f x text) (sym c.self.view_is) b)

pub returns : goal.returns
returns c f text b =
    first_line f (judge_of c.self-2.inside) c.take.new.self text c.args.byte (ap (λ (x : LratJudge). x.form) c.self-2.view_is ∙ c.requires) (λ bytes. sym c.if-is_letter.false ∙ c.is_letter.ensures bytes) (c.take.ensures.stands f)
    (subst (λ (x : LratJudge). StandsForLrat f x text) (sym c.self-2.view_is) b)
