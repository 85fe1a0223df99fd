use Rattle.std.proofs.Common.{sym, subst}
use Rattle.lrat.specs.LratJudges.{LratJudge, judge_of, EndsLrat}
use Rattle.lrat.proofs.LratJudgeLemmas.{judges_empty, judges_lines, judges_bytes}
use Rattle.lrat.proofs.lrat_judge.LratJudge.judgement.Goals as goal

pub returns-in-Empty : goal.returns-in-Empty
returns-in-Empty c f text b = judges_empty f (judge_of c.self.inside) text c.finish.result c.in-Empty.is (c.finish.ensures f) (subst (λ (x : LratJudge). EndsLrat f x text) (sym c.self.view_is) b)

pub returns-in-Lines : goal.returns-in-Lines
returns-in-Lines c f text b = judges_lines f (judge_of c.self.inside) text c.finish-in-Lines.result c.in-Lines.is (c.finish-in-Lines.ensures f) (subst (λ (x : LratJudge). EndsLrat f x text) (sym c.self.view_is) b)

pub returns-in-Bytes : goal.returns-in-Bytes
returns-in-Bytes c f text b = judges_bytes f (judge_of c.self.inside) text c.finish_words.result c.in-Bytes.is (c.finish_words.ensures f) (subst (λ (x : LratJudge). EndsLrat f x text) (sym c.self.view_is) b)
