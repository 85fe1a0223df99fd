use Rattle.std.proofs.Common.{[], ◌∷◌, ◌++◌, sym, subst}
use Rattle.lrat.specs.LratJudges.{LratJudge, judge_of, StandsForLrat}
use Rattle.lrat.proofs.LratJudgeLemmas.{given_lrat}
use Rattle.lrat.proofs.lrat_judge.LratJudge.give.Goals as goal

pub returns-clause-stands : goal.returns-clause-stands
returns-clause-stands c f b =
    given_lrat f (record f { clauses = f.clauses ++ c.args.clause.now ∷ [] }) (judge_of c.self.inside) c.give.new.self (c.give.ensures.stands f) (subst (λ (x : LratJudge). StandsForLrat f x []) (sym c.self.view_is) b)
