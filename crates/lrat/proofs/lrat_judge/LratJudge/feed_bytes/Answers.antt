use Rattle.std.proofs.Common.{List, ℕ, ◌++◌, refl, sym, subst, ◌∙◌, append-nil, arith}
use Rattle.std.proofs.lemmas.List.{take_all}
use Rattle.lrat.specs.LratJudges.{StandsForBytes}
use Rattle.lrat.proofs.lrat_judge.LratJudge.feed_bytes.Goals as goal

pub loop-at-init : goal.loop-at-init
loop-at-init c = record { stands = λ f text stands. subst (StandsForBytes f c.args.self.now) (sym (append-nil text)) stands; form = refl; within = omega arith }

pub loop-at-preserved : goal.loop-at-preserved
loop-at-preserved c = record {
  stands = λ f text stands. c.take_some-at.ensures.stands f text (c.loop-at.invariant.stands f text stands);
  form = c.take_some-at.ensures.form ∙ c.loop-at.invariant.form;
  within = c.take_some-at.ensures.behind.1;
}

pub returns-clause-stands : goal.returns-clause-stands
returns-clause-stands c f text stands =
    subst (λ (t : List ℕ). StandsForBytes f c.loop-at.self (text ++ t)) (take_all c.loop-at.at c.args.bytes.now (omega (arith, c.loop-at-test.false))) (c.loop-at.invariant.stands f text stands)
