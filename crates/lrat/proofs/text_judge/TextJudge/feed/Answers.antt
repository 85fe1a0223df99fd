use Rattle.std.proofs.Common.{List, ℕ, ◌++◌, sym, subst, append-nil, arith}
use Rattle.std.proofs.lemmas.List.{take_all}
use Rattle.lrat.specs.TextJudges.{StandsForLines}
use Rattle.lrat.proofs.text_judge.TextJudge.feed.Goals as goal

pub loop-at-init : goal.loop-at-init
loop-at-init c = record { stands = λ f text stands. subst (StandsForLines f c.args.self.now) (sym (append-nil text)) stands; within = omega arith }

pub loop-at-preserved : goal.loop-at-preserved
loop-at-preserved c = record { stands = λ f text stands. c.take_some-at.ensures.stands f text (c.loop-at.invariant.stands f text stands); within = c.take_some-at.ensures.behind.1 }

pub returns : goal.returns
returns c f text stands =
    subst (λ (t : List ℕ). StandsForLines f c.loop-at.self (text ++ t)) (take_all c.loop-at.at c.args.bytes.now (omega (arith, c.loop-at-test.false))) (c.loop-at.invariant.stands f text stands)
