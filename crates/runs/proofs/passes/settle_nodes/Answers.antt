use Rattle.std.proofs.Common.{◌≡◌, ◌+◌, ◌-◌, ℕ, length, set, ap, ◌∙◌, arith}
use Rattle.base.specs.Steps.{more_steps}
use Rattle.base.proofs.StepLemmas.{more_steps-sum}
use Rattle.runs.proofs.PassLemmas.{Settling-begin, Settling-fits, Settling-more, Settling-end}
use Rattle.runs.proofs.passes.settle_nodes.Goals as goal

pub loop-at-init : goal.loop-at-init
loop-at-init c = rw (c.take_all.ensures) (Settling-begin c.args.nodes.now c.args.values.now _ c.requires.fit)

pub operator_word-requires : goal.operator_word-requires
operator_word-requires c = (Settling-fits _ _ _ _ _ _ c.index-nodes-at.result c.loop-at.invariant c.loop-at-test.true c.index-nodes-at.is).1

pub loop-at-preserved : goal.loop-at-preserved
loop-at-preserved c =
    Settling-more _ _ _ _ _ _ c.index-nodes-at.result c.loop-at.invariant c.loop-at-test.true c.index-nodes-at.is _ _
    (ap (λ (w : ℕ). set c.loop-at.values c.index-nodes-at.result.place w) c.operator_word.ensures.value) c.operator_word.ensures.step

pub returns-clause-values : goal.returns-clause-values
returns-clause-values c = Settling-end _ _ _ _ _ _ c.loop-at.invariant c.loop-at-test.false

pub returns-clause-steps : goal.returns-clause-steps
returns-clause-steps c =
    let all : c.loop-at.at ≡ length c.args.nodes.now = omega arith in
    let sum : (length c.args.values.now - length c.args.nodes.now) + length c.args.nodes.now ≡ length c.args.values.now = omega (arith, c.requires.most) in
    c.loop-at.invariant.steps ∙ ap (λ (n : ℕ). more_steps n (more_steps (length c.args.values.now - length c.args.nodes.now) c.args.tally.now)) all
    ∙ more_steps-sum (length c.args.values.now - length c.args.nodes.now) (length c.args.nodes.now) c.args.tally.now ∙ ap (λ (n : ℕ). more_steps n c.args.tally.now) sum
